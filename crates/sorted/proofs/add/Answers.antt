-- `sorted::add` meets its contract: where k stands at its place nothing is to be done; else the slice is opened there.
use Rattle.sorted.proofs.AddLaws.{add_old, add_new}
use native.Mathlib.Omega.{arith}
use Rattle.sorted.proofs.add.Goals as goal

pub returns-in_default : goal.returns-in_default
returns-in_default c = add_old _ _ _ c.requires.1 (omega arith) _ c.in_default.ensures.position

pub returns : goal.returns
returns c = add_new _ _ _ c.requires.1 c.requires.0 _ c.in-Err.ensures.position _ c.copy_within.ensures.after

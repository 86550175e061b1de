use Rattle.graph.proofs.AnswerLaws.{put_none, put_next}
use native.Mathlib.Omega.{arith}
use Rattle.graph.proofs.put_stamps.Goals as goal

pub loop-i-init : goal.loop-i-init
loop-i-init c = put_none _ _ _ _ c.requires.room

pub loop-i-preserved : goal.loop-i-preserved
loop-i-preserved c = rw (c.put4.ensures, c.from.ensures) (put_next _ _ _ _ c.requires.room _ _ (omega arith) c.loop-i.invariant)

use Rattle.lists.proofs.RisingLaws.{rising_distinct}
use Rattle.version_order.specs.Judging.{passes}
use Rattle.version_order.proofs.NoteLaws.{noting_none, noting_next, noting_stop, noting_end}
use Rattle.std.proofs.lemmas.Result.{err_from_is_err_and}
use mathlib.Core.Path.{ap}
use native.Mathlib.Omega.{arith}
use Rattle.version_order.proofs.note_all.Goals as goal

pub loop-i-init : goal.loop-i-init
loop-i-init c = noting_none c.requires.4

-- the nodes rise, so they are distinct
pub loop-i-preserved : goal.loop-i-preserved
loop-i-preserved c =
    let i = c.loop-i.invariant in
    noting_next i (rising_distinct 0 _ c.args.committed.now.rising) c.requires.2 (omega arith) (omega arith) (rw c.be32-stamp.ensures at c.note.ensures)
    (ap passes c.in_ok-note.was)

pub returns-in_err-note : goal.returns-in_err-note
returns-in_err-note c =
    let p = err_from_is_err_and c.from_residual.result c.from_residual.ensures.1 in
    let i = c.loop-i.invariant in
    rw p.1 (noting_stop i (rising_distinct 0 _ c.args.committed.now.rising) c.requires.2 (omega arith) (omega arith)
    (rw c.be32-stamp.ensures at c.note.ensures) (ap passes c.in_err-note.was))

pub returns : goal.returns
returns c = noting_end c.loop-i.invariant (omega arith)

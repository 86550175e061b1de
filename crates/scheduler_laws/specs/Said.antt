-- The record that a reply tells of, from the operation and the reply alone.
-- Assumes nothing.
use Rattle.std.specs.Prelude.{cond, List, [], ◌∷◌, eqb}
use Rattle.log_format.specs.Events.{Event, begins, reads, writes, commits, aborts}
use Rattle.scheduler_rules.specs.declared.Op.{Op}
use Rattle.scheduler_rules.specs.declared.Reply.{Reply}

-- what an operation did that was answered 0, by kind; a read got the version and the value that the reply has
abbrev pub done_by : Op → Reply → Event
done_by op r =
    cond (eqb op.kind 1) (begins op.stamp.0)
    (cond (eqb op.kind 2) (reads op.stamp.0 op.item r.stamp.0 r.value)
    (cond (eqb op.kind 3) (writes op.stamp.0 op.item op.value)
    (cond (eqb op.kind 4) (commits op.stamp.0)
    (aborts op.stamp.0 0))))

-- code 0 tells of what was asked, code 8 of an abort of cause 1, every other code of nothing
abbrev pub said_by : Op → Reply → List Event
said_by op r = cond (eqb r.code 0) (done_by op r ∷ []) (cond (eqb r.code 8) (aborts op.stamp.0 1 ∷ []) [])

-- The loop's invariant: up to `i` the column is narrowed, and `left` counts what is kept.
use Rattle.version_columns.proofs.Narrow.{Narrowing}
use Rattle.version_columns.proofs.remove_in.Given as goal

abbrev pub invariant-loop-i : goal.invariant-loop-i
invariant-loop-i l = Narrowing l.stamp.0 l.stamps l.fn.column l.count l.column l.left l.i

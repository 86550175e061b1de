-- The loop's invariant: the matrix has the edges of the events so far, and these with the ones still to come are those of the log. The measure is what is
-- left of the bytes.
use lib.ListN.{length}
use Prim.Native.Nat.{◌-◌}
use Rattle.drawing.proofs.WalkLaws.{Drawing}
use Rattle.drawing.proofs.draw_log.Given as goal

abbrev pub invariant-loop-record : goal.invariant-loop-record
invariant-loop-record l = Drawing l.log l.nodes l.ranks.ranks.now l.ranks.count l.mat l.at.0

abbrev pub decreases-loop-record : goal.decreases-loop-record
decreases-loop-record l = length l.log - l.at.0

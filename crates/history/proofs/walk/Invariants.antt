-- The loop's invariant: the scan from the first field on is the scan from the place on, after the events that the map has. The measure is what is left of
-- the bytes.
use Prim.Native.Nat.{◌-◌}
use lib.ListN.{length}
use Rattle.history.proofs.WalkLaws.{Walking}
use Rattle.history.proofs.walk.Given as goal

abbrev pub invariant-loop-record : goal.invariant-loop-record
invariant-loop-record l = Walking l.log l.map (length l.fn.map) l.at.0 l.commits

abbrev pub decreases-loop-record : goal.decreases-loop-record
decreases-loop-record l = length l.log - l.at.0

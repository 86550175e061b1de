-- The loop's invariant: the stamps so far, with those of the commits still to come, are those of the whole log. The measure is what is left of the bytes.
use Prim.Native.Nat.{◌-◌}
use lib.ListN.{length}
use Rattle.history.proofs.NodesLaws.{Gathering}
use Rattle.history.proofs.gather.Given as goal

abbrev pub invariant-loop-record : goal.invariant-loop-record
invariant-loop-record l = Gathering l.log l.fn.nodes l.nodes l.at.0 l.count

abbrev pub decreases-loop-record : goal.decreases-loop-record
decreases-loop-record l = length l.log - l.at.0

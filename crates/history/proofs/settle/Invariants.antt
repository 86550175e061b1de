-- 26 is decided before the loop. The loop's invariant: what is settled from the first field on is settled from the place on. The measure is what is left of
-- the bytes.
use Prim.Native.Nat.{◌-◌}
use lib.ListN.{length}
use Rattle.history_rules.specs.Held.{stage_in}
use Rattle.index.specs.Index.{table_of}
use Rattle.history.proofs.SettleLaws.{Settling}
use Rattle.history.proofs.settle.Given as goal

abbrev pub invariant-loop-record : goal.invariant-loop-record
invariant-loop-record l = Settling l.log (stage_in (table_of l.noted.map.now)) l.at.0

abbrev pub decreases-loop-record : goal.decreases-loop-record
decreases-loop-record l = length l.log - l.at.0

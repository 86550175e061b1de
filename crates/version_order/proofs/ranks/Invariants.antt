-- `version_order::ranks` meets its contract: at each turn the fields so far are walked, their items rise below `least` and their ranks stand; a field that
-- falls, is of no item or fails its test fails the order's.
use Prim.Native.Nat.{◌-◌}
use mathlib.Core.Path.{◌≡◌}
use lib.ListN.{length}
use Rattle.history_rules.specs.Held.{written_in}
use Rattle.index.specs.Index.{table_of}
use Rattle.version_order.proofs.WalkLaws.{Walked}
use Rattle.version_order.proofs.ranks.Given as goal

abbrev pub invariant-loop-head : goal.invariant-loop-head
invariant-loop-head l =
    (Walked (written_in (table_of l.committed.map.now)) l.committed.nodes.now l.order l.rank l.at l.least) × (length l.rank ≡ length l.fn.rank)

abbrev pub decreases-loop-head : goal.decreases-loop-head
decreases-loop-head l = length l.order - l.at

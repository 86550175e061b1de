-- `order_writer::needed` meets its contract: the loop's invariant is the bytes of the fields of the items so far.
use Prim.Native.Nat.{◌-◌, ◌+◌, ◌*◌, ◌≤◌}
use mathlib.Core.Path.{◌≡◌}
use lib.ListN.{length}
use Rattle.order_rules.specs.Fields.{order_of}
use Rattle.order_rules.specs.Right.{all_items}
use Rattle.order_rules.specs.Timestamps.{versions_by, fields_up, order_by}
use Rattle.history_rules.specs.Held.{written_in}
use Rattle.index.specs.Index.{table_of}
use Rattle.order_writer.proofs.needed.Given as goal

abbrev pub invariant-loop-item : goal.invariant-loop-item
invariant-loop-item l =
    (l.size + length (order_of (fields_up (versions_by (written_in (table_of l.committed.map.now)) l.committed.nodes.now) (all_items - l.item) l.item))
    ≡ length (order_by (written_in (table_of l.committed.map.now)) l.committed.nodes.now)) × (l.size ≤ l.item * 1028)

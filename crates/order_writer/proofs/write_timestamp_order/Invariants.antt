-- `order_writer::write_timestamp_order` meets its contract: the order's bytes are counted before one is written; the loop's invariant is that the
-- fields of the items so far stand at the front.
use Prim.Native.Nat.{◌-◌}
use Rattle.order_rules.specs.Fields.{order_of}
use Rattle.order_rules.specs.Right.{all_items}
use Rattle.order_rules.specs.Timestamps.{versions_by, fields_up, order_by}
use Rattle.history_rules.specs.Held.{written_in}
use Rattle.index.specs.Index.{table_of}
use Rattle.order_writer.proofs.WritingLaws.{Writing}
use Rattle.order_writer.proofs.write_timestamp_order.Given as goal

abbrev pub invariant-loop-item : goal.invariant-loop-item
invariant-loop-item l =
    Writing l.fn.out 0 (order_by (written_in (table_of l.committed.map.now)) l.committed.nodes.now)
    (order_of (fields_up (versions_by (written_in (table_of l.committed.map.now)) l.committed.nodes.now) (all_items - l.item) l.item)) l.out l.at

-- `order_writer::put_stamps` meets its contract: the loop's invariant is that the stamps of the nodes so far are written.
use lib.ListN.{drop}
use Rattle.log_format.specs.Bytes.{stamp_bytes}
use Rattle.order_rules.specs.Timestamps.{versions_by}
use Rattle.history_rules.specs.Held.{written_in}
use Rattle.index.specs.Index.{table_of}
use Rattle.order_writer.proofs.WritingLaws.{Writing}
use Rattle.order_writer.proofs.put_stamps.Given as goal

abbrev pub invariant-loop-stamp : goal.invariant-loop-stamp
invariant-loop-stamp l =
    Writing l.fn.out l.at (stamp_bytes (versions_by (written_in (table_of l.committed.map.now)) l.committed.nodes.now l.item))
    (stamp_bytes (versions_by (written_in (table_of l.committed.map.now)) (drop l.stamp-index l.committed.nodes.now) l.item)) l.out l.next

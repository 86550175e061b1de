-- `order_writer::put_field` meets its contract: the front and then the stamps are one write; an item without a version writes nothing.
use Rattle.history_rules.specs.Held.{written_in}
use Rattle.index.specs.Index.{table_of}
use Rattle.order_rules.specs.Timestamps.{versions_by}
use Rattle.order_writer.proofs.WritingLaws.{field_empty, field_placed}
use Rattle.order_writer.proofs.put_field.Goals as goal

pub returns-then-versions-eq0 : goal.returns-then-versions-eq0
returns-then-versions-eq0 c =
    let a = c.args in
    field_empty a.item (versions_by (written_in (table_of a.committed.now.map.now)) a.committed.now.nodes.now a.item) _
    c.count_versions-versions.ensures.0 a.out.now a.at c.if-versions-eq0.true

pub returns : goal.returns
returns c =
    let a = c.args in
    field_placed a.item (versions_by (written_in (table_of a.committed.now.map.now)) a.committed.now.nodes.now a.item) _
    c.count_versions-versions.ensures.0 a.out.now a.at c.if-versions-eq0.false
    c.requires.1 _ c.put_front.ensures _ _
    c.put_stamps.ensures

use Prim.Native.Nat.{◌-◌, ◌+◌}
use Rattle.history_rules.specs.Held.{written_in}
use Rattle.index.specs.Index.{table_of}
use Rattle.order_rules.specs.Fields.{order_of}
use Rattle.order_rules.specs.Right.{all_items}
use Rattle.order_rules.specs.Timestamps.{versions_by, fields_up, order_by}
use Rattle.order_writer.proofs.WritingLaws.{writing_none, writing_room, writing_next, writing_end, piece_room, order_next}
use Rattle.order_writer.proofs.WritingLaws.{order_none, order_all, wrote_all}
use Rattle.order_writer.specs.Writing.{field_bytes}
use lib.ListN.{length}
use native.Mathlib.Omega.{arith}
use Rattle.order_writer.proofs.write_timestamp_order.Goals as goal

pub loop-item-init : goal.loop-item-init
loop-item-init c =
    let a = c.args in
    rw (order_all (written_in (table_of a.committed.now.map.now)) a.committed.now.nodes.now) (writing_none a.out.now 0 _)

pub put_field-at-requires : goal.put_field-at-requires
put_field-at-requires c =
    let a = c.args in
    let m = c.loop-item in
    let wr = written_in (table_of a.committed.now.map.now) in
    let l = a.committed.now.nodes.now in
    let z = c.needed-size.ensures in
    let s = order_next (versions_by wr l) m.item c.loop-item-test.true in
    let r = writing_room a.out.now 0 (order_by wr l) (omega arith) _ m.out m.at m.invariant in (
      c.requires,
      piece_room (field_bytes m.item (versions_by wr l m.item))
          (order_of (fields_up (versions_by wr l) (all_items - (m.item + 1)) (m.item + 1))) _ m.at (length m.out) s r.0,
    )

pub loop-item-preserved : goal.loop-item-preserved
loop-item-preserved c =
    let a = c.args in
    let m = c.loop-item in
    let wr = written_in (table_of a.committed.now.map.now) in
    let l = a.committed.now.nodes.now in
    let z = c.needed-size.ensures in
    let s = order_next (versions_by wr l) m.item c.loop-item-test.true in
    writing_next a.out.now 0 (order_by wr l) (omega arith) _ m.out m.at m.invariant _ _ s _ _
    c.put_field-at.ensures

pub returns : goal.returns
returns c =
    let a = c.args in
    let m = c.loop-item in
    let wr = written_in (table_of a.committed.now.map.now) in
    let l = a.committed.now.nodes.now in
    let z = c.needed-size.ensures in
    let p = writing_end a.out.now 0 (order_by wr l) _ m.out m.at m.invariant (order_none (versions_by wr l) m.item (omega arith)) in
    wrote_all a.out.now (order_by wr l) _ c.needed-size.ensures (omega arith) m.out p.bytes

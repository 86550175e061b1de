use Prim.Native.Nat.{◌+◌}
use Rattle.history_rules.specs.Held.{written_in}
use Rattle.index.specs.Index.{table_of}
use Rattle.log_format.specs.Bytes.{stamp_bytes}
use Rattle.order_rules.specs.Timestamps.{versions_by}
use Rattle.order_writer.proofs.WritingLaws.{writing_none, writing_room, writing_next, writing_end, piece_room, stamps_next, stamps_none}
use Rattle.order_writer.specs.Writing.{stamp_if}
use lib.ListN.{length, drop, get_or}
use mathlib.Core.Path.{◌≡◌}
use native.Mathlib.Omega.{arith}
use Rattle.order_writer.proofs.put_stamps.Goals as goal

pub loop-stamp-init : goal.loop-stamp-init
loop-stamp-init c = writing_none c.args.out.now c.args.at _

pub put_if-next-requires : goal.put_if-next-requires
put_if-next-requires c =
    let a = c.args in
    let m = c.loop-stamp in
    let wr = written_in (table_of a.committed.now.map.now) in
    let nodes = a.committed.now.nodes.now in
    let s = stamps_next wr a.item nodes m.stamp-index c.loop-stamp-test.true in
    let r = writing_room a.out.now a.at (stamp_bytes (versions_by wr nodes a.item)) c.requires _ m.out m.next m.invariant in
    piece_room (stamp_if wr a.item (get_or nodes m.stamp-index 0)) (stamp_bytes (versions_by wr (drop (m.stamp-index + 1) nodes) a.item)) _ m.next
    (length m.out) s r.0

pub loop-stamp-preserved : goal.loop-stamp-preserved
loop-stamp-preserved c =
    let a = c.args in
    let m = c.loop-stamp in
    let wr = written_in (table_of a.committed.now.map.now) in
    let nodes = a.committed.now.nodes.now in
    let s = stamps_next wr a.item nodes m.stamp-index c.loop-stamp-test.true in
    writing_next a.out.now a.at (stamp_bytes (versions_by wr nodes a.item)) c.requires _ m.out m.next m.invariant _ _ s _ _ c.put_if-next.ensures

pub returns : goal.returns
returns c =
    let a = c.args in
    let m = c.loop-stamp in
    let wr = written_in (table_of a.committed.now.map.now) in
    let nodes = a.committed.now.nodes.now in
    let e : m.stamp-index ≡ length nodes = omega arith in
    writing_end a.out.now a.at (stamp_bytes (versions_by wr nodes a.item)) _ m.out m.next m.invariant (rw e (stamps_none wr a.item nodes))

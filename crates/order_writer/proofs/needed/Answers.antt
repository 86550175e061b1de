use Rattle.history_rules.specs.Held.{written_in}
use Rattle.index.specs.Index.{table_of}
use Rattle.order_rules.specs.Timestamps.{versions_by}
use Rattle.order_writer.proofs.WritingLaws.{length_next, order_none, order_all}
use Rattle.order_writer.specs.Writing.{size_of}
use lib.ListN.{length}
use mathlib.Core.Path.{ap}
use native.Mathlib.Omega.{arith}
use Rattle.order_writer.proofs.needed.Goals as goal

pub loop-item-init : goal.loop-item-init
loop-item-init c =
    let a = c.args in
    let e = ap length (order_all (written_in (table_of a.committed.now.map.now)) a.committed.now.nodes.now) in
    (omega arith, omega arith)

pub loop-item-preserved : goal.loop-item-preserved
loop-item-preserved c =
    let a = c.args in
    let m = c.loop-item in
    let e = length_next (versions_by (written_in (table_of a.committed.now.map.now)) a.committed.now.nodes.now) m.item (omega arith) in
    let s = ap size_of c.count_versions.ensures.0 in
    let r = c.field_size-size.ensures.0 in
    let q = c.field_size-size.ensures.1 in
    (omega arith, omega arith)

pub returns : goal.returns
returns c =
    let a = c.args in
    let m = c.loop-item in
    let e = ap length (order_none (versions_by (written_in (table_of a.committed.now.map.now)) a.committed.now.nodes.now) m.item (omega arith)) in
    omega arith

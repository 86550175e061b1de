use Rattle.std.proofs.Common.{arith}
use Rattle.version_columns.proofs.Narrow.{narrowing_from, narrowing_skip, narrowing_keep}
use Rattle.version_columns.proofs.remove_in.Goals as goal
use Rattle.version_columns.proofs.remove_in.Goals.{then-stamps-i, else-stamps-i}

pub loop-i-init : goal.loop-i-init
loop-i-init c = narrowing_from c.args.stamp.0 c.args.stamps.now c.args.column.now c.args.count c.args.from (omega arith) (omega arith) (omega arith) c.requires.2

pub loop-i-preserved : goal.loop-i-preserved
loop-i-preserved c =
    let p = c.loop-i in
    let k = c.args.stamp.0 in
    let ks = c.args.stamps.now in
    let a = c.args.column.now in
    let n = c.args.count in
    elim c.if-stamps-i.branch [
      | then-stamps-i w ↦
          rw (w.column-is, w.left-is) (narrowing_keep k ks a n p.i p.left p.column p.invariant c.loop-i-test.true (omega arith) (omega arith) w.if-stamps-i.true)
      | else-stamps-i w ↦
          rw (w.column-is, w.left-is) (narrowing_skip k ks a n p.i p.left p.column p.invariant c.loop-i-test.true (omega arith) (omega arith) w.if-stamps-i.false)
    ]

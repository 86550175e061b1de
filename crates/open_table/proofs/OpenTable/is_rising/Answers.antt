use Rattle.std.proofs.Common.{◌∙◌, take, sym}
use mathlib.Core.Bool.{and-true}
use lib.ListN.{drop_of_length-le}
use Rattle.open_table.proofs.BitLaws.{is_le-cmp, is_lt-cmp}
use Rattle.open_table.proofs.ScanLaws.{rises_next}
use Rattle.open_table.proofs.OpenTable.is_rising.Goals as goal

pub loop-k-preserved : goal.loop-k-preserved
loop-k-preserved c =
    let p = c.loop-k in
    let t = c.args.self.now in
    rw (c.lt.ensures, c.le.ensures, is_lt-cmp, is_le-cmp) (rises_next (take t.count t.stamps) p.k-index c.loop-k-test.true p.rising p.before.0 c.args.last.0 ∙ p.invariant)

pub returns : goal.returns
returns c =
    let p = c.loop-k in
    let l = take c.args.self.now.count c.args.self.now.stamps in
    sym (and-true p.rising) ∙ rw (drop_of_length-le l c.loop-k-test.false) at p.invariant

-- `OpenTable::has` meets its contract: the slice that is searched holds the table's stamps.
use Rattle.std.proofs.Common.{◌≡◌, ◌∙◌, length, take, arith}
use Rattle.open_table.proofs.TableLaws.{taken_all}
use Rattle.open_table.proofs.ScanLaws.{any_holds}
use Rattle.open_table.proofs.OpenTable.has.Goals as goal

pub returns : goal.returns
returns c =
    let t = c.args.self.now in
    let places : length t.stamps ≡ 32 = omega arith in
    let all : take c.taken.result t.stamps ≡ take t.count t.stamps = taken_all t.stamps t.count c.taken.result places c.taken.ensures in
    rw (← all) (c.contains.ensures.value ∙ any_holds c.args.k (take c.taken.result t.stamps))

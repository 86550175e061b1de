-- `OpenTable::is_blank` meets its contract: numbers or-ed together are 0 where each is.
use Rattle.std.proofs.Common.{◌≡◌, ℕ, drop, fold, bit_or, arith}
use Rattle.std.proofs.lemmas.Grind.{common_steps}
use Rattle.log_format.specs.declared.Stamp.{Stamp}
use Rattle.open_table.proofs.ScanLaws.{zeros_folded}
use Rattle.open_table.proofs.OpenTable.is_blank.Goals as goal

pub returns : goal.returns
returns c =
    let t = c.args.self.now in
    let folded : c.fold.result ≡ fold (λ (n : ℕ) (k : Stamp). bit_or n k.0) 0 (drop t.count t.stamps) = grind (arith, common_steps) in
    rw folded (zeros_folded 0 (drop t.count t.stamps))

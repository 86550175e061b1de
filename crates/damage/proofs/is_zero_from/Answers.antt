use Rattle.std.proofs.Common.{◌≡◌, drop, fold, bit_or, arith}
use Rattle.std.proofs.lemmas.Grind.{common_steps}
use Rattle.damage.proofs.PassLaws.{zeros_folded}
use Rattle.damage.proofs.is_zero_from.Goals as goal

pub returns : goal.returns
returns c =
    let rest = drop c.args.from c.args.column.now in
    let folded : c.fold.result ≡ fold bit_or 0 rest = grind (arith, common_steps) in
    rw folded (zeros_folded 0 rest)

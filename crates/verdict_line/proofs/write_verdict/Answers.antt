-- `verdict_line::write_verdict` meets its contract: what the check answers and leaves in the answer tells the verdict's line.
use Rattle.std.proofs.Common.{rules}
use Rattle.verdict_line.proofs.TellingLaws.{told_few, told-written}
use Rattle.verdict_line.proofs.write_verdict.Goals as goal

pub put_verdict-requires : goal.put_verdict-requires
put_verdict-requires c =
    (told_few (λ i. (c.type_inv.log i).fits) (λ i. (c.type_inv.order i).fits) c.check-told.ensures, search rules, search rules)

pub returns : goal.returns
returns c =
    told-written (λ i. (c.type_inv.log i).fits) (λ i. (c.type_inv.order i).fits) c.check-told.ensures _ _ _ c.put_verdict.ensures
    (search rules)

-- `reply_lines::Line::number` meets its contract: the library prints the number's digits.
use Rattle.std.proofs.Common.{◌≡◌, ◌∙◌, arith}
use Rattle.line_format.specs.Decimals.{digits}
use Rattle.line_format.proofs.DecimalLaws.{decimal_is}
use Rattle.reply_lines.proofs.Line.number.Goals as goal

pub word-requires : goal.word-requires
word-requires c =
    let e : c.as_bytes.result.now ≡ digits c.args.n = c.as_bytes.ensures.value ∙ c.format.ensures.text ∙ decimal_is _ (omega arith) in
    rw e c.requires

pub returns-clause-put : goal.returns-clause-put
returns-clause-put c =
    let e : c.as_bytes.result.now ≡ digits c.args.n = c.as_bytes.ensures.value ∙ c.format.ensures.text ∙ decimal_is _ (omega arith) in
    rw (← e) c.word.ensures.put

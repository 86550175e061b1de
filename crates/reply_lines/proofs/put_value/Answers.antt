-- `reply_lines::put_value` meets its contract: five writes in a row are one. A number of 32 bits has at most 10 digits.
use Rattle.std.proofs.Common.{arith, rules}
use Rattle.line_format.proofs.DecimalLaws.{ten_digits}
use Rattle.reply_lines.proofs.PutLaws.{put_then}
use Rattle.reply_lines.proofs.put_value.Goals as goal

pub number-requires : goal.number-requires
number-requires c = omega (arith, ten_digits c.from.result (omega (arith, c.from.ensures)))

pub word-requires-2 : goal.word-requires-2
word-requires-2 c = omega (arith, ten_digits c.from.result (omega (arith, c.from.ensures)))

pub number-requires-2 : goal.number-requires-2
number-requires-2 c = omega (arith, ten_digits c.from.result (omega (arith, c.from.ensures)), ten_digits c.from-2.result (omega (arith, c.from-2.ensures)))

pub word-requires-3 : goal.word-requires-3
word-requires-3 c = omega (arith, ten_digits c.from.result (omega (arith, c.from.ensures)), ten_digits c.from-2.result (omega (arith, c.from-2.ensures)))

pub returns : goal.returns
returns c =
    let v = ten_digits c.from.result (omega (arith, c.from.ensures)) in
    let s = ten_digits c.from-2.result (omega (arith, c.from-2.ensures)) in
    let p₁ = put_then c.word.ensures.put c.number.ensures.put (omega arith) in
    let p₂ = put_then p₁ c.word-2.ensures.put (omega arith) in
    let p₃ = put_then p₂ c.number-2.ensures.put (omega arith) in
    let p = rw (c.from.ensures, c.from-2.ensures) at (put_then p₃ c.word-3.ensures.put (omega arith)) in
    search (rules, p)

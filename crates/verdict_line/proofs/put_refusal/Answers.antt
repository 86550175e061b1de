-- `verdict_line::put_refusal` meets its contract: four writes in a row are one. The code has at most 10 digits, the number at most 20.
use Rattle.std.proofs.Common.{arith, rules}
use Rattle.line_format.proofs.DecimalLaws.{ten_digits, twenty_digits}
use Rattle.reply_lines.proofs.PutLaws.{put_then}
use Rattle.verdict_line.proofs.SpacedLaws.{spaced-length}
use Rattle.verdict_line.proofs.put_refusal.Goals as goal

pub put_spaced-requires : goal.put_spaced-requires
put_spaced-requires c = omega (arith, ten_digits c.from.result (omega (arith, c.from.ensures)))

pub put_spaced-requires-2 : goal.put_spaced-requires-2
put_spaced-requires-2 c =
    let d = ten_digits c.from.result (omega (arith, c.from.ensures)) in
    let e = twenty_digits c.args.number (omega arith) in
    omega (arith, spaced-length)

pub word-requires-2 : goal.word-requires-2
word-requires-2 c =
    let d = ten_digits c.from.result (omega (arith, c.from.ensures)) in
    let e = twenty_digits c.args.number (omega arith) in
    omega (arith, spaced-length)

pub returns : goal.returns
returns c =
    let d = ten_digits c.from.result (omega (arith, c.from.ensures)) in
    let e = twenty_digits c.args.number (omega arith) in
    let f = spaced-length c.from.result in
    let g = spaced-length c.args.number in
    let p = put_then c.word.ensures.put c.put_spaced.ensures.put (omega arith) in
    let q = put_then p c.put_spaced-2.ensures.put (omega arith) in
    let r = rw c.from.ensures at (put_then q c.word-2.ensures.put (omega arith)) in
    search (rules, r)

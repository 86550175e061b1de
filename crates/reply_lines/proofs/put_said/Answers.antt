-- `reply_lines::put_said` meets its contract: three writes in a row are one. A number of 64 bits has at most 20 digits.
use Rattle.std.proofs.Common.{arith, rules}
use Rattle.line_format.proofs.DecimalLaws.{twenty_digits}
use Rattle.reply_lines.proofs.PutLaws.{put_then}
use Rattle.reply_lines.proofs.put_said.Goals as goal

pub number-requires : goal.number-requires
number-requires c = omega (arith, twenty_digits c.args.n (omega arith), c.word.ensures.put.next)

pub word-requires-2 : goal.word-requires-2
word-requires-2 c = omega (arith, twenty_digits c.args.n (omega arith), c.word.ensures.put.next, c.number.ensures.put.next)

pub returns : goal.returns
returns c =
    let few = twenty_digits c.args.n (omega arith) in
    let p = put_then (put_then c.word.ensures.put c.number.ensures.put (omega arith)) c.word-2.ensures.put (omega arith) in
    search (rules, p)

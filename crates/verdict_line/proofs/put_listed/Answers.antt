-- `verdict_line::put_listed` meets its contract: three writes in a row are one. Each stamp takes at most 11 bytes.
use Rattle.std.proofs.Common.{arith, rules}
use Rattle.reply_lines.proofs.PutLaws.{put_then}
use Rattle.verdict_line.proofs.SpacedLaws.{stamps_short}
use Rattle.verdict_line.proofs.put_listed.Goals as goal

pub word-requires-2 : goal.word-requires-2
word-requires-2 c = omega (arith, stamps_short c.args.answer.now (λ i. (c.type_inv.answer i).fits) c.args.n)

pub returns : goal.returns
returns c =
    let h = stamps_short c.args.answer.now (λ i. (c.type_inv.answer i).fits) c.args.n in
    let p = put_then (put_then c.word.ensures.put c.put_stamps.ensures.put (omega arith)) c.word-2.ensures.put (omega arith) in
    search (rules, p)

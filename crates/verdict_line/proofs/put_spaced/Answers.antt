-- `verdict_line::put_spaced` meets its contract: two writes in a row are one.
use Rattle.std.proofs.Common.{arith}
use Rattle.reply_lines.proofs.PutLaws.{put_then}
use Rattle.verdict_line.proofs.put_spaced.Goals as goal

pub returns-clause-put : goal.returns-clause-put
returns-clause-put c = put_then c.word.ensures.put c.number.ensures.put (omega arith)

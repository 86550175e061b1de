-- `reply_lines::Line::word` meets its contract: the word is copied into the buffer's part.
use Rattle.reply_lines.proofs.PutLaws.{put_copied}
use Rattle.reply_lines.proofs.Line.word.Goals as goal

pub returns-clause-put : goal.returns-clause-put
returns-clause-put c = put_copied _ _ _ _ c.copy_from_slice.ensures.after

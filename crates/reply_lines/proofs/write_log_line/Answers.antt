-- `reply_lines::write_log_line` meets its contract: the line has at most 25 bytes, so it fits the 40.
use Rattle.std.proofs.Common.{arith}
use Rattle.line_format.proofs.ReplyLaws.{log_short}
use Rattle.reply_lines.proofs.PutLaws.{put_written}
use Rattle.reply_lines.proofs.write_log_line.Goals as goal

pub returns : goal.returns
returns c = put_written c.put_said.ensures (omega (arith, log_short c.args.used (omega arith)))

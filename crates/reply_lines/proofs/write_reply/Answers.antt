-- `reply_lines::write_reply` meets its contract: no reply's line is over 33 bytes, so it fits the 40.
use Rattle.std.proofs.Common.{arith}
use Rattle.line_format.proofs.ReplyLaws.{reply_short}
use Rattle.reply_lines.proofs.PutLaws.{put_written}
use Rattle.reply_lines.proofs.write_reply.Goals as goal

pub returns : goal.returns
returns c =
    put_written c.put_reply.ensures (omega (arith, reply_short c.args.op c.args.r (omega arith) (omega arith) (omega arith)))

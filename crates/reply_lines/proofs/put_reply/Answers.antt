-- `reply_lines::put_reply` meets its contract: each arm is a case of the relation between a reply and its line.
use Rattle.std.proofs.Common.{rules}
use Rattle.line_format.specs.ReplyLines.Replied.{value, ok, wait, late, refused}
use Rattle.reply_lines.proofs.PutLaws.{put_replied}
use Rattle.reply_lines.proofs.put_reply.Goals as goal

pub returns-in-0 : goal.returns-in-0
returns-in-0 c = put_replied _ _ (value c.in-0.is c.if-op-eq2.true) c.put_value.ensures

pub returns-in-0-2 : goal.returns-in-0-2
returns-in-0-2 c = put_replied _ _ (ok c.in-0.is c.if-op-eq2.false) c.put_word.ensures

pub returns-in-6 : goal.returns-in-6
returns-in-6 c = put_replied _ _ (wait c.in-6.is) (rw c.from.ensures at c.put_said.ensures)

pub returns-in-8 : goal.returns-in-8
returns-in-8 c = put_replied _ _ (late c.in-8.is) (rw c.from-in-8.ensures at c.put_said-in-8.ensures)

pub returns-in_default : goal.returns-in_default
returns-in_default c = put_replied _ _ (refused (search rules) (search rules) (search rules)) (rw c.from-in_default.ensures at c.put_said-in_default.ensures)

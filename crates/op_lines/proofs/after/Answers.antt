-- `op_lines::after` meets its contract: the library's test of a front is the definition's.
use Rattle.line_format.proofs.PlaceLaws.{word_after}
use Rattle.op_lines.proofs.after.Goals as goal

pub returns : goal.returns
returns c = rw c.then_some.ensures (word_after _ _ _ c.starts_with.ensures.value)

-- `op_lines::more_digits` meets its contract. The loop's invariant: the answer is that of the number so far and the digits from the place on.
use Rattle.std.proofs.Common.{◌≡◌, drop}
use Rattle.line_format.specs.Decimals.{more_digits}
use Rattle.op_lines.proofs.more_digits.Given as goal

abbrev pub invariant-loop-at : goal.invariant-loop-at
invariant-loop-at l = more_digits l.first l.from (drop l.from l.line) ≡ more_digits l.n l.at (drop l.at l.line)

-- `verdict_line::put_stamps` meets its contract. The loop's invariant: the first i stamps are written, and took at most 11 bytes each.
use Rattle.std.proofs.Common.{◌≡◌}
use Rattle.verdict_line.proofs.SpacedLaws.{Listing}
use Rattle.verdict_line.proofs.put_stamps.Given as goal

abbrev pub invariant-loop-i : goal.invariant-loop-i
invariant-loop-i l =
    (l.line.out.ghost_name ≡ l.initial.line.out.ghost_name)
    × Listing l.answer l.initial.line.out.now l.initial.line.len l.n l.i l.line.len l.line.out.now

-- The loop's invariant: all rise so far and the rest does, exactly where the whole rises.
use Rattle.std.proofs.Common.{◌≡◌, map, drop, ◌&&◌}
use Rattle.open_table.specs.Open.{number, stamps_of}
use Rattle.open_table.specs.Intact.{rises}
use Rattle.open_table.proofs.OpenTable.is_rising.Given as goal

abbrev pub invariant-loop-k : goal.invariant-loop-k
invariant-loop-k l = (l.rising && rises l.before.0 l.last.0 (map number (drop l.k-index l.k-items))) ≡ rises 0 l.last.0 (stamps_of l.self)

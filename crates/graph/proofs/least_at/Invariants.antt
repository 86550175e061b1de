-- `graph::least_at` meets its contract: among the nodes passed, it is the first place of the smallest.
use Rattle.std.proofs.Common.{nat_lt}
use Rattle.std.specs.List.{IsFirstBest}
use Rattle.graph.proofs.least_at.Given as goal

abbrev pub invariant-loop-i : goal.invariant-loop-i
invariant-loop-i l = IsFirstBest nat_lt l.cycle l.i l.least

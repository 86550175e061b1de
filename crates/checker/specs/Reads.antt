-- What the verdict on the graph of a log that was read answers and leaves.
-- Assumes nothing.
use Rattle.std.specs.Prelude.{ℕ, ◌≡◌, List}
use Rattle.log_format.specs.Events.{Event}
use Rattle.history_rules.specs.History.{passed, history_of}
use Rattle.serial_theory.specs.Edges.{VersionOrder}
use Rattle.serial_theory.specs.Judged.{verdict}
use Rattle.edges.specs.Ranked.{Ranked}
use Rattle.graph.specs.Answer.{Answered}
use Rattle.graph_theory.specs.declared.Verdict.{Verdict as Counted}

-- the graph's answer and what it leaves in the buffer: for a log that passes, an order of its versions and their ranks, the verdict's
pub record GraphIs (s nodes rank : List ℕ) (count : ℕ) (b : List ℕ) (r : Counted) (b' : List ℕ) : Type 0 where
  pub answered : (log : List Event) (vs : ℕ → List ℕ) → history_of s ≡ passed log → VersionOrder log vs → Ranked log vs nodes rank count
      → Answered (verdict log vs) b b' r

-- The verdict on a log under a version order, and what it says.
-- Assumes nothing.
use Rattle.std.specs.Prelude.{ℕ, ◌≤◌, ◌≡◌, List, [], ◌∷◌, length}
use Rattle.lists.specs.Member.{◌∈◌}
use Rattle.lists.specs.Order.{Distinct, insert}
use Rattle.log_format.specs.Events.{Event, begins, reads, writes, commits, aborts}
use Rattle.log_format.specs.Told.{Done}
use Rattle.history_rules.specs.WellFormed.{count_commits}
use Rattle.graph_theory.specs.Graph.{Closed, Topological, SmallestFirst}
use Rattle.graph_theory.specs.Taking.{Takes}
use Rattle.graph_theory.specs.Verdict.{Verdict, accepted, cycle, verdict_of}
use Rattle.serial_theory.specs.Edges.{Edge}
use Rattle.serial_theory.specs.EdgeTest.{edge}
use Rattle.serial_theory.specs.Serial.{SerialOrder, SerialVersions}

-- the nodes: the committed transactions, rising
unfoldable pub committed : List Event → List ℕ
committed [] = []
committed (begins t ∷ log) = committed log
committed (reads t x j v ∷ log) = committed log
committed (writes t x v ∷ log) = committed log
committed (commits t ∷ log) = insert t (committed log)
committed (aborts t c ∷ log) = committed log

-- accepted with the stamps taken smallest first, or a cycle
unfoldable pub verdict : List Event → (ℕ → List ℕ) → Verdict
verdict log vs = verdict_of (edge log vs) (committed log)

module _ (log : List Event) (vs : ℕ → List ℕ) where
  -- a cycle: a closed path along edges
  abbrev pub CycleOf : List ℕ → Type 0
  CycleOf c = Closed (Edge log vs) c

  -- accepted with the stamps o: there is no cycle, and o is a serial order, with every committed transaction, smallest first
  pub record Accepted (o : List ℕ) : Type 0 where
    pub acyclic : (c : List ℕ) → ¬ CycleOf c
    pub topological : Topological (Edge log vs) (committed log) o
    pub serial : SerialOrder log o
    pub versions : SerialVersions log o
    pub smallest : Takes (Edge log vs) (committed log) o []
    pub number : length o ≡ count_commits log

  -- a cycle with the stamps c: they are one, along its edges, the smallest first, none twice, all committed
  pub record Cyclic (c : List ℕ) : Type 0 where
    pub cycle : CycleOf c
    pub nodes : (t : ℕ) → t ∈ c → Done t log
    pub once : Distinct c
    pub smallest : SmallestFirst c
    pub number : length c ≤ count_commits log

  -- what a verdict says
  abbrev pub Judged : Verdict → Type 0
  Judged (accepted o) = Accepted o
  Judged (cycle c) = Cyclic c

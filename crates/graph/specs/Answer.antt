-- The answer of the graph and what is written: the stamps of the verdict, 4 bytes each, high byte first.
-- Assumes nothing.
use Rattle.std.specs.Prelude.{ℕ, ◌≡◌, List, ◌++◌, map, take, drop, length, get_or, nat_lt}
use Rattle.std.specs.List.{IsFirstBest}
use Rattle.log_format.specs.Bytes.{stamp_bytes, splice}
use Rattle.graph_theory.specs.Verdict.{Verdict, accepted, cycle, stamps_of, verdict_of}
use Rattle.graph_theory.specs.Standing.{renamed}
use Rattle.edges.specs.Matrix.{edge_at}
use Rattle.taking.specs.Nodes.{indices}
use Rattle.graph_theory.specs.declared.Verdict.{Verdict as Counted}
use Rattle.graph_theory.specs.declared.Verdict.TheVariants.{Accepted, Cycle}

-- how many stamps an answer has
abbrev pub found_number : Counted → ℕ
found_number (Accepted n) = n
found_number (Cycle n) = n

-- the stamps of nodes
abbrev pub stamps_at : List ℕ → List ℕ → List ℕ
stamps_at nodes l = map (λ (k : ℕ). get_or nodes k 0) l

-- the stamps of a cycle of nodes are written, turned so that the smallest comes first
pub record Turned (nodes cycle answer after : List ℕ) : Type 0 where
  pub place : ℕ
  pub least : IsFirstBest nat_lt cycle (length cycle) place
  pub is : after ≡ splice answer 0 (stamp_bytes (stamps_at nodes (drop place cycle ++ take place cycle)))

-- the verdict on the graph of a matrix over the nodes below count, with their stamps
unfoldable pub verdict_at : List ℕ → ℕ → List ℕ → Verdict
verdict_at m count nodes = renamed (λ (k : ℕ). get_or nodes k 0) (verdict_of (edge_at m) (indices count))

-- a verdict as an answer: which, and how many stamps
abbrev pub found_of : Verdict → Counted
found_of (accepted o) = Accepted (length o)
found_of (cycle c) = Cycle (length c)

-- the answer is the verdict's, the verdict's stamps stand at the front of `after`, and every other byte is that of `answer`
pub record Answered (v : Verdict) (answer after : List ℕ) (r : Counted) : Type 0 where
  pub found : r ≡ found_of v
  pub bytes : after ≡ splice answer 0 (stamp_bytes (stamps_of v))

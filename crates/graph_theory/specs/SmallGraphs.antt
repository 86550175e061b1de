-- Small graphs and their verdicts, worked.
-- Assumes nothing.
use Rattle.std.specs.Prelude.{ℕ, ◌≡◌, List, [], ◌∷◌, Bool, ◌&&◌, eqb}
use Rattle.lists.specs.Tests.{any}
use Rattle.graph_theory.specs.Verdict.{accepted, cycle, verdict_of}

-- the edges of a list
abbrev pub edges_of : List (ℕ × ℕ) → ℕ → ℕ → Bool
edges_of l a b = any (λ (e : ℕ × ℕ). eqb e.0 a && eqb e.1 b) l

pub record SmallGraphs : Type 0 where
  -- the smallest that can be taken is not the smallest
  pub ordered : verdict_of (edges_of ((3, 1) ∷ (1, 2) ∷ [])) (1 ∷ 2 ∷ 3 ∷ 4 ∷ []) ≡ accepted (3 ∷ 1 ∷ 2 ∷ 4 ∷ [])
  -- a cycle of three, with a node before it and one after it
  pub ring : verdict_of (edges_of ((1, 2) ∷ (4, 2) ∷ (2, 3) ∷ (3, 4) ∷ (4, 5) ∷ [])) (1 ∷ 2 ∷ 3 ∷ 4 ∷ 5 ∷ []) ≡ cycle (2 ∷ 3 ∷ 4 ∷ [])
  -- the smallest left, 2, is not on the cycle
  pub aside : verdict_of (edges_of ((3, 2) ∷ (3, 4) ∷ (4, 3) ∷ [])) (2 ∷ 3 ∷ 4 ∷ []) ≡ cycle (3 ∷ 4 ∷ [])
  -- the smallest predecessor: from 1 to 2, not to 3
  pub least : verdict_of (edges_of ((2, 1) ∷ (3, 1) ∷ (1, 2) ∷ (1, 3) ∷ [])) (1 ∷ 2 ∷ 3 ∷ []) ≡ cycle (1 ∷ 2 ∷ [])

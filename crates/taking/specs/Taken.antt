-- Taking by numbers: a node's number is how many edges lead to it from nodes left, and one; taking a node lowers those that it has an edge to.
-- Assumes nothing.
use Rattle.std.specs.Prelude.{ℕ, suc, ◌+◌, ◌-◌, ◌<◌, ◌≡◌, ◌≢◌, List, Bool, length, get_or, take}
use Rattle.graph_theory.specs.Taking.{take_all}
use Rattle.taking.specs.Nodes.{bit, indices, tally, left_of}

module _ (E : ℕ → ℕ → Bool) (n : ℕ) where
  -- each node has its number of edges from nodes, and one
  abbrev pub Counted : List ℕ → Type 0
  Counted d = (k : ℕ) → k < n → get_or d k 0 ≡ suc (tally (λ (j : ℕ). E j k) (indices n))

  -- each node left has its number of edges from nodes left, and one
  abbrev pub Tallied : List ℕ → Type 0
  Tallied d = (k : ℕ) → k < n → get_or d k 0 ≢ 0 → get_or d k 0 ≡ suc (tally (λ (j : ℕ). E j k) (left_of n d))

  -- k is taken, and each other node's number is less by its edge from k
  pub record Lowered (k : ℕ) (d e : List ℕ) : Type 0 where
    pub gone : get_or e k 0 ≡ 0
    pub others : (j : ℕ) → j < n → j ≢ k → get_or e j 0 ≡ get_or d j 0 - bit (E k j)

  -- r nodes are taken: they stand in `order`, and those left have numbers
  pub record Taken (order d : List ℕ) (r : ℕ) : Type 0 where
    pub count : r + length (left_of n d) ≡ n
    pub taken : take r order ≡ (take_all E (indices n)).taken
    pub left : left_of n d ≡ (take_all E (indices n)).left

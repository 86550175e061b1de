-- From the smallest node left, step to its smallest remaining predecessor until a node repeats; the cycle along its edges, its smallest node
-- first: as a relation, and as what computes it.
-- Assumes nothing.
use Rattle.std.specs.Prelude.{ℕ, zero, suc, ◌≤◌, ◌≡◌, List, [], ◌∷◌, ◌++◌, Bool, cond, eqb, ltb, length}
use Rattle.std.proofs.Math.Option.{Option, some, none}
use Rattle.lists.specs.Member.{◌∈◌}
use Rattle.lists.specs.Tests.{any, first}

-- the list's front, up to the first k
abbrev pub up_to : ℕ → List ℕ → List ℕ
up_to k [] = []
up_to k (a ∷ l) = cond (eqb k a) (a ∷ []) (a ∷ up_to k l)

-- the list's front, before the first k
abbrev pub before : ℕ → List ℕ → List ℕ
before k [] = []
before k (a ∷ l) = cond (eqb k a) [] (a ∷ before k l)

-- the list from the first k on
abbrev pub from : ℕ → List ℕ → List ℕ
from k [] = []
from k (a ∷ l) = cond (eqb k a) (a ∷ l) (from k l)

-- c is w turned, as one turns a ring, so that its smallest node is first
pub record Turned (w c : List ℕ) : Type 0 where
  pub front : List ℕ
  pub smallest : ℕ
  pub back : List ℕ
  pub split : w ≡ front ++ (smallest ∷ back)
  pub joined : c ≡ (smallest ∷ back) ++ front
  pub least : (x : ℕ) → x ∈ w → smallest ≤ x

module _ (R : ℕ → ℕ → Type 0) where
  -- p is the smallest of l with an edge to k
  pub record Predecessor (l : List ℕ) (k p : ℕ) : Type 0 where
    pub left : p ∈ l
    pub edge : R p k
    pub least : (i : ℕ) → i ∈ l → R i k → p ≤ i

  -- at `at`, after `seen`, the newest first, so that the edges lead from each to the next: the walk ends with the closed path c
  pub data Walks (l : List ℕ) : ℕ → List ℕ → List ℕ → Type 0 where
    -- the predecessor p was seen: from `at` along the edges to p, which has an edge to `at`
    repeats : {at p : ℕ} {seen : List ℕ} → Predecessor l at p → p ∈ at ∷ seen → Walks l at seen (up_to p (at ∷ seen))
    -- it was not: on from p
    steps : {at p : ℕ} {seen c : List ℕ} → Predecessor l at p → ¬ (p ∈ at ∷ seen) → Walks l p (at ∷ seen) c → Walks l at seen c

-- the smallest of a and l
abbrev pub least : ℕ → List ℕ → ℕ
least a [] = a
least a (b ∷ l) = least (cond (ltb b a) b a) l

-- the list turned so that it starts with the first k
abbrev pub turn_to : ℕ → List ℕ → List ℕ
turn_to k l = from k l ++ before k l

-- turned so that it starts with its smallest
abbrev pub smallest_first : List ℕ → List ℕ
smallest_first [] = []
smallest_first (a ∷ l) = turn_to (least a l) (a ∷ l)

module _ (E : ℕ → ℕ → Bool) where
  -- the smallest of l with an edge to k, if there is one; l rises
  abbrev pub predecessor : List ℕ → ℕ → Option ℕ
  predecessor l k = first (λ (j : ℕ). E j k) l

  -- the predecessor p: the path is closed if it was seen, else the walk goes on from it
  abbrev pub step : List ℕ → (ℕ → List ℕ) → Option ℕ → List ℕ
  step seen then none = []
  step seen then (some p) = cond (any (eqb p) seen) (up_to p seen) (then p)

  -- at most n steps
  abbrev pub walk : ℕ → List ℕ → ℕ → List ℕ → List ℕ
  walk zero l at seen = []
  walk (suc n) l at seen = step (at ∷ seen) (λ (p : ℕ). walk n l p (at ∷ seen)) (predecessor l at)

  -- the closed path that the walk from the first node left finds
  abbrev pub walked : List ℕ → List ℕ
  walked [] = []
  walked (a ∷ l) = walk (suc (length l)) (a ∷ l) a []

  -- what is written for nodes of which none can be taken
  abbrev pub cycle_of : List ℕ → List ℕ
  cycle_of l = smallest_first (walked l)

-- Graphs over numbers: `R a b` says that there is an edge from a to b. Neither a cycle nor a topological order is said by taking nodes away.
-- Assumes nothing.
use Rattle.std.specs.Prelude.{ℕ, ◌≤◌, ◌≡◌, List, [], ◌∷◌, Bool, true}
use Rattle.lists.specs.Member.{◌∈◌}
use Rattle.lists.specs.Order.{Before, Lists}

-- the test E computes what R says
pub record Decides (E : ℕ → ℕ → Bool) (R : ℕ → ℕ → Type 0) : Type 0 where
  pub sound : (a b : ℕ) → E a b ≡ true → R a b
  pub whole : (a b : ℕ) → R a b → E a b ≡ true

module _ (R : ℕ → ℕ → Type 0) where
  -- a path along edges: each of the list has an edge to the next, and the last has one to z
  abbrev pub Path : List ℕ → ℕ → Type 0
  Path [] z = ⊥
  Path (a ∷ []) z = R a z
  Path (a ∷ b ∷ l) z = R a b × Path (b ∷ l) z

  -- a closed path: the last has an edge to the first
  abbrev pub Closed : List ℕ → Type 0
  Closed [] = ⊥
  Closed (a ∷ l) = Path (a ∷ l) a

  -- c is a cycle among the nodes ns: a closed path along edges
  pub record Cycle (ns c : List ℕ) : Type 0 where
    pub nodes : (x : ℕ) → x ∈ c → x ∈ ns
    pub closed : Closed c

  -- o is a topological order of the nodes ns: each stands in it once, and each edge leads to one that stands later
  pub record Topological (ns o : List ℕ) : Type 0 where
    pub lists : Lists (λ (x : ℕ). x ∈ ns) o
    pub forward : (a b : ℕ) → a ∈ o → b ∈ o → R a b → Before o a b

-- the first of a list is its smallest
abbrev pub SmallestFirst : List ℕ → Type 0
SmallestFirst [] = ⊥
SmallestFirst (a ∷ l) = (x : ℕ) → x ∈ a ∷ l → a ≤ x

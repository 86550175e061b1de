-- Repeatedly take the smallest node with no edge from one not yet taken: as a relation, and as what computes it.
-- Assumes nothing.
use Rattle.std.specs.Prelude.{ℕ, zero, suc, ◌≤◌, ◌≡◌, List, [], ◌∷◌, Bool, not, length}
use Rattle.std.proofs.Math.Option.{Option, some, none}
use Rattle.lists.specs.Member.{◌∈◌}
use Rattle.lists.specs.Order.{without}
use Rattle.lists.specs.Tests.{any, first}

module _ (R : ℕ → ℕ → Type 0) where
  -- k has no edge from a node of l
  abbrev pub Clear : List ℕ → ℕ → Type 0
  Clear l k = (j : ℕ) → j ∈ l → ¬ R j k

  -- none of l can be taken
  abbrev pub NoneClear : List ℕ → Type 0
  NoneClear l = (k : ℕ) → k ∈ l → ¬ Clear l k

  -- k is the smallest of l that has no edge from a node of l
  pub record Next (l : List ℕ) (k : ℕ) : Type 0 where
    pub left : k ∈ l
    pub clear : Clear l k
    pub least : (i : ℕ) → i ∈ l → Clear l i → k ≤ i

  -- from the nodes l, the nodes o are taken in this order, each the smallest that can be, and the nodes r are left, of which none can be taken
  abbrev pub Takes : List ℕ → List ℕ → List ℕ → Type 0
  Takes l [] r = (l ≡ r) × NoneClear l
  Takes l (k ∷ o) r = Next l k × Takes (without k l) o r

  -- the same with any node taken that can be: nodes with no edge from a node that is left are taken away until none can go
  abbrev pub TakesAny : List ℕ → List ℕ → List ℕ → Type 0
  TakesAny l [] r = (l ≡ r) × NoneClear l
  TakesAny l (k ∷ o) r = (k ∈ l) × Clear l k × TakesAny (without k l) o r

-- the nodes taken, in their order, and those that are left
pub record Taking : Type 0 where
  pub taken : List ℕ
  pub left : List ℕ

module _ (E : ℕ → ℕ → Bool) where
  -- whether k has no edge from a node of l
  abbrev pub free : List ℕ → ℕ → Bool
  free l k = not (any (λ (j : ℕ). E j k) l)

  -- the smallest that can be taken, if there is one; l rises
  abbrev pub next : List ℕ → Option ℕ
  next l = first (free l) l

  -- none can be taken: l is left; or k is taken, and then what follows
  abbrev pub take_next : List ℕ → (ℕ → Taking) → Option ℕ → Taking
  take_next l then none = record { taken = []; left = l }
  take_next l then (some k) = record { taken = k ∷ (then k).taken; left = (then k).left }

  -- at most n are taken
  abbrev pub takes : ℕ → List ℕ → Taking
  takes zero l = record { taken = []; left = l }
  takes (suc n) l = take_next l (λ (k : ℕ). takes n (without k l)) (next l)

  -- taking until none can be taken
  abbrev pub take_all : List ℕ → Taking
  take_all ns = takes (length ns) ns

-- Storing 1 at a row and a column sets that edge and no other: different pairs below 256 have different bytes.
-- Assumes nothing.
use Prim.Native.Nat.{ℕ, ◌+◌, ◌*◌, ◌≤◌, ◌<◌}
use native.Mathlib.Omega.{arith}
use mathlib.Core.Path.{◌≡◌, refl, sym, ◌∙◌, subst}
use mathlib.Core.Logic.{◌⊎◌, inl, inr}
use mathlib.Core.List.{List}
use mathlib.Core.Bool.{Bool, true, false}
use lib.Dec.{eqb}
use lib.ListN.{length, get_or, replicate, length-set, get_or-replicate}
use lib.Seq.{get_or-set_same, get_or-set_other}
use borrow.Author.Tests.{eqb-true, eqb-false, ne_eqb}
use Rattle.edges.specs.Matrix.{most_nodes, matrix_size, edge_at, with_edge}
use Rattle.edges.specs.Adding.{Adds}

module _ (m : List ℕ) (a b : ℕ) (s : matrix_size ≤ length m) (u : a < most_nodes) (v : b < most_nodes) where
  pub edge_same : edge_at (with_edge m a b) a b ≡ true
  edge_same = rw (get_or-set_same m (a * 256 + b) 1 0 (omega arith)) refl

  -- other edges are unchanged
  pub edge_other : (c d : ℕ) → d < most_nodes → (c ≡ a → d ≡ b → ⊥) → edge_at (with_edge m a b) c d ≡ edge_at m c d
  edge_other c d h n = rw (get_or-set_other m (a * 256 + b) (c * 256 + d) 1 0 (λ e. n (omega arith) (omega arith))) refl

  -- one edge more
  pub one_more : (R : ℕ → ℕ → Type 0) → ((c d : ℕ) → R c d → (c ≡ a) × (d ≡ b)) → R a b → Adds R m (with_edge m a b)
  one_more R f g = record {
    size = length-set m (a * 256 + b) 1;
    kept = λ c d x y e. keep c d y e (eqb c a) refl (eqb d b) refl;
    sets = λ c d x y r. let q = f c d r in rw (q.0, q.1) edge_same;
    only = λ c d x y e. back c d y e (eqb c a) refl (eqb d b) refl;
  }
    where
      keep : (c d : ℕ) → d < most_nodes → edge_at m c d ≡ true → (p : Bool) → eqb c a ≡ p → (q : Bool) → eqb d b ≡ q → edge_at (with_edge m a b) c d ≡ true
      keep c d y e true h true k = rw (eqb-true c a h, eqb-true d b k) edge_same
      keep c d y e true h false k = edge_other c d y (λ i j. eqb-false d b k j) ∙ e
      keep c d y e false h q k = edge_other c d y (λ i j. eqb-false c a h i) ∙ e

      back : (c d : ℕ) → d < most_nodes → edge_at (with_edge m a b) c d ≡ true → (p : Bool) → eqb c a ≡ p → (q : Bool) → eqb d b ≡ q
          → (edge_at m c d ≡ true) ⊎ R c d
      back c d y e true h true k = inr (subst (λ (i : ℕ). R i d) (sym (eqb-true c a h)) (subst (λ (j : ℕ). R a j) (sym (eqb-true d b k)) g))
      back c d y e true h false k = inl (sym (edge_other c d y (λ i j. eqb-false d b k j)) ∙ e)
      back c d y e false h q k = inl (sym (edge_other c d y (λ i j. eqb-false c a h i)) ∙ e)

-- a matrix of zeros has no edge
pub no_edge : (a b : ℕ) → a < most_nodes → b < most_nodes → edge_at (replicate matrix_size 0) a b ≡ false
no_edge a b u v = let z = get_or-replicate {A = ℕ} 65536 (a * 256 + b) 0 0 (omega arith) in
    ne_eqb (get_or (replicate matrix_size 0) (a * 256 + b) 0) 1 (λ e. omega arith)

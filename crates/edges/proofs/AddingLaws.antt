-- Edges added one after the other: two lots joined, and then the versions beside a read, node by node.
-- Assumes nothing.
use Prim.Native.Nat.{ℕ, ◌+◌, ◌*◌, ◌≤◌, ◌<◌}
use native.Mathlib.Omega.{arith}
use mathlib.Core.Path.{◌≡◌, refl, ◌∙◌, subst}
use mathlib.Core.Logic.{◌⊎◌, inl, inr, ◌≢◌}
use mathlib.Core.List.{List}
use mathlib.Core.Bool.{Bool, true, false}
use lib.Dec.{eqb}
use lib.ListN.{length, get_or}
use borrow.Author.Tests.{eqb-true, eqb-false}
use Rattle.edges.specs.Matrix.{most_nodes, matrix_size, with_edge}
use Rattle.edges.specs.Adding.{Adds, One, comes_before, comes_after, Others}
use Rattle.edges.proofs.MatrixLaws.{one_more}

-- the same edges, said otherwise
pub adds_same : (R S : ℕ → ℕ → Type 0) (m e : List ℕ) → ((c d : ℕ) → R c d → S c d) → ((c d : ℕ) → S c d → R c d) → Adds R m e → Adds S m e
adds_same R S m e f g x = record {
  size = x.size;
  kept = x.kept;
  sets = λ c d i j s. x.sets c d i j (g c d s);
  only = λ c d i j z. elim (x.only c d i j z) [ inl k ↦ inl k | inr r ↦ inr (f c d r) ];
}

-- one lot after the other
pub adds_join : (R S : ℕ → ℕ → Type 0) (m e g : List ℕ) → Adds R m e → Adds S e g → Adds (λ (c d : ℕ). R c d ⊎ S c d) m g
adds_join R S m e g x y = record {
  size = y.size ∙ x.size;
  kept = λ c d i j z. y.kept c d i j (x.kept c d i j z);
  sets = λ c d i j r. elim r [ inl k ↦ y.kept c d i j (x.sets c d i j k) | inr k ↦ y.sets c d i j k ];
  only = λ c d i j z. elim (y.only c d i j z) [ inl k ↦ elim (x.only c d i j k) [ inl n ↦ inl n | inr n ↦ inr (inl n) ] | inr k ↦ inr (inr k) ];
}

-- ---- the version of one node

module _ (m : List ℕ) (i p k j r : ℕ) where
  module _ (s : matrix_size ≤ length m) (w : i < most_nodes) (n : i ≢ k) (q : p ≢ 0) where
    pub one_before : j < most_nodes → p < r → Adds (One i p k j r) m (with_edge m i j)
    one_before v h = one_more m i j s w v (One i p k j r) only (comes_before n (omega (arith, q)) h)
      where
        only : (c d : ℕ) → One i p k j r c d → (c ≡ i) × (d ≡ j)
        only c d (comes_before _ _ _) = (refl, refl)
        only c d (comes_after _ _ g) = absurd (omega arith)

    pub one_after : k < most_nodes → r < p → Adds (One i p k j r) m (with_edge m k i)
    one_after v h = one_more m k i s v w (One i p k j r) only (comes_after n (omega (arith, q)) h)
      where
        only : (c d : ℕ) → One i p k j r c d → (c ≡ k) × (d ≡ i)
        only c d (comes_before _ _ g) = absurd (omega arith)
        only c d (comes_after _ _ _) = (refl, refl)

-- ---- the versions of the nodes below t

module _ (rank : List ℕ) (x k j r : ℕ) (m : List ℕ) where
  pub others_next : (t : ℕ) (e g : List ℕ) → Adds (Others rank x k j r t) m e → Adds (One t (get_or rank (t * 64 + x) 0) k j r) e g
      → Adds (Others rank x k j r (t + 1)) m g
  others_next t e g y z =
      adds_same _ (Others rank x k j r (t + 1)) m g
      (λ c d o. elim o [ inl l ↦ (l.0, omega (arith, l.1), l.2) | inr n ↦ (t, omega arith, n) ])
      (λ c d o. split c d o (eqb o.0 t) refl)
      (adds_join (Others rank x k j r t) (One t (get_or rank (t * 64 + x) 0) k j r) m e g y z)
    where
      split : (c d : ℕ) (o : Others rank x k j r (t + 1) c d) → (b : Bool) → eqb o.0 t ≡ b
          → Others rank x k j r t c d ⊎ One t (get_or rank (t * 64 + x) 0) k j r c d
      split c d o true q = inr (subst (λ (i : ℕ). One i (get_or rank (i * 64 + x) 0) k j r c d) (eqb-true o.0 t q) o.2)
      split c d o false q = inl (o.0, (let n = eqb-false o.0 t q in omega (arith, n, o.1)), o.2)

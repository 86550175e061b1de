-- What stands where, by places counted from 0: membership, standing before, no doubles and rising are facts about `get_or`.
-- Assumes nothing.
use Prim.Native.Nat.{ℕ, zero, suc, ◌<◌}
use native.Mathlib.Omega.{arith}
use mathlib.Core.Path.{◌≡◌, refl, sym, ap, subst}
use mathlib.Core.Logic.{inl, inr}
use mathlib.Core.List.Memᴰ
use mathlib.Core.List.{List, [], ◌∷◌}
use lib.ListN.{length, get_or}
use Rattle.lists.specs.Member.{◌∈◌, Rising}
use Rattle.lists.specs.Order.{Distinct, Before}
use Rattle.lists.proofs.OrderLaws.{in_nil}
use Rattle.lists.proofs.RisingLaws.{rising_above}

pub at_in : (l : List ℕ) (p : ℕ) → p < length l → get_or l p 0 ∈ l
at_in [] p h = absurd (omega arith)
at_in (a ∷ l) zero h = Memᴰ.head refl
at_in (a ∷ l) (suc p) h = Memᴰ.tail (at_in l p (omega arith))

pub in_at : (l : List ℕ) (x : ℕ) → x ∈ l → (p : ℕ) × (p < length l) × (get_or l p 0 ≡ x)
in_at [] x m = in_nil m
in_at (a ∷ l) x (Memᴰ.head e) = (0, omega arith, sym e)
in_at (a ∷ l) x (Memᴰ.tail m) = let r = in_at l x m in (suc r.0, omega (arith, r.1), r.2)

pub before_at : (l : List ℕ) (p q : ℕ) → p < q → q < length l → Before l (get_or l p 0) (get_or l q 0)
before_at [] p q h g = absurd (omega arith)
before_at (a ∷ l) zero zero h g = absurd (omega arith)
before_at (a ∷ l) zero (suc q) h g = inl (refl, at_in l q (omega arith))
before_at (a ∷ l) (suc p) zero h g = absurd (omega arith)
before_at (a ∷ l) (suc p) (suc q) h g = inr (before_at l p q (omega arith) (omega arith))

pub at_before : (l : List ℕ) (i j : ℕ) → Before l i j → (p : ℕ) × (q : ℕ) × (p < q) × (q < length l) × (get_or l p 0 ≡ i) × (get_or l q 0 ≡ j)
at_before [] i j b = absurd b
at_before (a ∷ l) i j (inl x) = let r = in_at l j x.1 in (0, suc r.0, omega arith, omega (arith, r.1), sym x.0, r.2)
at_before (a ∷ l) i j (inr x) = let r = at_before l i j x in (suc r.0, suc r.1, omega (arith, r.2), omega (arith, r.3), r.4, r.5)

pub distinct_at : (l : List ℕ) (p q : ℕ) → Distinct l → p < length l → q < length l → get_or l p 0 ≡ get_or l q 0 → p ≡ q
distinct_at [] p q d h g e = absurd (omega arith)
distinct_at (a ∷ l) zero zero d h g e = refl
distinct_at (a ∷ l) zero (suc q) d h g e = absurd (d.0 (subst (λ (x : ℕ). x ∈ l) (sym e) (at_in l q (omega arith))))
distinct_at (a ∷ l) (suc p) zero d h g e = absurd (d.0 (subst (λ (x : ℕ). x ∈ l) e (at_in l p (omega arith))))
distinct_at (a ∷ l) (suc p) (suc q) d h g e = ap suc (distinct_at l p q d.1 (omega arith) (omega arith) e)

pub rising_at : (n : ℕ) (l : List ℕ) → Rising n l → (p q : ℕ) → p < q → q < length l → get_or l p 0 < get_or l q 0
rising_at n [] r p q h g = absurd (omega arith)
rising_at n (a ∷ l) r p zero h g = absurd (omega arith)
rising_at n (a ∷ l) r zero (suc q) h g = rising_above (suc a) l r.1 (get_or l q 0) (at_in l q (omega arith))
rising_at n (a ∷ l) r (suc p) (suc q) h g = rising_at (suc a) l r.1 p q (omega arith) (omega arith)

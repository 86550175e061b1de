-- What tests that compute mean: `b ≡ true` is the fact. Each by cases on the test, with the test's value as a variable.
-- Assumes nothing.
use Prim.Native.Nat.{ℕ}
use native.Mathlib.Omega.{arith}
use mathlib.Core.Path.{◌≡◌, refl, sym, ◌∙◌}
use mathlib.Core.Logic.{◌⊎◌, inl, inr}
use mathlib.Core.List.Memᴰ
use mathlib.Core.List.{List, [], ◌∷◌}
use mathlib.Core.Bool.{Bool, true, false, cond, not, ◌&&◌, ◌||◌}
use mathlib.Core.Option.{Option, some, none}
use lib.Dec.{eqb}
use borrow.Author.Tests.{eqb-true, eqb-false, eq-eqb, ne_eqb, not-true}
use Rattle.lists.specs.Member.{◌∈◌}
use Rattle.lists.specs.Tests.{any, first}

pub false_true : {X : Type 0} → false ≡ true → X
false_true e = let z : ◌≡◌ {A = ℕ} 0 1 = cc in absurd (omega arith)

pub none_some : {A X : Type 0} {a : A} → ◌≡◌ {A = Option A} none (some a) → X
none_some e = let z : ◌≡◌ {A = ℕ} 0 1 = cc in absurd (omega arith)

-- a test that did not pass is one that failed
pub not_passed : (b : Bool) → ¬ (b ≡ true) → b ≡ false
not_passed true n = absurd (n refl)
not_passed false n = refl

-- two tests that pass in the same cases agree
pub same_test : (a b : Bool) → (a ≡ true → b ≡ true) → (b ≡ true → a ≡ true) → a ≡ b
same_test true b f g = sym (f refl)
same_test false true f g = g refl
same_test false false f g = refl

pub both_true : (a b : Bool) → (a && b) ≡ true → (a ≡ true) × (b ≡ true)
both_true true b e = (refl, e)
both_true false b e = false_true e

pub one_true : (a b : Bool) → (a || b) ≡ true → (a ≡ true) ⊎ (b ≡ true)
one_true true b e = inl refl
one_true false b e = inr e

pub true_left : (a b : Bool) → a ≡ true → (a || b) ≡ true
true_left true b e = refl
true_left false b e = false_true e

pub true_right : (a b : Bool) → b ≡ true → (a || b) ≡ true
true_right true b e = refl
true_right false b e = e

pub differ : (a b : ℕ) → not (eqb a b) ≡ true → ¬ (a ≡ b)
differ a b e = eqb-false a b (not-true (eqb a b) e)

pub differs : (a b : ℕ) → ¬ (a ≡ b) → not (eqb a b) ≡ true
differs a b h = rw (ne_eqb a b h)

module _ {A : Type 0} (p : A → Bool) where
  pub any_true : (l : List A) → any p l ≡ true → (a : A) × (a ∈ l) × (p a ≡ true)
  any_true [] e = false_true e
  any_true (x ∷ l) e = go (p x) refl e (any_true l)
    where
      go : (b : Bool) → p x ≡ b → cond b true (any p l) ≡ true → (any p l ≡ true → (a : A) × (a ∈ l) × (p a ≡ true)) → (a : A) × (a ∈ x ∷ l) × (p a ≡ true)
      go true f e ih = (x, Memᴰ.head refl, f)
      go false f e ih = let r = ih e in (r.0, Memᴰ.tail r.1, r.2)

  pub any_false : (l : List A) → any p l ≡ false → (a : A) → a ∈ l → p a ≡ false
  any_false [] e a m = absurd (Memᴰ.not-nil m)
  any_false (x ∷ l) e a m = go (p x) refl e (Memᴰ.cases_cons m) (λ f n. any_false l f a n)
    where
      go : (b : Bool) → p x ≡ b → cond b true (any p l) ≡ false → (a ≡ x) ⊎ (a ∈ l) → (any p l ≡ false → a ∈ l → p a ≡ false) → p a ≡ false
      go true f e m ih = false_true (sym e)
      go false f e (inl q) ih = rw q f
      go false f e (inr n) ih = ih e n

  pub any-holds : (l : List A) (a : A) → a ∈ l → p a ≡ true → any p l ≡ true
  any-holds l a m t = go (any p l) refl
    where
      go : (b : Bool) → any p l ≡ b → b ≡ true
      go true e = refl
      go false e = sym (any_false l e a m) ∙ t

  pub first_some : (l : List A) (a : A) → first p l ≡ some a → (a ∈ l) × (p a ≡ true)
  first_some [] a e = none_some e
  first_some (x ∷ l) a e = go (p x) refl e (first_some l a)
    where
      go : (b : Bool) → p x ≡ b → ◌≡◌ {A = Option A} (cond b (some x) (first p l)) (some a) → (first p l ≡ some a → (a ∈ l) × (p a ≡ true))
          → (a ∈ x ∷ l) × (p a ≡ true)
      go true f e ih = let q : a ≡ x = cc in (Memᴰ.head q, rw q f)
      go false f e ih = (Memᴰ.tail (ih e).0, (ih e).1)

  pub first_none : (l : List A) → first p l ≡ none → (a : A) → a ∈ l → p a ≡ false
  first_none [] e a m = absurd (Memᴰ.not-nil m)
  first_none (x ∷ l) e a m = go (p x) refl e (Memᴰ.cases_cons m) (λ f n. first_none l f a n)
    where
      go : (b : Bool) → p x ≡ b → ◌≡◌ {A = Option A} (cond b (some x) (first p l)) none → (a ≡ x) ⊎ (a ∈ l)
          → (first p l ≡ none → a ∈ l → p a ≡ false) → p a ≡ false
      go true f e m ih = none_some (sym e)
      go false f e (inl q) ih = rw q f
      go false f e (inr n) ih = ih e n

-- whether a number stands in a list
pub any_in : (n : ℕ) (l : List ℕ) → any (eqb n) l ≡ true → n ∈ l
any_in n l e = let r = any_true (eqb n) l e in Memᴰ.cast (eqb-true n r.0 r.2) r.1

pub any_not : (n : ℕ) (l : List ℕ) → any (eqb n) l ≡ false → ¬ (n ∈ l)
any_not n l e m = eqb-false n n (any_false (eqb n) l e n m) refl

pub in_any : (n : ℕ) (l : List ℕ) → n ∈ l → any (eqb n) l ≡ true
in_any n l m = any-holds (eqb n) l n m (eq-eqb n n refl)

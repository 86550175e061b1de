-- Membership in a list, and the tests on it.
-- Assumes nothing.
use Rattle.std.specs.Prelude.{ℕ, suc, ◌≤◌, ◌≡◌, refl}
use Rattle.std.proofs.Common.{subst, inl, inr}
use mathlib.Core.List.Memᴰ
use mathlib.Core.List.{List, [], ◌∷◌, Memᴰ}
use Rattle.std.proofs.Math.Decide.{ℕ_discrete}

infix 40 ◌∈◌
-- a stands in l
abbrev pub ◌∈◌ : {A : Type 0} → A → List A → Type 0
◌∈◌ a l = Memᴰ a l

-- l rises strictly, from n on
abbrev pub Rising : ℕ → List ℕ → Type 0
Rising n [] = Unit {0}
Rising n (k ∷ l) = (n ≤ k) × Rising (suc k) l

-- whether one of l has the property p
unfoldable pub any? : {A : Type 0} {p : A → Type 0} (d : (a : A) → Dec (p a)) (l : List A) → Dec ((a : A) × (a ∈ l) × p a)
any? d [] = no (λ h. Memᴰ.not-nil h.1)
any? {A} {p} d (x ∷ l) = go (d x) (any? d l)
  where
    go : Dec (p x) → Dec ((a : A) × (a ∈ l) × p a) → Dec ((a : A) × (a ∈ x ∷ l) × p a)
    go (yes q) r = yes (x, Memᴰ.head refl, q)
    go (no n) (yes h) = yes (h.0, Memᴰ.tail h.1, h.2)
    go (no n) (no k) = no (λ h. elim (Memᴰ.cases_cons h.1) [ inl e ↦ n (subst p e h.2) | inr t ↦ k (h.0, t, h.2) ])

-- whether a number stands in a list
unfoldable pub memb : (n : ℕ) (l : List ℕ) → Dec (n ∈ l)
memb n [] = no (λ h. Memᴰ.not-nil h)
memb n (x ∷ l) = go (ℕ_discrete n x) (memb n l)
  where
    go : Dec (n ≡ x) → Dec (n ∈ l) → Dec (n ∈ x ∷ l)
    go (yes e) r = yes (Memᴰ.head e)
    go (no k) (yes h) = yes (Memᴰ.tail h)
    go (no k) (no j) = no (λ h. elim (Memᴰ.cases_cons h) [ inl e ↦ k e | inr t ↦ j t ])

-- Membership in filtered lists.
-- Assumes nothing.
use mathlib.Core.Path.{sym, subst}
use mathlib.Core.List.Memᴰ
use mathlib.Core.List.{List, [], ◌∷◌, filter}
use mathlib.Core.Logic.{inl, inr}
use Rattle.lists.specs.Member.{◌∈◌}
use Rattle.lists.proofs.ChoiceLaws.{ite_by}

module _ {A : Type 0} {p : A → Type 0} (d : (a : A) → Dec (p a)) where
  -- what is left after filtering was there, and has the property
  pub of_filter : {a : A} (l : List A) → a ∈ filter d l → (a ∈ l) × p a
  of_filter [] = λ h. absurd (Memᴰ.not-nil h)
  of_filter {a} (x ∷ l) = ite_by (λ (r : List A). a ∈ r → (a ∈ x ∷ l) × p a) (d x)
      (λ px (h : a ∈ x ∷ filter d l). elim (Memᴰ.cases_cons h) [
        | inl e ↦ (Memᴰ.head e, subst p (sym e) px)
        | inr t ↦ (Memᴰ.tail (of_filter l t).0, (of_filter l t).1)
      ])
      (λ nx (t : a ∈ filter d l). (Memᴰ.tail (of_filter l t).0, (of_filter l t).1))

  -- what was there and has the property is left
  pub mem_filter : {a : A} (l : List A) → a ∈ l → p a → a ∈ filter d l
  mem_filter [] h q = h
  mem_filter {a} (x ∷ l) h q = ite_by (λ (r : List A). a ∈ r) (d x)
      (λ px. elim (Memᴰ.cases_cons h) [ inl e ↦ Memᴰ.head e | inr t ↦ Memᴰ.tail (mem_filter l t q) ])
      (λ nx. elim (Memᴰ.cases_cons h) [ inl e ↦ absurd (nx (subst p e q)) | inr t ↦ mem_filter l t q ])

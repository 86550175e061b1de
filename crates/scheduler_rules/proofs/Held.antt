-- How the open table, the versions and the marks change: what stands in them after an operation, and what stood there before it. Along
-- the list, by cases on the test that the change makes.
-- Assumes nothing.
use Prim.Native.Nat.{ℕ, suc, ◌≤◌, ◌<◌, max}
use mathlib.Core.Path.{◌≡◌, refl, ap, subst}
use mathlib.Core.List.{List, [], ◌∷◌, ◌++◌, filter}
use mathlib.Core.List.Memᴰ
use mathlib.Core.Logic.{◌⊎◌, inl, inr, ◌≢◌}
use native.Mathlib.Decide.{ℕ_discrete}
use native.Mathlib.Omega.{arith}
use lib.ListN.{length, get_or, length-set}
use lib.Seq.{get_or-set_same, get_or-set_other}
use Rattle.lists.specs.Choice.{isnt}
use Rattle.lists.specs.Member.{◌∈◌}
use Rattle.lists.proofs.ChoiceLaws.{pick_by, ite_by}
use Rattle.lists.proofs.MemberLaws.{of_filter, mem_filter}
use Rattle.scheduler_rules.specs.Model.{Version, Same, same?, raise1, raise, raise0, before?, put, without, close}

-- ---- a stamp is opened, or closed

pub of_opened : {n k : ℕ} (l : List ℕ) → n ∈ l ++ k ∷ [] → (n ∈ l) ⊎ (n ≡ k)
of_opened l h = elim (Memᴰ.append_cases l h) [ inl t ↦ inl t | inr t ↦ inr (Memᴰ.eq_of_singleton t) ]

pub of_close : {n : ℕ} (k : ℕ) (l : List ℕ) → n ∈ close k l → (n ∈ l) × (n ≢ k)
of_close k l h = of_filter (λ (i : ℕ). isnt (ℕ_discrete i k)) l h

pub to_close : {n : ℕ} (k : ℕ) (l : List ℕ) → n ∈ l → n ≢ k → n ∈ close k l
to_close k l h n = mem_filter (λ (i : ℕ). isnt (ℕ_discrete i k)) l h n

-- ---- a transaction's versions go

pub of_without : {u : Version} (k : ℕ) (l : List Version) → u ∈ without k l → (u ∈ l) × (u.stamp ≢ k)
of_without k l h = of_filter (λ (w : Version). isnt (ℕ_discrete w.stamp k)) l h

pub to_without : {u : Version} (k : ℕ) (l : List Version) → u ∈ l → u.stamp ≢ k → u ∈ without k l
to_without k l h n = mem_filter (λ (w : Version). isnt (ℕ_discrete w.stamp k)) l h n

-- ---- a version is stored

pub put_new : (w : Version) (l : List Version) → w ∈ put w l
unfolding put
put_new w [] = Memᴰ.head refl
put_new w (y ∷ l) = pick_by (λ (r : List Version). w ∈ r) (before? y w) (λ b. Memᴰ.tail (put_new w l)) (λ b. Memᴰ.head refl)

pub of_put : (w u : Version) (l : List Version) → u ∈ put w l → (u ≡ w) ⊎ (u ∈ l)
unfolding put
of_put w u [] = λ h. Memᴰ.cases_cons h
of_put w u (y ∷ l) = pick_by (λ (r : List Version). u ∈ r → (u ≡ w) ⊎ (u ∈ y ∷ l)) (before? y w)
    (λ b (h : u ∈ y ∷ put w l). elim (Memᴰ.cases_cons h) [
      | inl e ↦ inr (Memᴰ.head e)
      | inr t ↦ elim (of_put w u l t) [ inl e ↦ inl e | inr t2 ↦ inr (Memᴰ.tail t2) ]
    ])
    (λ b h. Memᴰ.cases_cons h)

pub put_old : (w u : Version) (l : List Version) → u ∈ l → u ∈ put w l
unfolding put
put_old w u [] h = absurd (Memᴰ.not-nil h)
put_old w u (y ∷ l) h = pick_by (λ (r : List Version). u ∈ r) (before? y w)
    (λ b. elim (Memᴰ.cases_cons h) [ inl e ↦ Memᴰ.head e | inr t ↦ Memᴰ.tail (put_old w u l t) ])
    (λ b. Memᴰ.tail h)

pub length-put : (w : Version) (l : List Version) → length (put w l) ≡ suc (length l)
unfolding put
length-put w [] = refl
length-put w (u ∷ l) = pick_by (λ (r : List Version). length r ≡ suc (length (u ∷ l))) (before? u w) (λ _. ap suc (length-put w l)) (λ _. refl)

-- ---- a mark is raised

-- n is what was n₀, raised to k where P holds
abbrev pub Up : Type 0 → ℕ → ℕ → ℕ → Type 0
Up P n₀ k n = (P × (n ≡ max n₀ k)) ⊎ ((¬ P) × (n ≡ n₀))

-- w stands in l with its mark raised to k, if it is the version of x by j
pub record Raised (x j k : ℕ) (l : List Version) (w : Version) : Type 0 where
  pub old : Version
  pub there : old ∈ l
  pub item_is : w.item ≡ old.item
  pub stamp_is : w.stamp ≡ old.stamp
  pub value_is : w.value ≡ old.value
  pub mark_is : Up (Same x j old) old.mark k w.mark

pub of_raise : (x j k : ℕ) (l : List Version) (w : Version) → w ∈ raise x j k l → Raised x j k l w
of_raise x j k l w h =
    let r = Memᴰ.of_map (raise1 x j k) l h in
    subst (Raised x j k l) r.2 (record { old = r.0; there = r.1; item_is = refl; stamp_is = refl; value_is = refl; mark_is = up r.0 })
  where
    up : (u : Version) → Up (Same x j u) u.mark k (raise1 x j k u).mark
    up u = pick_by (Up (Same x j u) u.mark k) (same? x j u) (λ s. inl (s, refl)) (λ n. inr (n, refl))

pub length-raise0 : (x j k : ℕ) (l : List ℕ) → length (raise0 x j k l) ≡ length l
length-raise0 x j k l = pick_by (λ (r : List ℕ). length r ≡ length l) (ℕ_discrete j 0) (λ _. simp length-set) (λ _. refl)

-- the mark of the initial version of y, after k read version j of x
pub of_raise0 : (x j k y : ℕ) (l : List ℕ) → x < length l → Up ((y ≡ x) × (0 ≡ j)) (get_or l y 0) k (get_or (raise0 x j k l) y 0)
of_raise0 x j k y l h = pick_by (λ (r : List ℕ). Up ((y ≡ x) × (0 ≡ j)) (get_or l y 0) k (get_or r y 0)) (ℕ_discrete j 0)
    (λ z. elim (ℕ_discrete y x) [
      | yes e ↦ inl ((e, omega arith), rw e (get_or-set_same l x _ 0 h))
      | no n ↦ inr ((λ p. n p.0), get_or-set_other l x y _ 0 n)
    ])
    (λ n. inr ((λ p. n (let z = p.1 in omega arith)), refl))

-- ---- lengths

pub length-filter : {A : Type 0} {p : A → Type 0} (d : (a : A) → Dec (p a)) (l : List A) → length (filter d l) ≤ length l
length-filter d [] = omega arith
length-filter {A} d (x ∷ l) = let z = length-filter d l in ite_by (λ (r : List A). length r ≤ length (x ∷ l)) (d x) (λ _. omega arith) (λ _. omega arith)

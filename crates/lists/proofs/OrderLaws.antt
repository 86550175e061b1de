-- Lists without doubles, and which of two stands first. By recursion on the list; where a list is split at an element, what stands before
-- that element is in the first part and what stands after it in the second.
-- Assumes nothing.
use Prim.Native.Nat.{ℕ, suc, ◌≤◌}
use native.Mathlib.Omega.{arith}
use mathlib.Core.Path.{◌≡◌, refl, sym, ◌∙◌, ap, subst}
use mathlib.Core.Logic.{◌⊎◌, inl, inr}
use mathlib.Core.List.Memᴰ
use mathlib.Core.List.{List, [], ◌∷◌, ◌++◌, reverse_aux}
use mathlib.Core.Bool.{Bool, true, false, cond}
use lib.Dec.{eqb}
use lib.ListN.{length}
use borrow.Author.Tests.{eqb-true, eqb-false}
use Rattle.lists.specs.Member.{◌∈◌}
use Rattle.lists.specs.Order.{Distinct, Before, without}

pub in_nil : {A X : Type 0} {a : A} → a ∈ [] → X
in_nil m = absurd (Memᴰ.not-nil m)

pub in_tail : {A : Type 0} {a b : A} {l : List A} → a ∈ b ∷ l → ¬ (a ≡ b) → a ∈ l
in_tail (Memᴰ.head e) h = absurd (h e)
in_tail (Memᴰ.tail m) h = m

-- a list read backwards has the same members
pub in_reverse : {A : Type 0} {a : A} (l r : List A) → a ∈ reverse_aux l r → (a ∈ l) ⊎ (a ∈ r)
in_reverse [] r m = inr m
in_reverse (x ∷ l) r m = elim (in_reverse l (x ∷ r) m) [
  | inl n ↦ inl (Memᴰ.tail n)
  | inr n ↦ elim (Memᴰ.cases_cons n) [ inl q ↦ inl (Memᴰ.head q) | inr k ↦ inr k ]
]

pub of_reverse : {A : Type 0} {a : A} (l r : List A) → (a ∈ l) ⊎ (a ∈ r) → a ∈ reverse_aux l r
of_reverse [] r (inl m) = in_nil m
of_reverse [] r (inr m) = m
of_reverse (x ∷ l) r (inl (Memᴰ.head q)) = of_reverse l (x ∷ r) (inr (Memᴰ.head q))
of_reverse (x ∷ l) r (inl (Memᴰ.tail m)) = of_reverse l (x ∷ r) (inl m)
of_reverse (x ∷ l) r (inr m) = of_reverse l (x ∷ r) (inr (Memᴰ.tail m))

-- ---- splitting

module _ {A : Type 0} where
  -- a stands in l: the part before it and the part after it
  pub in_split : {a : A} (l : List A) → a ∈ l → (xs : List A) × (ys : List A) × (l ≡ xs ++ (a ∷ ys))
  in_split [] m = in_nil m
  in_split (b ∷ l) (Memᴰ.head e) = ([], l, ap (λ (x : A). x ∷ l) (sym e))
  in_split (b ∷ l) (Memᴰ.tail m) = let r = in_split l m in (b ∷ r.0, r.1, ap (λ (t : List A). b ∷ t) r.2)

  -- of two different ones, one stands before the other
  pub before_total : (i j : A) (l : List A) → i ∈ l → j ∈ l → ¬ (i ≡ j) → Before l i j ⊎ Before l j i
  before_total i j [] m n h = in_nil m
  before_total i j (a ∷ l) (Memᴰ.head e) (Memᴰ.head f) h = absurd (h (e ∙ sym f))
  before_total i j (a ∷ l) (Memᴰ.head e) (Memᴰ.tail n) h = inl (inl (e, n))
  before_total i j (a ∷ l) (Memᴰ.tail m) (Memᴰ.head f) h = inr (inl (f, m))
  before_total i j (a ∷ l) (Memᴰ.tail m) (Memᴰ.tail n) h = elim (before_total i j l m n h) [ inl b ↦ inl (inr b) | inr b ↦ inr (inr b) ]

  -- who stands before or after another stands there
  pub before_left : (i j : A) (l : List A) → Before l i j → i ∈ l
  before_left i j [] b = absurd b
  before_left i j (a ∷ l) (inl p) = Memᴰ.head p.0
  before_left i j (a ∷ l) (inr b) = Memᴰ.tail (before_left i j l b)

  pub before_right : (i j : A) (l : List A) → Before l i j → j ∈ l
  before_right i j [] b = absurd b
  before_right i j (a ∷ l) (inl p) = Memᴰ.tail p.1
  before_right i j (a ∷ l) (inr b) = Memᴰ.tail (before_right i j l b)

  -- where none stands twice, those before k, k, and those after k are apart
  pub distinct_front : (xs : List A) (k : A) (ys : List A) → Distinct (xs ++ (k ∷ ys)) → (i : A) → i ∈ xs → ¬ (i ∈ k ∷ ys)
  distinct_front [] k ys d i m n = in_nil m
  distinct_front (a ∷ xs) k ys d i (Memᴰ.head e) n = d.0 (Memᴰ.append_right xs (Memᴰ.cast (sym e) n))
  distinct_front (a ∷ xs) k ys d i (Memᴰ.tail m) n = distinct_front xs k ys d.1 i m n

  pub distinct_back : (xs : List A) (k : A) (ys : List A) → Distinct (xs ++ (k ∷ ys)) → ¬ (k ∈ ys)
  distinct_back [] k ys d = d.0
  distinct_back (a ∷ xs) k ys d = distinct_back xs k ys d.1

  -- who stands before k is in the first part
  pub before_split : (xs : List A) (k : A) (ys : List A) → Distinct (xs ++ (k ∷ ys)) → (i : A) → Before (xs ++ (k ∷ ys)) i k → i ∈ xs
  before_split [] k ys d i (inl p) = absurd (d.0 p.1)
  before_split [] k ys d i (inr b) = absurd (d.0 (before_right i k ys b))
  before_split (a ∷ xs) k ys d i (inl p) = Memᴰ.head p.0
  before_split (a ∷ xs) k ys d i (inr b) = Memᴰ.tail (before_split xs k ys d.1 i b)

  -- who stands after k is in the second
  pub after_split : (xs : List A) (k : A) (ys : List A) → Distinct (xs ++ (k ∷ ys)) → (i : A) → Before (xs ++ (k ∷ ys)) k i → i ∈ ys
  after_split [] k ys d i (inl p) = p.1
  after_split [] k ys d i (inr b) = absurd (d.0 (before_left k i ys b))
  after_split (a ∷ xs) k ys d i (inl p) = absurd (d.0 (Memᴰ.append_right xs (Memᴰ.head (sym p.0))))
  after_split (a ∷ xs) k ys d i (inr b) = after_split xs k ys d.1 i b

  -- no list is split in two ways at one element
  pub split_once : (xs ys us vs : List A) (k : A) → Distinct (xs ++ (k ∷ ys)) → xs ++ (k ∷ ys) ≡ us ++ (k ∷ vs) → (xs ≡ us) × (ys ≡ vs)
  split_once [] ys [] vs k d e = (refl, cc)
  split_once [] ys (u ∷ us) vs k d e =
      let q : ys ≡ us ++ (k ∷ vs) = cc in absurd (d.0 (subst (λ (t : List A). k ∈ t) (sym q) (Memᴰ.append_right us (Memᴰ.head refl))))
  split_once (x ∷ xs) ys [] vs k d e =
      let q : x ≡ k = cc in
      absurd (d.0 (Memᴰ.append_right xs (Memᴰ.head q)))
  split_once (x ∷ xs) ys (u ∷ us) vs k d e =
      let t : xs ++ (k ∷ ys) ≡ us ++ (k ∷ vs) = cc in
      let r = split_once xs ys us vs k d.1 t in
      let p : xs ≡ us = r.0 in
      (cc, r.1)

-- ---- one number less

module _ (k : ℕ) where
  pub length_without : (l : List ℕ) → k ∈ l → suc (length (without k l)) ≡ length l
  length_without [] m = in_nil m
  length_without (a ∷ l) m = go (eqb k a) refl (length_without l)
    where
      go : (b : Bool) → eqb k a ≡ b → (k ∈ l → suc (length (without k l)) ≡ length l) → suc (length (without k (a ∷ l))) ≡ length (a ∷ l)
      go true e ih = rw e
      go false e ih = rw e (ap suc (ih (in_tail m (eqb-false k a e))))

  -- what is left was there before
  pub in_without : (l : List ℕ) {x : ℕ} → x ∈ without k l → x ∈ l
  in_without [] m = m
  in_without (a ∷ l) {x} m = go (eqb k a) m (in_without l)
    where
      go : (b : Bool) → x ∈ cond b l (a ∷ without k l) → (x ∈ without k l → x ∈ l) → x ∈ a ∷ l
      go true m ih = Memᴰ.tail m
      go false (Memᴰ.head f) ih = Memᴰ.head f
      go false (Memᴰ.tail n) ih = Memᴰ.tail (ih n)

  -- what was there before is k or left
  pub of_without : (l : List ℕ) {x : ℕ} → x ∈ l → (x ≡ k) ⊎ (x ∈ without k l)
  of_without [] m = inr m
  of_without (a ∷ l) {x} m = go (eqb k a) refl (Memᴰ.cases_cons m) (of_without l)
    where
      go : (b : Bool) → eqb k a ≡ b → (x ≡ a) ⊎ (x ∈ l) → (x ∈ l → (x ≡ k) ⊎ (x ∈ without k l)) → (x ≡ k) ⊎ (x ∈ cond b l (a ∷ without k l))
      go true e (inl f) ih = inl (f ∙ sym (eqb-true k a e))
      go true e (inr n) ih = inr n
      go false e (inl f) ih = inr (Memᴰ.head f)
      go false e (inr n) ih = elim (ih n) [ inl f ↦ inl f | inr t ↦ inr (Memᴰ.tail t) ]

  -- and still none stands twice; k no more
  pub distinct_without : (l : List ℕ) → Distinct l → Distinct (without k l) × (¬ (k ∈ without k l))
  distinct_without [] d = (tt, in_nil)
  distinct_without (a ∷ l) d = go (eqb k a) refl (distinct_without l d.1)
    where
      go : (b : Bool) → eqb k a ≡ b → Distinct (without k l) × (¬ (k ∈ without k l))
          → Distinct (cond b l (a ∷ without k l)) × (¬ (k ∈ cond b l (a ∷ without k l)))
      go true e ih = (d.1, λ m. d.0 (Memᴰ.cast (sym (eqb-true k a e)) m))
      go false e ih = ((λ m. d.0 (in_without l m), ih.0), λ m. elim (Memᴰ.cases_cons m) [ inl q ↦ eqb-false k a e q | inr n ↦ ih.1 n ])

-- as many as are different have room
pub distinct_short : (c l : List ℕ) → Distinct c → ((x : ℕ) → x ∈ c → x ∈ l) → length c ≤ length l
distinct_short [] l d h = omega arith
distinct_short (a ∷ c) l d h =
    let m : a ∈ l = h a (Memᴰ.head refl) in
    let ih = distinct_short c (without a l) d.1
    (λ x n. elim (of_without a l (h x (Memᴰ.tail n))) [ inl q ↦ absurd (d.0 (Memᴰ.cast (sym q) n)) | inr t ↦ t ]) in
    omega (arith, length_without a l m)

-- The nodes by number and those of them that are left: who is among them, that they rise, how many pass a test, and which is the first. A scan that
-- has passed over nodes which fail its test finds the first that passes.
-- Assumes nothing.
use Prim.Native.Nat.{ℕ, zero, suc, ◌+◌, ◌≤◌, ◌<◌}
use native.Mathlib.Numerals.{add-one}
use native.Mathlib.Omega.{arith}
use mathlib.Core.Path.{◌≡◌, refl, sym, ◌∙◌, ap, subst}
use mathlib.Core.Logic.{◌⊎◌, inl, inr, ◌≢◌}
use mathlib.Core.List.Memᴰ
use mathlib.Core.List.{List, [], ◌∷◌}
use mathlib.Core.Bool.{Bool, true, false, cond}
use mathlib.Core.Option.{some, none}
use lib.Dec.{eqb, ltb}
use lib.ListN.{length, take, get_or}
use lib.Seq.{get_or-take, length-take-le}
use borrow.Author.Tests.{eqb-true, eqb-false, eq-eqb, ne_eqb, ltb-true, ltb-false}
use Rattle.std.specs.Prelude.{Option, Some, None, filter, position}
use Rattle.std.specs.List.{position_or_len, range_with_len}
use Rattle.std.proofs.lemmas.List.Sums.{passes_at_first, fails_before_first}
use Rattle.lists.specs.Member.{◌∈◌, Rising}
use Rattle.lists.specs.Order.{without}
use Rattle.lists.specs.Tests.{any, first}
use Rattle.lists.proofs.TestLaws.{false_true, any_true}
use Rattle.lists.proofs.OrderLaws.{in_nil, in_tail, in_without, of_without, distinct_without}
use Rattle.lists.proofs.RisingLaws.{rising_above, rising_lower, rising_distinct, rising_without, rising_same}
use Rattle.taking.specs.Nodes.{up_from, indices, bit, tally, is_left, left_of, FirstOf}

-- ---- the nodes

in_up_from : (i m x : ℕ) → i ≤ x → x < i + m → x ∈ up_from i m
in_up_from i zero x h g = absurd (omega arith)
in_up_from i (suc m) x h g = go (eqb x i) refl (λ f. in_up_from (suc i) m x f (omega arith))
  where
    go : (b : Bool) → eqb x i ≡ b → (suc i ≤ x → x ∈ up_from (suc i) m) → x ∈ i ∷ up_from (suc i) m
    go true e ih = Memᴰ.head (eqb-true x i e)
    go false e ih = let ne = eqb-false x i e in Memᴰ.tail (ih (omega (arith, ne)))

up_from_in : (i m x : ℕ) → x ∈ up_from i m → x < i + m
up_from_in i zero x h = in_nil h
up_from_in i (suc m) x (Memᴰ.head e) = omega arith
up_from_in i (suc m) x (Memᴰ.tail n) = let r = up_from_in (suc i) m x n in omega arith

pub index_below : (n x : ℕ) → x ∈ indices n → x < n
index_below n x m = let r = up_from_in 0 n x m in omega arith

pub up_from_rising : (i m : ℕ) → Rising i (up_from i m)
up_from_rising i zero = tt
up_from_rising i (suc m) = (omega arith, up_from_rising (suc i) m)

-- the library's range
pub range-up_from : (i m : ℕ) → range_with_len i m ≡ up_from i m
range-up_from i zero = refl
range-up_from i (suc m) = rw (add-one i, range-up_from (suc i) m) refl

pub length-up_from : (i m : ℕ) → length (up_from i m) ≡ m
length-up_from i zero = refl
length-up_from i (suc m) = ap suc (length-up_from (suc i) m)

module _ (p : ℕ → Bool) where
  filter_in : (l : List ℕ) (x : ℕ) → x ∈ filter p l → (x ∈ l) × (p x ≡ true)
  filter_in [] x m = in_nil m
  filter_in (a ∷ l) x m = go (p a) refl m (λ n. filter_in l x n)
    where
      go : (b : Bool) → p a ≡ b → x ∈ cond b (a ∷ filter p l) (filter p l) → (x ∈ filter p l → (x ∈ l) × (p x ≡ true)) → (x ∈ a ∷ l) × (p x ≡ true)
      go true e (Memᴰ.head q) ih = (Memᴰ.head q, rw q e)
      go true e (Memᴰ.tail n) ih = (Memᴰ.tail (ih n).0, (ih n).1)
      go false e n ih = (Memᴰ.tail (ih n).0, (ih n).1)

  in_filter : (l : List ℕ) (x : ℕ) → x ∈ l → p x ≡ true → x ∈ filter p l
  in_filter [] x m t = in_nil m
  in_filter (a ∷ l) x m t = go (p a) refl (Memᴰ.cases_cons m) (λ n. in_filter l x n t)
    where
      go : (b : Bool) → p a ≡ b → (x ≡ a) ⊎ (x ∈ l) → (x ∈ l → x ∈ filter p l) → x ∈ cond b (a ∷ filter p l) (filter p l)
      go true e (inl q) ih = Memᴰ.head q
      go true e (inr n) ih = Memᴰ.tail (ih n)
      go false e (inl q) ih = false_true (sym (rw q e) ∙ t)
      go false e (inr n) ih = ih n

  filter_rising : (i : ℕ) (l : List ℕ) → Rising i l → Rising i (filter p l)
  filter_rising i [] r = tt
  filter_rising i (a ∷ l) r = go (p a) (filter_rising (suc a) l r.1)
    where
      go : (b : Bool) → Rising (suc a) (filter p l) → Rising i (cond b (a ∷ filter p l) (filter p l))
      go true ih = (r.0, ih)
      go false ih = rising_lower i (suc a) (filter p l) (omega (arith, r.0)) ih

  filter_all : (l : List ℕ) → ((x : ℕ) → x ∈ l → p x ≡ true) → filter p l ≡ l
  filter_all [] h = refl
  filter_all (a ∷ l) h = rw (h a (Memᴰ.head refl)) (ap (λ (t : List ℕ). a ∷ t) (filter_all l (λ x m. h x (Memᴰ.tail m))))

-- ---- how many pass a test

pub bit_le : (b : Bool) → bit b ≤ 1
bit_le true = omega arith
bit_le false = omega arith

module _ (p : ℕ → Bool) where
  pub tally_le : (l : List ℕ) → tally p l ≤ length l
  tally_le [] = omega arith
  tally_le (a ∷ l) = omega (arith, tally_le l, bit_le (p a))

  pub tally-without : (k : ℕ) (l : List ℕ) → k ∈ l → bit (p k) + tally p (without k l) ≡ tally p l
  tally-without k [] m = in_nil m
  tally-without k (a ∷ l) m = go (eqb k a) refl (λ n. tally-without k l n)
    where
      go : (b : Bool) → eqb k a ≡ b → (k ∈ l → bit (p k) + tally p (without k l) ≡ tally p l)
          → bit (p k) + tally p (cond b l (a ∷ without k l)) ≡ bit (p a) + tally p l
      go true e ih = rw (eqb-true k a e) refl
      go false e ih = omega (arith, ih (in_tail m (eqb-false k a e)))

  pub tally_none : (l : List ℕ) → any p l ≡ false → tally p l ≡ 0
  tally_none [] e = refl
  tally_none (a ∷ l) e = go (p a) refl e (λ f. tally_none l f)
    where
      go : (b : Bool) → p a ≡ b → cond b true (any p l) ≡ false → (any p l ≡ false → tally p l ≡ 0) → bit b + tally p l ≡ 0
      go true f e ih = false_true (sym e)
      go false f e ih = omega (arith, ih e)

  pub tally_some : (l : List ℕ) → any p l ≡ true → 0 < tally p l
  tally_some l e =
      let r = any_true p l e in
      let t : bit (p r.0) ≡ 1 = rw r.2 in
      omega (arith, tally-without r.0 l r.1)

  -- a tally is how many of them a filter leaves
  pub tally-filter : (l : List ℕ) → length (filter p l) ≡ tally p l
  tally-filter [] = refl
  tally-filter (a ∷ l) = go (p a) (tally-filter l)
    where
      go : (b : Bool) → length (filter p l) ≡ tally p l → length (cond b (a ∷ filter p l) (filter p l)) ≡ bit b + tally p l
      go true ih = omega (arith, ih)
      go false ih = omega (arith, ih)

-- ---- the first of a rising list that passes a test

module _ (p : ℕ → Bool) where
  pub first_is : (i : ℕ) (l : List ℕ) (r : ℕ) → Rising i l → r ∈ l → p r ≡ true → ((j : ℕ) → j ∈ l → j < r → p j ≡ false) → first p l ≡ some r
  first_is i [] r s m t h = in_nil m
  first_is i (a ∷ l) r s m t h = go (p a) refl (Memᴰ.cases_cons m) (λ n. first_is (suc a) l r s.1 n t (λ j k. h j (Memᴰ.tail k)))
    where
      go : (b : Bool) → p a ≡ b → (r ≡ a) ⊎ (r ∈ l) → (r ∈ l → first p l ≡ some r) → cond b (some a) (first p l) ≡ some r
      go true e (inl q) ih = rw q
      go true e (inr n) ih = false_true (sym (h a (Memᴰ.head refl) (rising_above (suc a) l s.1 r n)) ∙ e)
      go false e (inl q) ih = false_true (sym (rw q e) ∙ t)
      go false e (inr n) ih = ih n

  pub first_not : (l : List ℕ) → ((j : ℕ) → j ∈ l → p j ≡ false) → first p l ≡ none
  first_not [] h = refl
  first_not (a ∷ l) h = rw (h a (Memᴰ.head refl)) (first_not l (λ j m. h j (Memᴰ.tail m)))

-- ---- the nodes left

module _ (n : ℕ) (d : List ℕ) where
  pub left_in : (x : ℕ) → x ∈ left_of n d → (x < n) × (is_left d x ≡ true)
  unfolding left_of
  left_in x m = let r = filter_in (is_left d) (indices n) x m in (index_below n x r.0, r.1)

  pub in_left : (x : ℕ) → x < n → is_left d x ≡ true → x ∈ left_of n d
  unfolding left_of
  in_left x h t = in_filter (is_left d) (indices n) x (in_up_from 0 n x (omega arith) (omega arith)) t

  pub left_rising : Rising 0 (left_of n d)
  unfolding left_of
  left_rising = filter_rising (is_left d) 0 (indices n) (up_from_rising 0 n)

  pub all_left : ((k : ℕ) → k < n → is_left d k ≡ true) → left_of n d ≡ indices n
  unfolding left_of
  all_left h = filter_all (is_left d) (indices n) (λ x m. h x (index_below n x m))

pub left_true : (d : List ℕ) (k : ℕ) → get_or d k 0 ≢ 0 → is_left d k ≡ true
left_true d k h = rw (ne_eqb (get_or d k 0) 0 h)

pub left_false : (d : List ℕ) (k : ℕ) → get_or d k 0 ≡ 0 → is_left d k ≡ false
left_false d k h = rw (eq-eqb (get_or d k 0) 0 h)

pub left_not : (d : List ℕ) (k : ℕ) → is_left d k ≡ true → get_or d k 0 ≢ 0
left_not d k t z = false_true (sym (left_false d k z) ∙ t)

-- the nodes left when k has gone
pub left_without : (n k : ℕ) (d e : List ℕ) → is_left e k ≡ false → ((j : ℕ) → j < n → j ≢ k → is_left e j ≡ is_left d j)
    → left_of n e ≡ without k (left_of n d)
left_without n k d e g h =
    rising_same 0 0 (left_of n e) (without k (left_of n d)) (left_rising n e) (rising_without k 0 (left_of n d) (left_rising n d))
    (λ x. (λ m. let r = left_in n e x m in forth x r.0 r.1, λ m. back x m))
  where
    forth : (x : ℕ) → x < n → is_left e x ≡ true → x ∈ without k (left_of n d)
    forth x u t =
        let ne : x ≢ k = λ q. false_true (sym g ∙ subst (λ (y : ℕ). is_left e y ≡ true) q t) in
        elim (of_without k (left_of n d) (in_left n d x u (sym (h x u ne) ∙ t))) [ inl q ↦ absurd (ne q) | inr m ↦ m ]

    back : (x : ℕ) → x ∈ without k (left_of n d) → x ∈ left_of n e
    back x m =
        let r = left_in n d x (in_without k (left_of n d) m) in
        let z : x ≢ k = λ q. (distinct_without k (left_of n d) (rising_distinct 0 (left_of n d) (left_rising n d))).1
        (subst (λ (y : ℕ). y ∈ without k (left_of n d)) q m) in
        in_left n e x r.0 (h x r.0 z ∙ r.1)

-- ---- the first that passes a test

module _ (p : ℕ → Bool) where
  -- the first of n places of a list whose value passes it
  pub first-position : (xs : List ℕ) (n : ℕ) → n ≤ length xs → (r : Option ℕ) → r ≡ position p (take n xs)
      → FirstOf (λ (k : ℕ). p (get_or xs k 0)) n r
  first-position xs n w r e =
      subst (λ (o : Option ℕ). FirstOf (λ (k : ℕ). p (get_or xs k 0)) n o) (sym e)
      (go (ltb (position_or_len p (take n xs)) (length (take n xs))) refl)
    where
      size : length (take n xs) ≡ n
      size = length-take-le n xs w

      same : (k : ℕ) → k < n → get_or (take n xs) k 0 ≡ get_or xs k 0
      same k h = get_or-take n xs k 0 h

      go : (b : Bool) → ltb (position_or_len p (take n xs)) (length (take n xs)) ≡ b
          → FirstOf (λ (k : ℕ). p (get_or xs k 0)) n (cond b (Some (position_or_len p (take n xs))) None)
      go true f =
          let h = ltb-true (position_or_len p (take n xs)) (length (take n xs)) f in
          let g : position_or_len p (take n xs) < n = omega (arith, size) in
          record {
            within = g;
            here = ap p (sym (same _ g)) ∙ passes_at_first p (take n xs) 0 h;
            before = λ j l. ap p (sym (same j (omega arith))) ∙ fails_before_first p (take n xs) j 0 l;
          }
      go false f = λ j l.
          let h = ltb-false (position_or_len p (take n xs)) (length (take n xs)) f in
          ap p (sym (same j l)) ∙ fails_before_first p (take n xs) j 0 (omega (arith, size))

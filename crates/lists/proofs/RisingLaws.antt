-- Rising lists: the first is the smallest, none stands twice, and the members alone decide the list.
-- Assumes nothing.
use Prim.Native.Nat.{ℕ, suc, ◌≤◌}
use native.Mathlib.Omega.{arith}
use mathlib.Core.Path.{◌≡◌, refl, sym, ◌∙◌, ap, ap₂}
use mathlib.Core.Logic.{◌⊎◌, inl, inr, ◌↔◌}
use mathlib.Core.List.Memᴰ
use mathlib.Core.List.{List, [], ◌∷◌}
use mathlib.Core.Bool.{Bool, true, false, cond}
use mathlib.Core.Option.{Option, some}
use lib.Dec.{eqb, ltb}
use lib.ListN.{length}
use borrow.Author.Tests.{eqb-true, eqb-false, ltb-true, ltb-false}
use Rattle.lists.specs.Member.{◌∈◌, Rising}
use Rattle.lists.specs.Order.{Distinct, without, insert}
use Rattle.lists.specs.Tests.{first}
use Rattle.lists.proofs.TestLaws.{false_true}
use Rattle.lists.proofs.OrderLaws.{in_nil, in_tail}

pub rising_above : (n : ℕ) (l : List ℕ) → Rising n l → (x : ℕ) → x ∈ l → n ≤ x
rising_above n [] r x m = in_nil m
rising_above n (a ∷ l) r x (Memᴰ.head e) = omega (arith, r.0)
rising_above n (a ∷ l) r x (Memᴰ.tail m) = omega (arith, r.0, rising_above (suc a) l r.1 x m)

pub rising_lower : (n k : ℕ) (l : List ℕ) → n ≤ k → Rising k l → Rising n l
rising_lower n k [] h r = tt
rising_lower n k (a ∷ l) h r = (omega (arith, r.0), r.1)

pub rising_distinct : (n : ℕ) (l : List ℕ) → Rising n l → Distinct l
rising_distinct n [] r = tt
rising_distinct n (a ∷ l) r = (λ m. absurd (omega (arith, rising_above (suc a) l r.1 a m)), rising_distinct (suc a) l r.1)

pub rising_without : (k n : ℕ) (l : List ℕ) → Rising n l → Rising n (without k l)
rising_without k n [] r = tt
rising_without k n (a ∷ l) r = go (eqb k a) (rising_without k (suc a) l r.1)
  where
    go : (b : Bool) → Rising (suc a) (without k l) → Rising n (cond b l (a ∷ without k l))
    go true ih = rising_lower n (suc a) l (omega (arith, r.0)) r.1
    go false ih = (r.0, ih)

-- in a rising list the first that passes is the smallest that passes
pub first-least : (p : ℕ → Bool) (n : ℕ) (l : List ℕ) (k : ℕ) → Rising n l → first p l ≡ some k → (j : ℕ) → j ∈ l → p j ≡ true → k ≤ j
first-least p n [] k r e j m t = in_nil m
first-least p n (a ∷ l) k r e j m t = go (p a) refl e (Memᴰ.cases_cons m) (λ f o. first-least p (suc a) l k r.1 f j o t)
  where
    go : (b : Bool) → p a ≡ b → ◌≡◌ {A = Option ℕ} (cond b (some a) (first p l)) (some k) → (j ≡ a) ⊎ (j ∈ l) → (first p l ≡ some k → j ∈ l → k ≤ j) → k ≤ j
    go true f e (inl q) ih = let s : k ≡ j = cc in omega arith
    go true f e (inr o) ih = let s : k ≡ a = cc in omega (arith, rising_above (suc a) l r.1 j o)
    go false f e (inl q) ih = let s : false ≡ true = cc in false_true s
    go false f e (inr o) ih = ih e o

-- two rising lists with the same members are one list
pub rising_same : (n k : ℕ) (l m : List ℕ) → Rising n l → Rising k m → ((x : ℕ) → (x ∈ l) ↔ (x ∈ m)) → l ≡ m
rising_same n k [] [] r s h = refl
rising_same n k [] (b ∷ m) r s h = in_nil ((h b).1 (Memᴰ.head refl))
rising_same n k (a ∷ l) [] r s h = in_nil ((h a).0 (Memᴰ.head refl))
rising_same n k (a ∷ l) (b ∷ m) r s h =
    let same : a ≡ b = heads (Memᴰ.cases_cons ((h a).0 (Memᴰ.head refl))) (Memᴰ.cases_cons ((h b).1 (Memᴰ.head refl))) in
    ap₂ (λ (c : ℕ) (t : List ℕ). c ∷ t) same (rising_same (suc a) (suc b) l m r.1 s.1 (λ x. (
      λ o. in_tail ((h x).0 (Memᴰ.tail o)) (λ q. absurd (omega (arith, rising_above (suc a) l r.1 x o))),
      λ o. in_tail ((h x).1 (Memᴰ.tail o)) (λ q. absurd (omega (arith, rising_above (suc b) m s.1 x o))),
    )))
  where
    heads : (a ≡ b) ⊎ (a ∈ m) → (b ≡ a) ⊎ (b ∈ l) → a ≡ b
    heads (inl q) _ = q
    heads (inr o) (inl q) = sym q
    heads (inr o) (inr p) = absurd (omega (arith, rising_above (suc a) l r.1 b p, rising_above (suc b) m s.1 a o))

-- ---- one number more

module _ (k : ℕ) where
  pub insert_rising : (n : ℕ) (l : List ℕ) → n ≤ k → Rising n l → Rising n (insert k l)
  insert_rising n [] h r = (h, tt)
  insert_rising n (a ∷ l) h r = go (ltb k a) refl (eqb k a) refl (insert_rising (suc a) l)
    where
      go : (b : Bool) → ltb k a ≡ b → (c : Bool) → eqb k a ≡ c → (suc a ≤ k → Rising (suc a) l → Rising (suc a) (insert k l))
          → Rising n (cond b (k ∷ a ∷ l) (cond c (a ∷ l) (a ∷ insert k l)))
      go true e c f ih = (h, (omega (arith, ltb-true k a e), r.1))
      go false e true f ih = r
      go false e false f ih = (r.0, ih (let z = ltb-false k a e in let w = eqb-false k a f in omega (arith, w)) r.1)

  pub in_insert : (l : List ℕ) (x : ℕ) → x ∈ insert k l → (x ≡ k) ⊎ (x ∈ l)
  in_insert [] x m = Memᴰ.cases_cons m
  in_insert (a ∷ l) x m = go (ltb k a) (eqb k a) m (in_insert l x)
    where
      go : (b c : Bool) → x ∈ cond b (k ∷ a ∷ l) (cond c (a ∷ l) (a ∷ insert k l)) → (x ∈ insert k l → (x ≡ k) ⊎ (x ∈ l)) → (x ≡ k) ⊎ (x ∈ a ∷ l)
      go true c m ih = Memᴰ.cases_cons m
      go false true m ih = inr m
      go false false (Memᴰ.head q) ih = inr (Memᴰ.head q)
      go false false (Memᴰ.tail o) ih = elim (ih o) [ inl q ↦ inl q | inr t ↦ inr (Memᴰ.tail t) ]

  pub of_insert : (l : List ℕ) (x : ℕ) → (x ≡ k) ⊎ (x ∈ l) → x ∈ insert k l
  of_insert [] x (inl q) = Memᴰ.head q
  of_insert [] x (inr m) = in_nil m
  of_insert (a ∷ l) x h = go (ltb k a) (eqb k a) refl h (of_insert l x)
    where
      go : (b c : Bool) → eqb k a ≡ c → (x ≡ k) ⊎ (x ∈ a ∷ l) → ((x ≡ k) ⊎ (x ∈ l) → x ∈ insert k l) → x ∈ cond b (k ∷ a ∷ l) (cond c (a ∷ l) (a ∷ insert k l))
      go true c f (inl q) ih = Memᴰ.head q
      go true c f (inr m) ih = Memᴰ.tail m
      go false true f (inl q) ih = Memᴰ.head (q ∙ eqb-true k a f)
      go false true f (inr m) ih = m
      go false false f (inl q) ih = Memᴰ.tail (ih (inl q))
      go false false f (inr (Memᴰ.head q)) ih = Memᴰ.head q
      go false false f (inr (Memᴰ.tail m)) ih = Memᴰ.tail (ih (inr m))

  -- one more, where k was not there
  pub length-insert : (l : List ℕ) → ¬ (k ∈ l) → length (insert k l) ≡ suc (length l)
  length-insert [] h = refl
  length-insert (a ∷ l) h = go (ltb k a) (eqb k a) refl (length-insert l)
    where
      go : (b c : Bool) → eqb k a ≡ c → ((¬ (k ∈ l)) → length (insert k l) ≡ suc (length l))
          → length (cond b (k ∷ a ∷ l) (cond c (a ∷ l) (a ∷ insert k l))) ≡ suc (suc (length l))
      go true c f ih = refl
      go false true f ih = absurd (h (Memᴰ.head (eqb-true k a f)))
      go false false f ih = ap suc (ih (λ m. h (Memᴰ.tail m)))

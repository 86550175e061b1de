-- Ranks say which of two versions comes first: in a list without doubles, of which 0 is none, one of 0 and the list's stands before another exactly where its
-- rank is smaller. One more at the end has the rank of the list's length, and leaves the others' ranks.
-- Assumes nothing.
use Prim.Native.Nat.{ℕ, zero, suc, ◌+◌, ◌≤◌, ◌<◌}
use native.Mathlib.Omega.{arith}
use mathlib.Core.Path.{◌≡◌, refl, sym, ◌∙◌, ap}
use mathlib.Core.Logic.{◌⊎◌, inl, inr, ◌↔◌}
use mathlib.Core.List.Memᴰ
use mathlib.Core.List.{List, [], ◌∷◌, ◌++◌}
use mathlib.Core.Bool.{Bool, true, false, cond}
use lib.Dec.{eqb}
use lib.ListN.{length, get_or}
use borrow.Author.Tests.{eq-eqb, ne_eqb, eqb-true, eqb-false}
use Rattle.lists.specs.Member.{◌∈◌}
use Rattle.lists.specs.Tests.{any}
use Rattle.lists.specs.Order.{Distinct, Before}
use Rattle.lists.proofs.OrderLaws.{in_nil, in_tail, before_left, before_right}
use Rattle.lists.proofs.PlaceLaws.{at_in}
use Rattle.lists.proofs.TestLaws.{any_in, any_not}
use Rattle.order_rules.specs.Ranks.{rank_from, rank_in}

module _ (k : ℕ) where
  -- who stands there has a rank from the first place on, below the place after the last
  pub in_rank : (i : ℕ) (l : List ℕ) → k ∈ l → (i ≤ rank_from i k l) × (rank_from i k l < i + length l)
  unfolding rank_from
  in_rank i [] m = in_nil m
  in_rank i (a ∷ l) m = go (eqb k a) refl (in_rank (suc i) l)
    where
      go : (b : Bool) → eqb k a ≡ b → (k ∈ l → (suc i ≤ rank_from (suc i) k l) × (rank_from (suc i) k l < suc i + length l))
          → (i ≤ cond b i (rank_from (suc i) k l)) × (cond b i (rank_from (suc i) k l) < i + suc (length l))
      go true e ih = (omega arith, omega arith)
      go false e ih = let r = ih (in_tail m (eqb-false k a e)) in (omega (arith, r.0), omega (arith, r.1))

  -- who does not has none
  pub no_rank : (i : ℕ) (l : List ℕ) → ¬ (k ∈ l) → rank_from i k l ≡ 0
  unfolding rank_from
  no_rank i [] n = refl
  no_rank i (a ∷ l) n = rw (ne_eqb k a (λ e. n (Memᴰ.head e))) (no_rank (suc i) l (λ m. n (Memᴰ.tail m)))

  -- so a rank says that it stands there
  pub rank_in_lem : (l : List ℕ) → 0 < rank_in k l → k ∈ l
  rank_in_lem l h = go (any (eqb k) l) refl
    where
      go : (b : Bool) → any (eqb k) l ≡ b → k ∈ l
      go true e = any_in k l e
      go false e = let z = no_rank 1 l (any_not k l e) in absurd (omega arith)

  -- and where it stands
  pub rank_at_lem : (i : ℕ) (l : List ℕ) → k ∈ l → (p : ℕ) → rank_from i k l ≡ i + p → get_or l p 0 ≡ k
  unfolding rank_from
  rank_at_lem i [] m p e = in_nil m
  rank_at_lem i (a ∷ l) m p e = go (eqb k a) refl p e (rank_at_lem (suc i) l)
    where
      go : (b : Bool) → eqb k a ≡ b → (p : ℕ) → cond b i (rank_from (suc i) k l) ≡ i + p
          → (k ∈ l → (p : ℕ) → rank_from (suc i) k l ≡ suc i + p → get_or l p 0 ≡ k) → get_or (a ∷ l) p 0 ≡ k
      go true f zero e ih = sym (eqb-true k a f)
      go true f (suc p) e ih = absurd (omega arith)
      go false f zero e ih = let r = (in_rank (suc i) l (in_tail m (eqb-false k a f))).0 in absurd (omega arith)
      go false f (suc p) e ih = ih (in_tail m (eqb-false k a f)) p (omega arith)

  -- one more at the end
  pub rank_other : (i b : ℕ) (l : List ℕ) → ¬ (k ≡ b) → rank_from i k (l ++ b ∷ []) ≡ rank_from i k l
  unfolding rank_from
  rank_other i b [] n = rw (ne_eqb k b n)
  rank_other i b (a ∷ l) n = ap (cond (eqb k a) i) (rank_other (suc i) b l n)

  pub rank_new : (i : ℕ) (l : List ℕ) → ¬ (k ∈ l) → rank_from i k (l ++ k ∷ []) ≡ i + length l
  unfolding rank_from
  rank_new i [] n = rw (eq-eqb k k refl) (omega arith)
  rank_new i (a ∷ l) n =
      let e : suc i + length l ≡ i + suc (length l) = omega arith in
      rw (ne_eqb k a (λ e. n (Memᴰ.head e))) (rank_new (suc i) l (λ m. n (Memᴰ.tail m)) ∙ e)

-- the rank of what stands at a place, in a list without doubles
pub at_rank : (i : ℕ) (l : List ℕ) → Distinct l → (p : ℕ) → p < length l → rank_from i (get_or l p 0) l ≡ i + p
unfolding rank_from
at_rank i [] d p h = absurd (omega arith)
at_rank i (a ∷ l) d zero h = rw (eq-eqb a a refl) (omega arith)
at_rank i (a ∷ l) d (suc p) h =
    let z : suc i + p ≡ i + suc p = omega arith in
    rw (ne_eqb (get_or l p 0) a (λ e. d.0 (Memᴰ.cast (sym e) (at_in l p (omega arith))))) (at_rank (suc i) l d.1 p (omega arith) ∙ z)

-- ---- who comes first

module _ (i j : ℕ) where
  before_rank : (n : ℕ) (l : List ℕ) → Distinct l → Before l i j → rank_from n i l < rank_from n j l
  unfolding rank_from
  before_rank n [] d b = absurd b
  before_rank n (a ∷ l) d (inl b) =
      let f : ¬ (j ≡ a) = λ e. d.0 (Memᴰ.cast (sym e) b.1) in
      let r = (in_rank j (suc n) l b.1).0 in
      rw (eq-eqb i a b.0, ne_eqb j a f) (omega arith)
  before_rank n (a ∷ l) d (inr b) =
      let e : ¬ (i ≡ a) = λ e. d.0 (Memᴰ.cast (sym e) (before_left i j l b)) in
      let f : ¬ (j ≡ a) = λ e. d.0 (Memᴰ.cast (sym e) (before_right i j l b)) in
      rw (ne_eqb i a e, ne_eqb j a f) (before_rank (suc n) l d.1 b)

  rank_before : (n : ℕ) (l : List ℕ) → Distinct l → i ∈ l → j ∈ l → rank_from n i l < rank_from n j l → Before l i j
  unfolding rank_from
  rank_before n [] d m o = λ h. in_nil m
  rank_before n (a ∷ l) d m o = go (eqb i a) (eqb j a) refl refl (rank_before (suc n) l d.1)
    where
      go : (b c : Bool) → eqb i a ≡ b → eqb j a ≡ c → (i ∈ l → j ∈ l → rank_from (suc n) i l < rank_from (suc n) j l → Before l i j)
          → cond b n (rank_from (suc n) i l) < cond c n (rank_from (suc n) j l) → Before (a ∷ l) i j
      go true true e f ih h = absurd (omega arith)
      go true false e f ih h = inl (eqb-true i a e, in_tail o (eqb-false j a f))
      go false true e f ih h = let r = (in_rank i (suc n) l (in_tail m (eqb-false i a e))).0 in absurd (omega arith)
      go false false e f ih h = inr (ih (in_tail m (eqb-false i a e)) (in_tail o (eqb-false j a f)) h)

  -- among version 0 and an item's committed versions, i comes before j exactly where its rank is smaller
  pub before_ranks : (l : List ℕ) → Distinct l → ¬ (0 ∈ l) → i ∈ 0 ∷ l → Before (0 ∷ l) i j ↔ (rank_in i l < rank_in j l)
  before_ranks l d z m = (forth, back (Memᴰ.cases_cons m))
    where
      forth : Before (0 ∷ l) i j → rank_in i l < rank_in j l
      forth (inl b) =
          let r = (in_rank j 1 l b.1).0 in
          let e : rank_in i l ≡ 0 = rw b.0 (no_rank 0 1 l z) in
          omega arith
      forth (inr b) = before_rank 1 l d b

      back : (i ≡ 0) ⊎ (i ∈ l) → rank_in i l < rank_in j l → Before (0 ∷ l) i j
      back (inl e) h = inl (e, rank_in_lem j l (omega arith))
      back (inr n) h = inr (rank_before 1 l d n (rank_in_lem j l (omega arith)) h)

-- Dropping the entries of a stamp: the entries kept so far, zeros up to the place reached, and the rest as it was.
-- Assumes nothing.
use mathlib.Core.Path.{◌≡◌, refl, sym, ap, ◌∙◌}
use mathlib.Core.Logic.{◌≢◌}
use mathlib.Core.List.{List, [], ◌∷◌, ◌++◌, append-nil, append_assoc}
use Prim.Native.Nat.{ℕ, zero, suc, ◌+◌, ◌-◌, ◌≤◌, ◌<◌}
use native.Mathlib.Numerals.{add-one}
use native.Mathlib.Omega.{arith}
use native.Mathlib.Decide.{ℕ_discrete}
use lib.ListN.{length, take, drop, set, get_or, replicate, length-append, length-replicate, take-append-drop}
use lib.Seq.{drop-cons, set_at, get_or_at, append_snoc, length-take-le, get_or-take, set-append_seam}
use mathlib.Core.Bool.{Bool, true, false, true≢false, not, cond}
use borrow.Author.Tests.{eq-eqb, ltb-false}
use lib.Dec.{eqb, ltb}
use Rattle.std.specs.Prelude.{Some, None, position}
use Rattle.std.specs.List.{prefix_len}
use Rattle.std.proofs.lemmas.List.Sums.{prefix_len_passes, prefix_len-le-length}
use Rattle.lists.specs.Choice.{pick}
use Rattle.lists.proofs.ChoiceLaws.{pick_yes, pick_no, pick_by}
use Rattle.version_columns.specs.Change.{kept, narrowed, Without}

-- ---- what is kept

kept_append : {P : Type 0} (d : Dec P) (x : ℕ) (f g : List ℕ) → pick d (f ++ g) (x ∷ (f ++ g)) ≡ pick d f (x ∷ f) ++ g
unfolding pick
kept_append (yes p) x f g = refl
kept_append (no n) x f g = refl

-- one entry more, of another stamp
kept_keep : (k i : ℕ) (ks a : List ℕ) → i < length ks → i < length a → get_or ks i 0 ≢ k
    → kept k (take (suc i) ks) (take (suc i) a) ≡ kept k (take i ks) (take i a) ++ get_or a i 0 ∷ []
unfolding kept
kept_keep k i [] a h g n = absurd (omega arith)
kept_keep k i (j ∷ ks) [] h g n = absurd (omega arith)
kept_keep k zero (j ∷ ks) (x ∷ a) h g n = pick_no (ℕ_discrete j k) [] (x ∷ []) n
kept_keep k (suc i) (j ∷ ks) (x ∷ a) h g n =
    rw (kept_keep k i ks a (omega arith) (omega arith) n) (kept_append (ℕ_discrete j k) x (kept k (take i ks) (take i a)) (get_or a i 0 ∷ []))

-- one entry more, of the stamp
kept_skip : (k i : ℕ) (ks a : List ℕ) → i < length ks → i < length a → get_or ks i 0 ≡ k
    → kept k (take (suc i) ks) (take (suc i) a) ≡ kept k (take i ks) (take i a)
unfolding kept
kept_skip k i [] a h g e = absurd (omega arith)
kept_skip k i (j ∷ ks) [] h g e = absurd (omega arith)
kept_skip k zero (j ∷ ks) (x ∷ a) h g e = pick_yes (ℕ_discrete j k) [] (x ∷ []) e
kept_skip k (suc i) (j ∷ ks) (x ∷ a) h g e = rw (kept_skip k i ks a (omega arith) (omega arith) e)

-- none of the stamp
kept_all : (k n : ℕ) (ks a : List ℕ) → n ≤ length ks → n ≤ length a → Without k n ks → kept k (take n ks) (take n a) ≡ take n a
unfolding kept
kept_all k zero ks a h g w = refl
kept_all k (suc n) [] a h g w = absurd (omega arith)
kept_all k (suc n) (j ∷ ks) [] h g w = absurd (omega arith)
kept_all k (suc n) (j ∷ ks) (x ∷ a) h g w =
    rw (pick_no (ℕ_discrete j k) (kept k (take n ks) (take n a)) (x ∷ kept k (take n ks) (take n a)) (w 0 (omega arith)))
    (ap (λ (r : List ℕ). x ∷ r) (kept_all k n ks a (omega arith) (omega arith) (λ i l. w (suc i) (omega arith))))

pub kept_within : (k : ℕ) (ks a : List ℕ) → length (kept k ks a) ≤ length a
unfolding kept
kept_within k [] a = omega arith
kept_within k (j ∷ ks) [] = omega arith
kept_within k (j ∷ ks) (x ∷ a) =
    pick_by (λ (r : List ℕ). length r ≤ suc (length a)) (ℕ_discrete j k) (λ e. omega (arith, kept_within k ks a)) (λ n. omega (arith, kept_within k ks a))

-- ---- a turn, at place i with ys kept so far

module _ (a ys : List ℕ) (i : ℕ) (h : length ys ≤ i) (g : i < length a) where
  zeros-before : length (ys ++ replicate (i - length ys) 0) ≡ i
  zeros-before = simp (length-append, length-replicate) (omega arith)

  one_more : (n : ℕ) (r : List ℕ) → replicate n 0 ++ 0 ∷ r ≡ replicate (suc n) 0 ++ r
  one_more zero r = refl
  one_more (suc n) r = ap (λ (s : List ℕ). 0 ∷ s) (one_more n r)

  turn_read : get_or (ys ++ replicate (i - length ys) 0 ++ drop i a) i 0 ≡ get_or a i 0
  turn_read = rw (drop-cons a i 0) (get_or_at (ys ++ replicate (i - length ys) 0) (get_or a i 0) (drop (suc i) a) 0 i zeros-before)

  turn_wipe : set (ys ++ replicate (i - length ys) 0 ++ drop i a) i 0 ≡ ys ++ replicate (suc i - length ys) 0 ++ drop (suc i) a
  turn_wipe =
      let more : suc i - length ys ≡ suc (i - length ys) = omega arith in
      rw (drop-cons a i 0, more)
      (set_at (ys ++ replicate (i - length ys) 0) (get_or a i 0) (drop (suc i) a) 0 i zeros-before
      ∙ append_assoc ys (replicate (i - length ys) 0) (0 ∷ drop (suc i) a)
      ∙ ap (λ (r : List ℕ). ys ++ r) (one_more (i - length ys) (drop (suc i) a))
      ∙ sym (append_assoc ys (replicate (suc (i - length ys)) 0) (drop (suc i) a)))

  turn_store : (x : ℕ) → set (ys ++ replicate (suc i - length ys) 0 ++ drop (suc i) a) (length ys) x
      ≡ (ys ++ x ∷ []) ++ replicate (suc i - length (ys ++ x ∷ [])) 0 ++ drop (suc i) a
  turn_store x =
      let more : suc i - length ys ≡ suc (i - length ys) = omega arith in
      let size : length (ys ++ x ∷ []) ≡ suc (length ys) = rw length-append (omega arith) in
      let less : suc i - suc (length ys) ≡ i - length ys = omega arith in
      rw (more, size, less)
      (ap (λ (r : List ℕ). set r (length ys) x) (append_assoc ys (replicate (suc (i - length ys)) 0) (drop (suc i) a))
      ∙ set-append_seam ys 0 (replicate (i - length ys) 0 ++ drop (suc i) a) x
      ∙ sym (append_snoc ys x (replicate (i - length ys) 0 ++ drop (suc i) a))
      ∙ sym (append_assoc (ys ++ x ∷ []) (replicate (i - length ys) 0) (drop (suc i) a)))

-- ---- the loop

module _ (k : ℕ) (ks a : List ℕ) where
  -- the column at place i, and how many are kept
  pub record Narrowing (n : ℕ) (b : List ℕ) (left i : ℕ) : Type 0 where
    pub within : i ≤ n
    pub behind : left ≤ i
    pub count : left ≡ length (kept k (take i ks) (take i a))
    pub is : b ≡ narrowed k i ks a

  -- at the start
  pub narrowing_from : (n i : ℕ) → i ≤ n → n ≤ length ks → n ≤ length a → Without k i ks → Narrowing n a i i
  narrowing_from n i l h g w =
      let all : kept k (take i ks) (take i a) ≡ take i a = kept_all k i ks a (omega arith) (omega arith) w in
      let size : length (take i a) ≡ i = length-take-le i a (omega arith) in
      let none : i - i ≡ 0 = omega arith in
      record {
        within = l;
        behind = omega arith;
        count = rw all (sym size);
        is = rw (all, size, none, append-nil) (sym (take-append-drop i a));
      }

  module _ (n i left : ℕ) (b : List ℕ) (s : Narrowing n b left i) (l : i < n) (h : n ≤ length ks) (g : n ≤ length a) where
    few : length (kept k (take i ks) (take i a)) ≤ i
    few = omega (arith, s.behind, s.count)

    -- what is read
    pub narrowing_read : get_or b i 0 ≡ get_or a i 0
    narrowing_read = ap (λ (r : List ℕ). get_or r i 0) s.is ∙ turn_read a (kept k (take i ks) (take i a)) i few (omega arith)

    -- an entry of the stamp
    pub narrowing_skip : get_or ks i 0 ≡ k → Narrowing n (set b i 0) left (i + 1)
    narrowing_skip e =
        let same : kept k (take (i + 1) ks) (take (i + 1) a) ≡ kept k (take i ks) (take i a) = rw add-one (kept_skip k i ks a (omega arith) (omega arith) e) in
        record {
          within = omega arith;
          behind = omega (arith, s.behind);
          count = rw same s.count;
          is = rw (same, add-one i) (ap (λ (r : List ℕ). set r i 0) s.is ∙ turn_wipe a (kept k (take i ks) (take i a)) i few (omega arith));
        }

    -- an entry of another stamp
    pub narrowing_keep : get_or ks i 0 ≢ k → Narrowing n (set (set b i 0) left (get_or b i 0)) (left + 1) (i + 1)
    narrowing_keep e =
        let more : kept k (take (i + 1) ks) (take (i + 1) a) ≡ kept k (take i ks) (take i a) ++ get_or a i 0 ∷ [] = rw add-one (kept_keep k i ks a (omega arith) (omega arith) e) in
        let wiped : set b i 0 ≡ kept k (take i ks) (take i a) ++ replicate (suc i - length (kept k (take i ks) (take i a))) 0 ++ drop (suc i) a =
        ap (λ (r : List ℕ). set r i 0) s.is ∙ turn_wipe a (kept k (take i ks) (take i a)) i few (omega arith) in
        record {
          within = omega arith;
          behind = omega (arith, s.behind);
          count = rw (more, length-append) (omega (arith, s.count));
          is = rw (more, add-one i, narrowing_read, wiped, s.count) (turn_store a (kept k (take i ks) (take i a)) i few (omega arith) (get_or a i 0));
        }

-- ---- the first place of a stamp

module _ (k n : ℕ) (ks : List ℕ) (h : n ≤ length ks) where
  abbrev before : ℕ
  before = prefix_len (λ (s : ℕ). not (eqb s k)) (take n ks)

  size : length (take n ks) ≡ n
  size = length-take-le n ks h

  within : before ≤ n
  within = omega (arith, prefix_len-le-length (λ (s : ℕ). not (eqb s k)) (take n ks), size)

  -- no stamp before it is k
  none_before : Without k before ks
  none_before i l e =
      let other : not (eqb (get_or (take n ks) i 0) k) ≡ true = prefix_len_passes (λ (s : ℕ). not (eqb s k)) (take n ks) i 0 l in
      let here : get_or (take n ks) i 0 ≡ get_or ks i 0 = get_or-take n ks i 0 (omega (arith, within)) in
      true≢false (sym other ∙ ap not (eq-eqb _ _ (here ∙ e)))

  pub first_some : (i : ℕ) → position (λ (s : ℕ). eqb s k) (take n ks) ≡ Some i → (i ≤ n) × Without k i ks
  first_some i = go (ltb before (length (take n ks)))
    where
      go : (b : Bool) → cond b (Some before) None ≡ Some i → (i ≤ n) × Without k i ks
      go true e = let same : before ≡ i = cc in rw (← same) (within, none_before)
      go false e = cc

  pub first_none : position (λ (s : ℕ). eqb s k) (take n ks) ≡ None → Without k n ks
  first_none = go (ltb before (length (take n ks))) refl
    where
      go : (b : Bool) → ltb before (length (take n ks)) ≡ b → cond b (Some before) None ≡ None → Without k n ks
      go true e q = cc
      go false e q = let all : n ≤ before = rw size at (ltb-false _ _ e) in λ i l. none_before i (omega arith)

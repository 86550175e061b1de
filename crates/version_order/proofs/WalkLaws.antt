-- Walking an order field by field: the fields passed are the first of those that the bytes are read as, they pass the test so far, and their ranks stand in
-- the cells; so a field that is refused makes the whole order wrong, and at the end only a version left out can.
-- Assumes nothing.
use Prim.Native.Nat.{ℕ, zero, suc, ◌+◌, ◌*◌, ◌/◌, ◌%◌, ◌≤◌, ◌<◌}
use native.Mathlib.Nat.{zero-add}
use native.Mathlib.Omega.{arith}
use Rattle.std.specs.List.{list_any, range_with_len}
use Rattle.std.proofs.lemmas.List.Folds.{list_any_at}
use Rattle.std.proofs.lemmas.List.FromFn.{length-range_with_len, get_or-range_with_len}
use mathlib.Core.Path.{◌≡◌, refl, sym, ap, ◌∙◌, subst}
use mathlib.Core.Logic.{◌⊎◌, inl, inr, ◌≢◌}
use mathlib.Core.List.Memᴰ
use mathlib.Core.List.{List, [], ◌∷◌, ◌++◌, append_assoc, append-nil}
use mathlib.Core.Bool.{Bool, true, false, cond, not, ◌&&◌}
use Rattle.std.specs.Prelude.{Option, Some, None, Ok}
use lib.Dec.{eqb, leb}
use lib.ListN.{length, get_or}
use borrow.Author.Tests.{eq-eqb, ne_eqb, eqb-true, eqb-false, le-leb, lt-leb}
use Rattle.lists.specs.Member.{◌∈◌}
use Rattle.lists.proofs.OrderLaws.{in_nil}
use Rattle.lists.proofs.PlaceLaws.{at_in, in_at}
use Rattle.lists.proofs.TestLaws.{false_true, differs}
use Rattle.log_format.specs.Bytes.{Bytes}
use Rattle.history_rules.specs.WellFormed.{most_item}
use Rattle.order_rules.specs.Fields.{Field, field, items, vs_of}
use Rattle.order_rules.specs.Reading.{found_at, stamps_at, next_at, before, read_from, read_order, fields_of, StandsAt}
use Rattle.order_rules.specs.Right.{some_below, sound, left_out, judged, right_by}
use Rattle.order_rules.specs.Ranks.{rank_from, rank_in, rank_at, Ranks}
use Rattle.order_rules.specs.Reading.{Found, at_end, bad}
use Rattle.order_rules.specs.declared.Head.{Head}
use Rattle.order_rules.proofs.ReadingLaws.{length-stamps_at, stands_fits, found_stands, step_field, step_end, step_bad}
use Rattle.order_rules.proofs.RightLaws.{below_none, none_below, left_none, none_left}
use Rattle.order_rules.proofs.RankLaws.{in_rank, rank_in_lem}
use Rattle.version_order.specs.Judging.{Clear, gap_at, FieldRanked, Ranked}

-- ---- fields before others

-- fields before what was read after them
abbrev pub onto : List Field → Option (List Field) → Option (List Field)
onto [] o = o
onto (f ∷ fs) o = before f (onto fs o)

onto_snoc : (fs : List Field) (f : Field) (o : Option (List Field)) → onto (fs ++ f ∷ []) o ≡ onto fs (before f o)
onto_snoc [] f o = refl
onto_snoc (g ∷ fs) f o = ap (before g) (onto_snoc fs f o)

onto_some : (fs gs : List Field) → onto fs (Some gs) ≡ Some (fs ++ gs)
onto_some [] gs = refl
onto_some (f ∷ fs) gs = ap (before f) (onto_some fs gs)

onto_none : (fs : List Field) → onto fs None ≡ None
onto_none [] = refl
onto_none (f ∷ fs) = ap (before f) (onto_none fs)

items_snoc : (fs : List Field) (x : ℕ) (ks : List ℕ) (y : ℕ) → y ∈ items (fs ++ field x ks ∷ []) → (y ∈ items fs) ⊎ (y ≡ x)
items_snoc [] x ks y m = elim (Memᴰ.cases_cons m) [ inl e ↦ inr e | inr n ↦ in_nil n ]
items_snoc (field z js ∷ fs) x ks y m = elim (Memᴰ.cases_cons m) [
  | inl e ↦ inl (Memᴰ.head e)
  | inr n ↦ elim (items_snoc fs x ks y n) [ inl o ↦ inl (Memᴰ.tail o) | inr e ↦ inr e ]
]

-- an item without a field has no list
vs_unseen : (fs : List Field) (x : ℕ) → ¬ (x ∈ items fs) → vs_of fs x ≡ []
unfolding vs_of
vs_unseen [] x n = refl
vs_unseen (field y ks ∷ fs) x n = rw (ne_eqb x y (λ e. n (Memᴰ.head e))) (vs_unseen fs x (λ m. n (Memᴰ.tail m)))

-- its own list, once it has one
vs_same : (fs : List Field) (x : ℕ) (ks : List ℕ) → ¬ (x ∈ items fs) → vs_of (fs ++ field x ks ∷ []) x ≡ ks
unfolding vs_of
vs_same [] x ks n = rw (eq-eqb x x refl)
vs_same (field y js ∷ fs) x ks n = rw (ne_eqb x y (λ e. n (Memᴰ.head e))) (vs_same fs x ks (λ m. n (Memᴰ.tail m)))

-- another item's list stays
vs_other : (fs : List Field) (x : ℕ) (ks : List ℕ) (y : ℕ) → y ≢ x → vs_of (fs ++ field x ks ∷ []) y ≡ vs_of fs y
unfolding vs_of
vs_other [] x ks y n = rw (ne_eqb y x n)
vs_other (field z js ∷ fs) x ks y n = ap (cond (eqb y z) js) (vs_other fs x ks y n)

-- ---- none left out, by the cells

-- whether one of the numbers below n passes, asked of them one after the other
module _ (p : ℕ → Bool) where
  range_none : (a n : ℕ) → ((i : ℕ) → i < a + n → p i ≡ false) → list_any p (range_with_len a n) ≡ false
  range_none a zero h = refl
  range_none a (suc n) h = rw (h a (omega arith)) (range_none (a + 1) n (λ i l. h i (omega arith)))

  none_range : (n : ℕ) → list_any p (range_with_len 0 n) ≡ false → (i : ℕ) → i < n → p i ≡ false
  none_range n e i h = go (p i) refl
    where
      go : (b : Bool) → p i ≡ b → b ≡ false
      go true f =
          let l = length-range_with_len 0 n in
          let g : p (get_or (range_with_len 0 n) i 0) ≡ true = rw (get_or-range_with_len 0 n i 0 h, zero-add i) f in
          sym (list_any_at p (range_with_len 0 n) i 0 (omega arith) g) ∙ e
      go false f = refl

  pub any_below : (n : ℕ) → list_any p (range_with_len 0 n) ≡ some_below p n
  any_below n = go (list_any p (range_with_len 0 n)) (some_below p n) refl refl
    where
      go : (b c : Bool) → list_any p (range_with_len 0 n) ≡ b → some_below p n ≡ c → b ≡ c
      go true true f g = refl
      go false false f g = refl
      go true false f g = sym f ∙ range_none 0 n (λ i l. below_none p n g i (omega arith))
      go false true f g = sym (none_below p n (none_range n f)) ∙ g

module _ (wr : ℕ → ℕ → ℕ) (nodes : List ℕ) (vs : ℕ → List ℕ) (rank : List ℕ) (g : Ranks nodes vs rank) where
  -- the cell of node p and item x
  gap_cell : (p x : ℕ) → p < length nodes → x ≤ most_item → gap_at wr nodes rank (rank_at p x)
      ≡ (eqb (rank_in (get_or nodes p 0) (vs x)) 0 && not (eqb (wr (get_or nodes p 0) x) 0))
  gap_cell p x h l =
      let q : rank_at p x / 64 ≡ p = omega arith in
      let r : rank_at p x % 64 ≡ x = omega arith in
      let e = g p x (omega arith) l in
      rw (q, r, e)

  -- no gap: none is left out
  no_gap : some_below (gap_at wr nodes rank) (length nodes * 64) ≡ false → left_out wr nodes vs ≡ false
  no_gap e = none_left wr nodes vs (λ i x m l n.
      let w = in_at nodes i m in
      let h : w.0 < length nodes = omega (arith, w.1) in
      let f = below_none (gap_at wr nodes rank) (length nodes * 64) e (rank_at w.0 x) (omega arith) in
      let k : (eqb (rank_in i (vs x)) 0 && not (eqb (wr i x) 0)) ≡ false = rw w.2 at (sym (gap_cell w.0 x h l) ∙ f) in
      rank_in_lem i (vs x) (over i x n (eqb (rank_in i (vs x)) 0) refl k))
    where
      over : (i x : ℕ) → ¬ (wr i x ≡ 0) → (b : Bool) → eqb (rank_in i (vs x)) 0 ≡ b → (b && not (eqb (wr i x) 0)) ≡ false → 0 < rank_in i (vs x)
      over i x n true f k = false_true (sym k ∙ differs (wr i x) 0 n)
      over i x n false f k = let z = eqb-false (rank_in i (vs x)) 0 f in omega (arith, z)

  -- none left out: no gap
  gap_none : left_out wr nodes vs ≡ false → some_below (gap_at wr nodes rank) (length nodes * 64) ≡ false
  gap_none e = none_below (gap_at wr nodes rank) (length nodes * 64) (λ q h.
      let p : ℕ = q / 64 in
      let x : ℕ = q % 64 in
      let l : x ≤ most_item = omega arith in
      let k : p < length nodes = omega arith in
      let z : rank_at p x ≡ q = omega arith in
      let i : ℕ = get_or nodes p 0 in
      let m : i ∈ nodes = at_in nodes p (omega arith) in
      subst (λ (j : ℕ). gap_at wr nodes rank j ≡ false) z (gap_cell p x k l ∙ none i x (left_none wr nodes vs e i x m l) (eqb (wr i x) 0) refl))
    where
      none : (i x : ℕ) → (¬ (wr i x ≡ 0) → i ∈ vs x) → (b : Bool) → eqb (wr i x) 0 ≡ b → (eqb (rank_in i (vs x)) 0 && not b) ≡ false
      none i x s true f = both_false (eqb (rank_in i (vs x)) 0)
        where
          both_false : (b : Bool) → (b && false) ≡ false
          both_false true = refl
          both_false false = refl
      none i x s false f = let r = (in_rank i 1 (vs x) (s (eqb-false (wr i x) 0 f))).0 in rw (ne_eqb (rank_in i (vs x)) 0 (λ z. absurd (omega arith)))

  pub gap_left : some_below (gap_at wr nodes rank) (length nodes * 64) ≡ left_out wr nodes vs
  gap_left = go (left_out wr nodes vs) refl
    where
      go : (b : Bool) → left_out wr nodes vs ≡ b → some_below (gap_at wr nodes rank) (length nodes * 64) ≡ b
      go false e = gap_none e
      go true e = some (some_below (gap_at wr nodes rank) (length nodes * 64)) refl
        where
          some : (c : Bool) → some_below (gap_at wr nodes rank) (length nodes * 64) ≡ c → c ≡ true
          some true f = refl
          some false f = sym (no_gap f) ∙ e

-- ---- the walk

-- a field's length has two bytes, so that its stamps are few
pub stands_few : (s : List ℕ) → Bytes s → (at x n : ℕ) → StandsAt s at x n → n < 16384
stands_few s b at x n t =
    let l = length-stamps_at s (at + 4) n in
    let h = (stands_fits s b at x n t).body in
    omega arith

-- how a field begins, once found: it stands there
pub head_stands : {s : List ℕ} {at : ℕ} {v : Found} {o : Option Head} {h : Head} → v ≡ found_at s at → v ≡ Ok o → o ≡ Some h → StandsAt s at h.item h.stamps
head_stands {s} {at} {v} {o} {h} e f g = found_stands s at h.item h.stamps (sym e ∙ f ∙ ap Ok g)

-- the fields before a place have been passed: they are the first of the order's, they pass the test as far as it goes, the items from `least` on have
-- none, and their ranks stand in the cells
pub record Walked (wr : ℕ → ℕ → ℕ) (nodes s rank : List ℕ) (at least : ℕ) : Type 0 where
  pub past : List Field
  pub read : read_order s ≡ onto past (read_from s at)
  pub here : at ≤ length s
  pub test : (rest : List Field) → sound wr nodes 0 (past ++ rest) ≡ sound wr nodes least rest
  pub fresh : (x : ℕ) → least ≤ x → ¬ (x ∈ items past)
  pub ranks : Ranks nodes (vs_of past) rank

module _ {wr : ℕ → ℕ → ℕ} {nodes s : List ℕ} where
  pub walked_none : {rank : List ℕ} → ((q : ℕ) → q < length nodes * 64 → get_or rank q 0 ≡ 0) → Walked wr nodes s rank 0 0
  unfolding read_order vs_of rank_from
  walked_none {rank} z =
      record { past = []; read = refl; here = omega arith; test = λ rest. refl; fresh = λ x h m. in_nil m; ranks = λ p x h l. z (rank_at p x) (omega arith) }

  -- an order that is not right
  not_right : {rank' : List ℕ} → false ≡ right_by wr nodes s → Ranked wr nodes s false rank'
  not_right e = record { answer = e; ranks = λ t. false_true t }

  module _ {rank : List ℕ} {at least : ℕ} (g : Walked wr nodes s rank at least) where
    -- a new item's cells have no rank
    pub walked_clear : (x : ℕ) → least ≤ x → x ≤ most_item → Clear nodes x rank
    unfolding rank_from
    walked_clear x h l p i = g.ranks p x i l ∙ rw (vs_unseen g.past x (g.fresh x h))

    module _ {x n : ℕ} (t : StandsAt s at x n) where
      abbrev here : Field
      here = field x (stamps_at s (at + 4) n)

      read_on : read_order s ≡ onto g.past (before here (read_from s (next_at at n)))
      read_on = g.read ∙ ap (onto g.past) (step_field s at x n t)

      -- a field that does not pass
      wrong : ((rest : List Field) → sound wr nodes least (here ∷ rest) ≡ false) → false ≡ right_by wr nodes s
      unfolding right_by
      wrong h = sym (ap (judged wr nodes) read_on ∙ go (read_from s (next_at at n)))
        where
          go : (o : Option (List Field)) → judged wr nodes (onto g.past (before here o)) ≡ false
          go None = rw (onto_none g.past)
          go (Some gs) = rw (onto_some g.past (here ∷ gs), g.test (here ∷ gs), h gs)

      -- its item does not rise
      pub falls : x < least → Ranked wr nodes s false rank
      unfolding sound
      falls h = not_right (wrong (λ rest. rw (lt-leb least x h)))

      -- it is over 63
      pub too_large : most_item < x → Ranked wr nodes s false rank
      unfolding sound
      too_large h = not_right (wrong (λ rest. over (leb least x) (leb x most_item) (lt-leb x most_item h) _))
        where
          over : (a b : Bool) → b ≡ false → (c : Bool) → (a && (b && c)) ≡ false
          over true b e c = rw e
          over false b e c = refl

      module _ (h : least ≤ x) (l : x ≤ most_item) {r : Bool} {rank' : List ℕ} (f : FieldRanked wr nodes x (stamps_at s (at + 4) n) rank r rank') where
        -- one of its stamps is refused
        pub refused : r ≡ false → Ranked wr nodes s false rank'
        unfolding sound
        refused e = not_right (wrong (λ rest. rw (le-leb least x h, le-leb x most_item l, sym f.answer ∙ e)))

        -- the field is passed
        pub walked_next : r ≡ true → Walked wr nodes s rank' (at + 4 + 4 * n) (x + 1)
        unfolding sound
        walked_next e =
            let w = t.within in
            let z : x + 1 ≡ suc x = omega arith in
            record {
              past = g.past ++ here ∷ [];
              read = read_on ∙ sym (onto_snoc g.past here (read_from s (next_at at n)));
              here = w;
              test = λ rest. rw (append_assoc, g.test (here ∷ rest), le-leb least x h, le-leb x most_item l, sym f.answer ∙ e, z);
              fresh = λ y d m. elim (items_snoc g.past x (stamps_at s (at + 4) n) y m) [ inl o ↦ g.fresh y (omega arith) o | inr q ↦ absurd (omega arith) ];
              ranks = λ p y i k. cell p y i k (eqb y x) refl;
            }
          where
            cell : (p y : ℕ) → p < length nodes → y ≤ most_item → (b : Bool) → eqb y x ≡ b
                → get_or rank' (rank_at p y) 0 ≡ rank_in (get_or nodes p 0) (vs_of (g.past ++ here ∷ []) y)
            cell p y i k true q =
                let o = eqb-true y x q in
                rw (o, vs_same g.past x (stamps_at s (at + 4) n) (g.fresh x h)) (f.own e p i)
            cell p y i k false q =
                let o = eqb-false y x q in
                rw (vs_other g.past x (stamps_at s (at + 4) n) y o) (f.others p y i k o ∙ g.ranks p y i k)

module _ {wr : ℕ → ℕ → ℕ} {nodes s rank : List ℕ} {at least : ℕ} (g : Walked wr nodes s rank at least) where
  -- no field stands at the place, and bytes are left
  broken : found_at s at ≡ bad → false ≡ right_by wr nodes s
  unfolding right_by
  broken e = sym (rw (g.read, step_bad s at e, onto_none g.past))

  -- the last byte is passed: the order is the fields passed
  all_read : found_at s at ≡ at_end → read_order s ≡ Some g.past
  all_read e = g.read ∙ rw (step_end s at e, onto_some g.past [], append-nil)

  finished : found_at s at ≡ at_end → not (some_below (gap_at wr nodes rank) (length nodes * 64)) ≡ right_by wr nodes s
  unfolding right_by sound
  finished e =
      let t : sound wr nodes 0 g.past ≡ true = rw append-nil at (g.test []) in
      rw (all_read e, t, gap_left wr nodes (vs_of g.past) rank g.ranks)

  -- where nothing stands any more, what is answered is the test
  pub walked_end : found_at s at ≡ at_end → (r : Bool) → r ≡ not (some_below (gap_at wr nodes rank) (length nodes * 64)) → Ranked wr nodes s r rank
  unfolding fields_of
  walked_end e r a = record { answer = a ∙ finished e; ranks = λ _. rw (all_read e) g.ranks }

  -- where no field stands, the order is wrong
  pub walked_bad : found_at s at ≡ bad → Ranked wr nodes s false rank
  walked_bad e = record { answer = broken e; ranks = λ t. false_true t }

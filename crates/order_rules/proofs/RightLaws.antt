-- Code 28, the test and the relation: a well-formed log's right orders are those that pass. The test's parts say that the items rise and that each item's
-- list has committed versions alone, each once, and that none is left out; in rising items the list of an item is that of its one field.
-- Assumes nothing.
use Prim.Native.Nat.{ℕ, zero, suc, ◌≤◌, ◌<◌}
use native.Mathlib.Omega.{arith}
use mathlib.Core.Path.{◌≡◌, refl, sym, ◌∙◌, subst}
use mathlib.Core.Logic.{inl, inr}
use mathlib.Core.List.Memᴰ
use mathlib.Core.List.{List, [], ◌∷◌, ◌++◌, reverse}
use mathlib.Core.Bool.{Bool, true, false, cond, not, ◌||◌}
use Rattle.std.specs.Prelude.{Option, Some, None}
use lib.Dec.{leb, eqb}
use borrow.Author.Tests.{le-leb, leb-true, eq-eqb, ne_eqb, eqb-true, eqb-false, not-true}
use Rattle.lists.specs.Member.{◌∈◌, Rising}
use Rattle.lists.specs.Order.{Distinct}
use Rattle.lists.specs.Tests.{any}
use Rattle.lists.proofs.OrderLaws.{in_nil, in_tail}
use Rattle.lists.proofs.TestLaws.{false_true, both_true, not_passed, any_true, any_false, any_not, in_any, any_in, differ, differs}
use Rattle.log_format.specs.Bytes.{Bytes}
use Rattle.log_format.specs.Events.{Event}
use Rattle.history_rules.specs.WellFormed.{most_item, WellFormed}
use Rattle.history_rules.specs.Faults.{written}
use Rattle.serial_theory.specs.Edges.{VersionOrder}
use Rattle.serial_theory.specs.Judged.{committed}
use Rattle.serial_theory.proofs.CommittedLaws.{committed_is}
use Rattle.order_rules.specs.Fields.{Field, field, items, vs_of, Filled}
use Rattle.order_rules.specs.Reading.{read_order, fields_of}
use Rattle.order_rules.specs.Right.{all_items, some_below, is_version, each_once, sound, missing, left_out, judged, right_by, right_order, RightOrder}
use Rattle.order_rules.proofs.ReadingLaws.{read-written, written_read}
use Rattle.order_rules.proofs.VersionLaws.{put_item, written_puts, version_is}

-- ---- tests on numbers below a bound

pub below_none : (p : ℕ → Bool) (n : ℕ) → some_below p n ≡ false → (i : ℕ) → i < n → p i ≡ false
unfolding some_below
below_none p zero e i h = absurd (omega arith)
below_none p (suc n) e i h = go (p n) (eqb i n) refl refl e (below_none p n)
  where
    go : (b c : Bool) → p n ≡ b → eqb i n ≡ c → (b || some_below p n) ≡ false → (some_below p n ≡ false → (i : ℕ) → i < n → p i ≡ false) → p i ≡ false
    go true c f g e ih = false_true (sym e)
    go false true f g e ih = rw (eqb-true i n g) f
    go false false f g e ih = let z = eqb-false i n g in ih e i (omega (arith, z))

pub none_below : (p : ℕ → Bool) (n : ℕ) → ((i : ℕ) → i < n → p i ≡ false) → some_below p n ≡ false
unfolding some_below
none_below p zero h = refl
none_below p (suc n) h = rw (h n (omega arith)) (none_below p n (λ i l. h i (omega arith)))

pub some_below_lem : (p : ℕ → Bool) (n i : ℕ) → i < n → p i ≡ true → some_below p n ≡ true
some_below_lem p n i h e = go (some_below p n) refl
  where
    go : (b : Bool) → some_below p n ≡ b → b ≡ true
    go true f = refl
    go false f = sym (below_none p n f i h) ∙ e

-- ---- each item's list

-- an item before the first has no field
pub vs_below : (n : ℕ) (fs : List Field) → Rising n (items fs) → (x : ℕ) → x < n → vs_of fs x ≡ []
unfolding vs_of
vs_below n [] r x h = refl
vs_below n (field y ks ∷ fs) r x h =
    let l = r.0 in
    rw (ne_eqb x y (λ e. absurd (omega arith))) (vs_below (suc y) fs r.1 x (omega arith))

module _ (wr : ℕ → ℕ → ℕ) (nodes : List ℕ) where
  module _ (x : ℕ) where
    -- stamps that pass are committed versions, none twice, and none was seen before
    once_is : (seen ks : List ℕ) → each_once wr nodes x seen ks ≡ true → Distinct ks × ((k : ℕ) → k ∈ ks → (is_version wr nodes x k ≡ true) × (¬ (k ∈ seen)))
    unfolding each_once
    once_is seen [] e = (tt, λ k m. in_nil m)
    once_is seen (j ∷ ks) e =
        let r = both_true (is_version wr nodes x j) _ e in
        let q = both_true (not (any (eqb j) seen)) _ r.1 in
        let new : ¬ (j ∈ seen) = any_not j seen (not-true _ q.0) in
        let ih = once_is (seen ++ j ∷ []) ks q.1 in (
          (λ m. (ih.1 j m).1 (Memᴰ.append_right seen (Memᴰ.head refl)), ih.0),
          λ k m. elim (Memᴰ.cases_cons m) [
            | inl f ↦ (subst (λ (i : ℕ). is_version wr nodes x i ≡ true) (sym f) r.0, λ o. new (Memᴰ.cast (sym f) o))
            | inr o ↦ ((ih.1 k o).0, λ p. (ih.1 k o).1 (Memᴰ.append_left (j ∷ []) p))
          ],
        )

    -- and such stamps pass
    is_once : (seen ks : List ℕ) → Distinct ks → ((k : ℕ) → k ∈ ks → (is_version wr nodes x k ≡ true) × (¬ (k ∈ seen))) → each_once wr nodes x seen ks ≡ true
    unfolding each_once
    is_once seen [] d h = refl
    is_once seen (j ∷ ks) d h =
        let here = h j (Memᴰ.head refl) in
        let new : any (eqb j) seen ≡ false = not_passed _ (λ e. here.1 (any_in j seen e)) in
        rw (here.0, new)
        (is_once (seen ++ j ∷ []) ks d.1 (λ k m. (
          (h k (Memᴰ.tail m)).0,
          λ o. elim (Memᴰ.append_cases seen o) [
            | inl p ↦ (h k (Memᴰ.tail m)).1 p
            | inr p ↦ elim (Memᴰ.cases_cons p) [ inl f ↦ d.0 (Memᴰ.cast (sym f) m) | inr z ↦ in_nil z ]
          ],
        )))

  -- fields that pass: the items rise, and each list is of committed versions of an item that the page has, each once
  pub sound_is : (least : ℕ) (fs : List Field) → sound wr nodes least fs ≡ true
      → Rising least (items fs) × ((x : ℕ) → Distinct (vs_of fs x) × ((k : ℕ) → k ∈ vs_of fs x → is_version wr nodes x k ≡ true))
  unfolding sound vs_of
  sound_is least [] e = (tt, λ x. (tt, λ k m. in_nil m))
  sound_is least (field y ks ∷ fs) e =
      let a = both_true (leb least y) _ e in
      let b = both_true (leb y most_item) _ a.1 in
      let c = both_true (each_once wr nodes y [] ks) _ b.1 in
      let ih = sound_is (suc y) fs c.1 in
      let o = once_is y [] ks c.0 in
      ((leb-true _ _ a.0, ih.0), λ x. here x (eqb x y) refl o.0 (λ k m. (o.1 k m).0) (ih.1 x))
    where
      here : (x : ℕ) (b : Bool) → eqb x y ≡ b → Distinct ks → ((k : ℕ) → k ∈ ks → is_version wr nodes y k ≡ true)
          → Distinct (vs_of fs x) × ((k : ℕ) → k ∈ vs_of fs x → is_version wr nodes x k ≡ true)
          → Distinct (cond b ks (vs_of fs x)) × ((k : ℕ) → k ∈ cond b ks (vs_of fs x) → is_version wr nodes x k ≡ true)
      here x true e d v ih = (d, λ k m. subst (λ (i : ℕ). is_version wr nodes i k ≡ true) (sym (eqb-true x y e)) (v k m))
      here x false e d v ih = ih

  -- and such fields pass
  pub is_sound : (least : ℕ) (fs : List Field) → Rising least (items fs) → ((x : ℕ) → x ∈ items fs → x ≤ most_item)
      → ((x : ℕ) → Distinct (vs_of fs x) × ((k : ℕ) → k ∈ vs_of fs x → is_version wr nodes x k ≡ true)) → sound wr nodes least fs ≡ true
  unfolding sound vs_of
  is_sound least [] r u h = refl
  is_sound least (field y ks ∷ fs) r u h =
      let eq : eqb y y ≡ true = eq-eqb y y refl in
      let l = rw eq at (h y) in
      let o = is_once y [] ks l.0 (λ k m. (l.1 k m, λ z. in_nil z)) in
      let rest = is_sound (suc y) fs r.1 (λ x m. u x (Memᴰ.tail m)) (λ x. later x (eqb x y) refl (h x)) in
      rw (le-leb _ _ r.0, le-leb _ _ (u y (Memᴰ.head refl)), o) rest
    where
      later : (x : ℕ) (b : Bool) → eqb x y ≡ b
          → Distinct (cond b ks (vs_of fs x)) × ((k : ℕ) → k ∈ cond b ks (vs_of fs x) → is_version wr nodes x k ≡ true)
          → Distinct (vs_of fs x) × ((k : ℕ) → k ∈ vs_of fs x → is_version wr nodes x k ≡ true)
      later x true e g = let q = eqb-true x y e in rw (vs_below (suc y) fs r.1 x (omega arith)) (tt, λ k m. in_nil m)
      later x false e g = g

  -- none is left out
  pub left_none : (vs : ℕ → List ℕ) → left_out wr nodes vs ≡ false → (i x : ℕ) → i ∈ nodes → x ≤ most_item → ¬ (wr i x ≡ 0) → i ∈ vs x
  unfolding left_out
  left_none vs e i x m h n =
      let f = below_none (missing wr nodes vs i) all_items (any_false _ nodes e i m) x (omega arith) in
      stands (any (eqb i) (vs x)) refl (rw (differs (wr i x) 0 n) at f)
    where
      stands : (b : Bool) → any (eqb i) (vs x) ≡ b → not b ≡ false → i ∈ vs x
      stands true f g = any_in i (vs x) f
      stands false f g = false_true (sym g)

  pub none_left : (vs : ℕ → List ℕ) → ((i x : ℕ) → i ∈ nodes → x ≤ most_item → ¬ (wr i x ≡ 0) → i ∈ vs x) → left_out wr nodes vs ≡ false
  unfolding left_out
  none_left vs h = not_passed _ (λ e.
      let r = any_true _ nodes e in
      let f = none_below (missing wr nodes vs r.0) all_items (λ x l. not_passed _ (λ g.
      let q = both_true _ (not (any (eqb r.0) (vs x))) g in
      let s = in_any r.0 (vs x) (h r.0 x r.1 (omega arith) (differ _ _ q.0)) in
      false_true (sym (not-true _ q.1) ∙ s))) in
      false_true (sym f ∙ r.2))

-- ---- the test and the relation

-- each item has a version, so it is one that the page has
item_version : (fs : List Field) (n : ℕ) → Rising n (items fs) → Filled fs → (x : ℕ) → x ∈ items fs → (k : ℕ) × (k ∈ vs_of fs x)
unfolding vs_of
item_version [] n r f x m = in_nil m
item_version (field y [] ∷ fs) n r f x m = absurd f
item_version (field y (k ∷ ks) ∷ fs) n r f x m = go (eqb x y) refl (λ o. item_version fs (suc y) r.1 f x o)
  where
    go : (b : Bool) → eqb x y ≡ b → (x ∈ items fs → (k : ℕ) × (k ∈ vs_of fs x)) → (j : ℕ) × (j ∈ cond b (k ∷ ks) (vs_of fs x))
    go true e ih = (k, Memᴰ.head refl)
    go false e ih = ih (in_tail m (eqb-false x y e))

module _ (log : List Event) (w : WellFormed log) where
  abbrev wrote : ℕ → ℕ → ℕ
  wrote = written (reverse log)

  -- fields that pass list the committed versions
  sound_order : (fs : List Field) → sound wrote (committed log) 0 fs ≡ true → left_out wrote (committed log) (vs_of fs) ≡ false → VersionOrder log (vs_of fs)
  sound_order fs s l x =
      let v = (sound_is wrote (committed log) 0 fs s).1 x in
      record {
        once = v.0;
        only = λ k m. (version_is log x k).0 (v.1 k m);
        all = λ k p. left_none wrote (committed log) (vs_of fs) l k x ((committed_is log k).1 p.0) (put_item log w k x p.1)
            ((written_puts log k x).1 p.1);
      }

  module _ (s : List ℕ) where
    -- an order that passes is right
    pub passes_right : Bytes s → right_order log s ≡ true → RightOrder log s
    unfolding right_order right_by
    passes_right b = go (read_order s) refl
      where
        go : (o : Option (List Field)) → read_order s ≡ o → judged wrote (committed log) o ≡ true → RightOrder log s
        go None e p = false_true p
        go (Some fs) e p =
            let q = both_true (sound wrote (committed log) 0 fs) _ p in
            let r = written_read s b fs e in
            record {
              fields = fs;
              fit = r.1;
              bytes = r.0;
              rise = (sound_is wrote (committed log) 0 fs q.0).0;
              filled = r.2;
              versions = sound_order fs q.0 (not-true _ q.1);
            }

    -- a right order passes
    pub right_passes : RightOrder log s → right_order log s ≡ true
    unfolding right_order right_by
    right_passes r =
        let fs = r.fields in
        let e : read_order s ≡ Some fs = rw r.bytes (read-written fs r.fit r.filled) in
        let item : (x : ℕ) → x ∈ items fs → x ≤ most_item = λ x m.
        (let k = item_version fs 0 r.rise r.filled x m in put_item log w k.0 x ((r.versions x).only k.0 k.1).1) in
        let p = is_sound wrote (committed log) 0 fs r.rise item (λ x. ((r.versions x).once, λ k m. (version_is log x k).1 ((r.versions x).only k m))) in
        let l = none_left wrote (committed log) (vs_of fs) (λ i x m h n. (r.versions x).all i ((committed_is log i).0 m, (written_puts log i x).0 n)) in
        rw (e, p, l)

    -- the fields that are read from it
    pub right_fields : (r : RightOrder log s) → fields_of s ≡ r.fields
    unfolding fields_of
    right_fields r = rw (r.bytes, read-written r.fields r.fit r.filled)

    -- what the edge rules need: an order that passes says each item's committed versions
    pub passes_order : Bytes s → right_order log s ≡ true → VersionOrder log (vs_of (fields_of s))
    passes_order b e = let r = passes_right b e in rw (right_fields r) r.versions

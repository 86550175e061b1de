-- Columns pass as sound exactly where they are what sorted versions in bounds make, and initial marks where none is above the last begun stamp: both ways.
-- Assumes nothing.
use Prim.Native.Nat.{ℕ, zero, suc, ◌≤◌, ◌<◌}
use mathlib.Core.Path.{◌≡◌, refl, sym, ap, ◌∙◌, subst}
use mathlib.Core.Bool.{Bool, true, false, ◌&&◌, ◌||◌}
use mathlib.Core.List.Memᴰ
use mathlib.Core.List.{List, [], ◌∷◌, map}
use mathlib.Core.Logic.{◌⊎◌, inl, inr}
use native.Mathlib.Decide.{dec_lt}
use native.Mathlib.Omega.{arith}
use borrow.Author.Tests.{leb-true, ltb-true, eqb-true, le-leb, lt-ltb, eq-eqb}
use lib.Dec.{eqb, leb, ltb}
use lib.ListN.{length, take, drop, get_or, length-map}
use lib.Seq.{length-take-le}
use Rattle.lists.specs.Member.{◌∈◌}
use Rattle.scheduler_rules.specs.Model.{Version, Before, max_item, max_versions}
use Rattle.open_table.specs.Intact.{zeros}
use Rattle.open_table.proofs.IntactLaws.{and_both, and_parts}
use Rattle.version_columns.specs.Columns.{rows, column, versions_of, columns_of}
use Rattle.version_columns.specs.declared.Versions.{Versions}
use Rattle.damage.specs.Damage.{after, row_sound, rows_sound, columns_sound, none_above, marks_sound, Undamaged}
use Rattle.scheduler_rules.specs.Sound.{Sorted, Proper}
use Rattle.version_columns.proofs.RowLaws.{Wide}
use Rattle.damage.proofs.RowLaws.{Back, take-rows, rows_back, column_back, column-take, column-zeros}

-- ---- rows in order

-- the version u comes after item w and stamp j
abbrev After : ℕ → ℕ → Version → Type 0
After w j u = (w < u.item) ⊎ ((w ≡ u.item) × (j < u.stamp))

after_is : (w j : ℕ) (u : Version) → after w j u.item u.stamp ≡ true → After w j u
after_is w j u h = go (ltb w u.item) refl h
  where
    go : (b : Bool) → ltb w u.item ≡ b → (b || (eqb w u.item && ltb j u.stamp)) ≡ true → After w j u
    go true e q = inl (ltb-true w u.item e)
    go false e q = let p = and_parts (eqb w u.item) (ltb j u.stamp) q in inr (eqb-true w u.item p.0, ltb-true j u.stamp p.1)

after_of : (w j : ℕ) (u : Version) → After w j u → after w j u.item u.stamp ≡ true
after_of w j u (inl h) = rw (lt-ltb w u.item h)
after_of w j u (inr h) = go (ltb w u.item) (and_both (eqb w u.item) (ltb j u.stamp) (eq-eqb w u.item h.0) (lt-ltb j u.stamp h.1))
  where
    go : (b : Bool) {c : Bool} → c ≡ true → (b || c) ≡ true
    go true e = refl
    go false e = e

after-after : (w j : ℕ) (u v : Version) → After w j u → Before u v → After w j v
after-after w j u v (inl p) (inl q) = inl (omega arith)
after-after w j u v (inl p) (inr q) = inl (omega arith)
after-after w j u v (inr p) (inl q) = inl (omega arith)
after-after w j u v (inr p) (inr q) = inr (omega arith, omega arith)

-- every version that was written is after item 0 and stamp 0
after_none : (u : Version) → Dec (0 < u.item) → 0 < u.stamp → After 0 0 u
after_none u (yes p) h = inl p
after_none u (no n) h = inr (omega arith, h)

-- ---- rows in bounds

abbrev item_column : List Version → List ℕ
item_column l = map (λ (u : Version). u.item) l

abbrev stamp_column : List Version → List ℕ
stamp_column l = map (λ (u : Version). u.stamp) l

abbrev mark_column : List Version → List ℕ
mark_column l = map (λ (u : Version). u.mark) l

module _ (last : ℕ) where
  row_is : (w j : ℕ) (u : Version) → row_sound w j last u.item u.stamp u.mark ≡ true → Proper last u × After w j u
  row_is w j u h =
      let x = u.item in
      let k = u.stamp in
      let m = u.mark in
      let e = and_parts (leb x max_item && ltb 0 k && leb k last && leb m last) (after w j x k) h in
      let d = and_parts (leb x max_item && ltb 0 k && leb k last) (leb m last) e.0 in
      let c = and_parts (leb x max_item && ltb 0 k) (leb k last) d.0 in
      let b = and_parts (leb x max_item) (ltb 0 k) c.0 in
      (record { item = leb-true x max_item b.0; positive = ltb-true 0 k b.1; stamp = leb-true k last c.1; mark = leb-true m last d.1 }, after_is w j u e.1)

  row_of : (w j : ℕ) (u : Version) → Proper last u → After w j u → row_sound w j last u.item u.stamp u.mark ≡ true
  row_of w j u p a =
      and_both _ _
      (and_both _ _
      (and_both _ _ (and_both _ _ (le-leb u.item max_item p.item) (lt-ltb 0 u.stamp p.positive)) (le-leb u.stamp last p.stamp))
      (le-leb u.mark last p.mark))
      (after_of w j u a)

  -- all the rows are after item w and stamp j
  rows-after : (w j : ℕ) (l : List Version) → rows_sound w j last (item_column l) (stamp_column l) (mark_column l) ≡ true → (u : Version) → u ∈ l → After w j u
  rows-after w j [] h u m = absurd (Memᴰ.not-nil m)
  rows-after w j (v ∷ l) h u m =
      let p = and_parts (row_sound w j last v.item v.stamp v.mark) _ h in
      let a = (row_is w j v p.0).1 in
      elim (Memᴰ.cases_cons m) [
        | inl e ↦ subst (After w j) (sym e) a
        | inr r ↦ after-after w j v u a (rows-after v.item v.stamp l p.1 u r)
      ]

  rows_sorted : (w j : ℕ) (l : List Version) → rows_sound w j last (item_column l) (stamp_column l) (mark_column l) ≡ true → Sorted l
  rows_sorted w j [] h = tt
  rows_sorted w j (v ∷ l) h =
      let p = and_parts (row_sound w j last v.item v.stamp v.mark) _ h in
      (rows-after v.item v.stamp l p.1, rows_sorted v.item v.stamp l p.1)

  rows_proper : (w j : ℕ) (l : List Version) → rows_sound w j last (item_column l) (stamp_column l) (mark_column l) ≡ true → (u : Version) → u ∈ l → Proper last u
  rows_proper w j [] h u m = absurd (Memᴰ.not-nil m)
  rows_proper w j (v ∷ l) h u m =
      let p = and_parts (row_sound w j last v.item v.stamp v.mark) _ h in
      elim (Memᴰ.cases_cons m) [
        | inl e ↦ subst (Proper last) (sym e) (row_is w j v p.0).0
        | inr r ↦ rows_proper v.item v.stamp l p.1 u r
      ]

  rows_of : (w j : ℕ) (l : List Version) → ((u : Version) → u ∈ l → After w j u) → Sorted l → ((u : Version) → u ∈ l → Proper last u)
      → rows_sound w j last (item_column l) (stamp_column l) (mark_column l) ≡ true
  rows_of w j [] a s p = refl
  rows_of w j (v ∷ l) a s p =
      and_both (row_sound w j last v.item v.stamp v.mark) _
      (row_of w j v (p v (Memᴰ.head refl)) (a v (Memᴰ.head refl)))
      (rows_of v.item v.stamp l s.0 s.1 (λ u m. p u (Memᴰ.tail m)))

-- ---- the columns

-- the tests that columns have passed
record Passed (t : Versions) (last : ℕ) : Type 0 where
  within : t.count ≤ max_versions
  rows : rows_sound 0 0 last (take t.count t.items) (take t.count t.stamps) (take t.count t.marks) ≡ true
  items : zeros (drop t.count t.items) ≡ true
  stamps : zeros (drop t.count t.stamps) ≡ true
  values : zeros (drop t.count t.values) ≡ true
  marks : zeros (drop t.count t.marks) ≡ true

module _ (t : Versions) (last : ℕ) where
  passed : columns_sound t last ≡ true → Passed t last
  unfolding columns_sound
  passed h =
      let p = and_parts _ _ h in
      let qd = and_parts _ _ p.1 in
      let qc = and_parts _ _ qd.0 in
      let qb = and_parts _ _ qc.0 in
      let qa = and_parts _ _ qb.0 in
      record { within = leb-true t.count max_versions p.0; rows = qa.0; items = qa.1; stamps = qb.1; values = qc.1; marks = qd.1 }

  passes : Passed t last → columns_sound t last ≡ true
  unfolding columns_sound
  passes p = and_both _ _ (le-leb t.count max_versions p.within) (and_both _ _ (and_both _ _ (and_both _ _ (and_both _ _ p.rows p.items) p.stamps) p.values) p.marks)

same : (t : Versions) {a b c d : List ℕ} {n : ℕ} → t.items ≡ a → t.stamps ≡ b → t.values ≡ c → t.marks ≡ d → t.count ≡ n
    → t ≡ record { items = a; stamps = b; values = c; marks = d; count = n }
same t p q r s e = rw (← p, ← q, ← r, ← s, ← e)

-- columns that pass as sound are undamaged
pub columns_are : (t : Versions) (last : ℕ) → Wide t → columns_sound t last ≡ true → Undamaged t last
columns_are t last w h =
    let n = t.count in
    let p : Passed t last = passed t last h in
    let la : length (take n t.items) ≡ n = length-take-le n t.items (omega (arith, p.within, w.items)) in
    let lb : length (take n t.stamps) ≡ n = length-take-le n t.stamps (omega (arith, p.within, w.stamps)) in
    let lc : length (take n t.values) ≡ n = length-take-le n t.values (omega (arith, p.within, w.values)) in
    let ld : length (take n t.marks) ≡ n = length-take-le n t.marks (omega (arith, p.within, w.marks)) in
    let l : List Version = rows (take n t.items) (take n t.stamps) (take n t.values) (take n t.marks) in
    let held : versions_of t ≡ l = take-rows n t.items t.stamps t.values t.marks in
    let back : Back (take n t.items) (take n t.stamps) (take n t.values) (take n t.marks) l = rows_back _ _ _ _ (omega arith) (omega arith) (omega arith) in
    let sound : rows_sound 0 0 last (item_column l) (stamp_column l) (mark_column l) ≡ true = rw (back.items, back.stamps, back.marks) p.rows in
    let count : n ≡ length l = sym (sym (length-map l (λ (u : Version). u.item)) ∙ ap length back.items ∙ la) in
    record {
      is = rw held (same t
          (sym (ap column back.items ∙ column_back t.items n w.items p.within p.items))
          (sym (ap column back.stamps ∙ column_back t.stamps n w.stamps p.within p.stamps))
          (sym (ap column back.values ∙ column_back t.values n w.values p.within p.values))
          (sym (ap column back.marks ∙ column_back t.marks n w.marks p.within p.marks))
          count);
      within = p.within;
      sorted = rw held (rows_sorted last 0 0 l sound);
      proper = λ u m. rows_proper last 0 0 l sound u (rw held at m);
    }

-- sorted versions in bounds, at most 1,024, make columns that pass as sound
pub columns_made : (l : List Version) (last : ℕ) → length l ≤ max_versions → Sorted l → ((u : Version) → u ∈ l → Proper last u)
    → columns_sound (columns_of l) last ≡ true
columns_made l last h s p =
    let n = length l in
    let la : length (item_column l) ≡ n = length-map l (λ (u : Version). u.item) in
    let lb : length (stamp_column l) ≡ n = length-map l (λ (u : Version). u.stamp) in
    let lc : length (map (λ (u : Version). u.value) l) ≡ n = length-map l (λ (u : Version). u.value) in
    let ld : length (mark_column l) ≡ n = length-map l (λ (u : Version). u.mark) in
    let first : (u : Version) → u ∈ l → After 0 0 u = λ u m. after_none u (dec_lt 0 u.item) (p u m).positive in
    passes (columns_of l) last (record {
      within = h;
      rows = rw (column-take (item_column l) n la, column-take (stamp_column l) n lb, column-take (mark_column l) n ld) (rows_of last 0 0 l first s p);
      items = column-zeros (item_column l) n la;
      stamps = column-zeros (stamp_column l) n lb;
      values = column-zeros (map (λ (u : Version). u.value) l) n lc;
      marks = column-zeros (mark_column l) n ld;
    })

-- undamaged columns pass as sound
pub columns_of_lem : (t : Versions) (last : ℕ) → Undamaged t last → columns_sound t last ≡ true
columns_of_lem t last d =
    let e : t.count ≡ length (versions_of t) = ap (λ (u : Versions). u.count) d.is in
    let h : t.count ≤ max_versions = d.within in
    subst (λ (u : Versions). columns_sound u last ≡ true) (sym d.is) (columns_made (versions_of t) last (omega arith) d.sorted d.proper)

-- ---- the initial marks

none_is : (last : ℕ) (xs : List ℕ) → none_above last xs ≡ true → (i : ℕ) → get_or xs i 0 ≤ last
none_is last [] h i = omega arith
none_is last (x ∷ xs) h zero = leb-true x last (and_parts (leb x last) (none_above last xs) h).0
none_is last (x ∷ xs) h (suc i) = none_is last xs (and_parts (leb x last) (none_above last xs) h).1 i

none_of : (last : ℕ) (xs : List ℕ) → ((i : ℕ) → get_or xs i 0 ≤ last) → none_above last xs ≡ true
none_of last [] h = refl
none_of last (x ∷ xs) h = and_both (leb x last) (none_above last xs) (le-leb x last (h 0)) (none_of last xs (λ i. h (suc i)))

pub marks_are : (marks : List ℕ) (last : ℕ) → marks_sound marks last ≡ true → (x : ℕ) → get_or marks x 0 ≤ last
unfolding marks_sound
marks_are marks last h = none_is last marks h

pub marks_of : (marks : List ℕ) (last : ℕ) → ((x : ℕ) → get_or marks x 0 ≤ last) → marks_sound marks last ≡ true
unfolding marks_sound
marks_of marks last h = none_of last marks h

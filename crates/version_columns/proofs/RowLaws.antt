-- Columns and rows: what stands in a row stands in each column, and the columns of given versions hold them.
-- Assumes nothing.
use mathlib.Core.Path.{◌≡◌, refl, sym, ap, ◌∙◌}
use mathlib.Core.List.{List, [], ◌∷◌, ◌++◌, map}
use Prim.Native.Nat.{ℕ, zero, suc, ◌≤◌, ◌<◌}
use native.Mathlib.Omega.{arith}
use lib.ListN.{length, take, get_or, length-map}
use lib.Seq.{take_at, get_or-take, length-take-le}
use Rattle.scheduler_rules.specs.Model.{Version, Before, max_versions}
use Rattle.version_columns.specs.Columns.{rows, versions_of, columns_of}
use Rattle.version_columns.specs.declared.Versions.{Versions}
use Rattle.version_columns.specs.Lookup.{up_to, up_to_in, Ready}
use Rattle.version_columns.proofs.Bracket.{RisingRows}
use Rattle.scheduler_rules.specs.Sound.{Sorted}
use Rattle.version_columns.proofs.BelowLaws.{get_d_in}

rows_append : (l : List Version) (xs ks vs ms : List ℕ)
    → rows (map (λ (u : Version). u.item) l ++ xs) (map (λ (u : Version). u.stamp) l ++ ks) (map (λ (u : Version). u.value) l ++ vs) (map (λ (u : Version). u.mark) l ++ ms)
    ≡ l ++ rows xs ks vs ms
rows_append [] xs ks vs ms = refl
rows_append (u ∷ l) xs ks vs ms = ap (λ (r : List Version). u ∷ r) (rows_append l xs ks vs ms)

-- the columns of l hold l
pub versions_columns : (l : List Version) → versions_of (columns_of l) ≡ l
versions_columns l = ap (λ (r : List Version). take (length l) r) (rows_append l _ _ _ _) ∙ take_at l _ (length l) refl

-- ---- the first n rows of four columns that have them

-- four columns with n places or more
pub record Full (n : ℕ) (xs ks vs ms : List ℕ) : Type 0 where
  pub of_items : n ≤ length xs
  pub of_stamps : n ≤ length ks
  pub of_values : n ≤ length vs
  pub of_marks : n ≤ length ms

less : {n x k v m : ℕ} {xs ks vs ms : List ℕ} → Full (suc n) (x ∷ xs) (k ∷ ks) (v ∷ vs) (m ∷ ms) → Full n xs ks vs ms
less f = record { of_items = omega (arith, f.of_items); of_stamps = omega (arith, f.of_stamps); of_values = omega (arith, f.of_values); of_marks = omega (arith, f.of_marks) }

-- what the columns hold at a place is the row there; the first rows have what the columns begin with
row_at : (i : ℕ) (d : Version) (xs ks vs ms : List ℕ) → Full (suc i) xs ks vs ms
    → get_or (rows xs ks vs ms) i d ≡ record { item = get_or xs i 0; stamp = get_or ks i 0; value = get_or vs i 0; mark = get_or ms i 0 }
row_at i d [] ks vs ms f = absurd (omega (arith, f.of_items))
row_at i d (x ∷ xs) [] vs ms f = absurd (omega (arith, f.of_stamps))
row_at i d (x ∷ xs) (k ∷ ks) [] ms f = absurd (omega (arith, f.of_values))
row_at i d (x ∷ xs) (k ∷ ks) (v ∷ vs) [] f = absurd (omega (arith, f.of_marks))
row_at zero d (x ∷ xs) (k ∷ ks) (v ∷ vs) (m ∷ ms) f = refl
row_at (suc i) d (x ∷ xs) (k ∷ ks) (v ∷ vs) (m ∷ ms) f = row_at i d xs ks vs ms (less f)

pub rows-fields : (n : ℕ) (xs ks vs ms : List ℕ) → Full n xs ks vs ms
    → (map (λ (u : Version). u.item) (take n (rows xs ks vs ms)) ≡ take n xs)
    × (map (λ (u : Version). u.stamp) (take n (rows xs ks vs ms)) ≡ take n ks)
    × (map (λ (u : Version). u.value) (take n (rows xs ks vs ms)) ≡ take n vs)
    × (map (λ (u : Version). u.mark) (take n (rows xs ks vs ms)) ≡ take n ms)
rows-fields zero xs ks vs ms f = (refl, refl, refl, refl)
rows-fields (suc n) [] ks vs ms f = absurd (omega (arith, f.of_items))
rows-fields (suc n) (x ∷ xs) [] vs ms f = absurd (omega (arith, f.of_stamps))
rows-fields (suc n) (x ∷ xs) (k ∷ ks) [] ms f = absurd (omega (arith, f.of_values))
rows-fields (suc n) (x ∷ xs) (k ∷ ks) (v ∷ vs) [] f = absurd (omega (arith, f.of_marks))
rows-fields (suc n) (x ∷ xs) (k ∷ ks) (v ∷ vs) (m ∷ ms) f =
    let r = rows-fields n xs ks vs ms (less f) in
    (ap (λ (t : List ℕ). x ∷ t) r.0, ap (λ (t : List ℕ). k ∷ t) r.1, ap (λ (t : List ℕ). v ∷ t) r.2, ap (λ (t : List ℕ). m ∷ t) r.3)

-- ---- columns that are ready for a lookup

sorted_at : (l : List Version) (i j : ℕ) (d : Version) → Sorted l → i < j → j < length l → Before (get_or l i d) (get_or l j d)
sorted_at [] i j d s h g = absurd (omega arith)
sorted_at (u ∷ l) i zero d s h g = absurd (omega arith)
sorted_at (u ∷ l) zero (suc j) d s h g = s.0 (get_or l j d) (get_d_in l j d (omega arith))
sorted_at (u ∷ l) (suc i) (suc j) d s h g = sorted_at l i j d s.1 (omega arith) (omega arith)

-- the columns have 1,024 places, as their types say
pub record Wide (t : Versions) : Type 0 where
  pub items : length t.items ≡ max_versions
  pub stamps : length t.stamps ≡ max_versions
  pub values : length t.values ≡ max_versions
  pub marks : length t.marks ≡ max_versions

module _ (t : Versions) (w : Wide t) (h : t.count ≤ max_versions) where
  full : (m : ℕ) → m ≤ t.count → Full m t.items t.stamps t.values t.marks
  full m l = record { of_items = omega (arith, w.items); of_stamps = omega (arith, w.stamps); of_values = omega (arith, w.values); of_marks = omega (arith, w.marks) }

  -- the version at a place below the count
  pub version_at : (i : ℕ) (d : Version) → i < t.count
      → get_or (versions_of t) i d ≡ record { item = get_or t.items i 0; stamp = get_or t.stamps i 0; value = get_or t.values i 0; mark = get_or t.marks i 0 }
  version_at i d l = get_or-take t.count (rows t.items t.stamps t.values t.marks) i d l ∙ row_at i d t.items t.stamps t.values t.marks (full (suc i) (omega arith))

  -- how many versions there are
  pub length-versions : length (versions_of t) ≡ t.count
  length-versions =
      sym (length-map (versions_of t) (λ (u : Version). u.item))
      ∙ ap length (rows-fields t.count t.items t.stamps t.values t.marks (full t.count (omega arith))).0
      ∙ length-take-le t.count t.items (full t.count (omega arith)).of_items

  -- where a version goes, by the two columns or by the versions
  pub up_to_columns : (x k : ℕ) → up_to_in x k (take t.count t.items) (take t.count t.stamps) ≡ up_to x k (versions_of t)
  up_to_columns x k = let e = rows-fields t.count t.items t.stamps t.values t.marks (full t.count (omega arith)) in rw (e.0, e.1)

-- the rows of columns that are ready for a lookup rise
pub ready_rising : (t : Versions) → Wide t → Ready t → RisingRows t.items t.stamps t.count
ready_rising t w r i j h g =
    let d : Version = record { item = 0; stamp = 0; value = 0; mark = 0 } in
    let n = length-versions t w r.within in
    let b : Before (get_or (versions_of t) i d) (get_or (versions_of t) j d) = sorted_at (versions_of t) i j d r.sorted h (rw n g) in
    rw (version_at t w r.within i d (omega arith), version_at t w r.within j d g) at b

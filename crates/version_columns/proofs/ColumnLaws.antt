-- One column of given versions, whichever field it holds: how inserting, dropping and raising change it.
-- Assumes nothing.
use mathlib.Core.Path.{◌≡◌, refl, ap, ◌∙◌}
use mathlib.Core.Logic.{ite}
use mathlib.Core.List.{List, [], ◌∷◌, ◌++◌, map, append_assoc}
use Prim.Native.Nat.{ℕ, zero, suc, ◌+◌, ◌-◌, ◌≤◌, ◌<◌, max}
use native.Mathlib.Decide.{ℕ_discrete}
use native.Mathlib.Omega.{arith}
use lib.ListN.{length, take, drop, get_or, replicate, length-append, length-replicate, length-map, length-set, length-drop, replicate-append-replicate, take-append-drop, get_or-append}
use lib.Seq.{drop-nil, take_at, drop_at, take-append_seam, drop-append-add, set-append_left, length-take-le}
use Rattle.std.specs.List.{copy_within}
use Rattle.std.proofs.lemmas.List.{drop-take}
use Rattle.lists.specs.Choice.{pick, isnt}
use Rattle.lists.proofs.ShiftLaws.{opened}
use Rattle.scheduler_rules.specs.Model.{Version, max_versions, without}
use Rattle.version_columns.specs.Columns.{column, Padded}
use Rattle.version_columns.specs.Change.{inserted, kept, narrowed, raised_at}
use Rattle.version_columns.proofs.Narrow.{kept_within}

-- ---- a column of xs

pub column-size : (xs : List ℕ) → length xs ≤ max_versions → length (column xs) ≡ max_versions
column-size xs h = simp (length-append, length-replicate) (omega arith)

-- copying one place on opens the place
pub copied_opened : (l : List ℕ) (at n : ℕ) → at ≤ n → n < length l → copy_within l at n (at + 1) ≡ opened l at n
copied_opened l at n h g =
    let end : at + 1 + (n - at) ≡ n + 1 = omega arith in
    let whole : at + (n - at) ≡ n = omega arith in
    let part : drop at (take n l) ≡ take (n - at) (drop at l) = rw whole at (drop-take at (n - at) l) in
    rw (end, part) (append_assoc (take (at + 1) l) (take (n - at) (drop at l)) (drop (n + 1) l))

pub column-insert : (xs : List ℕ) (at x : ℕ) → at ≤ length xs → length xs < max_versions
    → inserted at (length xs) x (column xs) ≡ column (take at xs ++ x ∷ drop at xs)
column-insert xs at x l h =
    let r = max_versions - (length xs + 1) in
    let one : max_versions - length xs ≡ suc r = omega arith in
    let size : length (take at xs ++ x ∷ drop at xs) ≡ length xs + 1 = simp (length-append, length-take-le at xs l, length-drop) (omega arith) in
    let front : take (length xs) (column xs) ≡ xs = take-append_seam xs (replicate (max_versions - length xs) 0) in
    let rest : drop (length xs + 1) (column xs) ≡ replicate r 0 = rw one (drop-append-add xs (replicate (suc r) 0) 1) in
    rw (front, rest, size)

pub column-raise : (xs : List ℕ) (at k : ℕ) → at < length xs → raised_at at k (column xs) ≡ column (raised_at at k xs)
column-raise xs at k h =
    rw (get_or-append xs (replicate (max_versions - length xs) 0) 0 at h, length-set)
    (set-append_left xs (replicate (max_versions - length xs) 0) at (max (get_or xs at 0) k) h)

-- a padded column holds what it begins with
pub column_padded : (n : ℕ) (a : List ℕ) → n ≤ max_versions → Padded n a → column (take n a) ≡ a
column_padded n a h p =
    let size : length (take n a) ≡ n = length-take-le n a (omega (arith, p.places)) in
    rw (size, ← p.rest) (take-append-drop n a)

-- zeros past a place, one by one
pub zeros_rest : (a : List ℕ) (n : ℕ) → ((i : ℕ) → n ≤ i → i < length a → get_or a i 0 ≡ 0) → drop n a ≡ replicate (length a - n) 0
zeros_rest [] n z = rw (drop-nil {A = ℕ} n, let e : 0 - n ≡ 0 = omega arith in e)
zeros_rest (x ∷ a) zero z =
    let r : drop 0 a ≡ replicate (length a - 0) 0 = zeros_rest a 0 (λ i l h. z (suc i) (omega arith) (omega arith)) in
    let e : length a - 0 ≡ length a = omega arith in
    let s : suc (length a) - 0 ≡ suc (length a) = omega arith in
    rw (s, z 0 (omega arith) (omega arith)) (ap (λ (t : List ℕ). 0 ∷ t) (r ∙ ap (λ (n : ℕ). replicate n 0) e))
zeros_rest (x ∷ a) (suc n) z =
    let e : suc (length a) - suc n ≡ length a - n = omega arith in
    rw e (zeros_rest a n (λ i l h. z (suc i) (omega arith) (omega arith)))

-- ---- a column of a field of versions

module _ (f : Version → ℕ) where
  map-insert : (w : Version) (at : ℕ) (l : List Version) → map f (take at l ++ w ∷ drop at l) ≡ take at (map f l) ++ f w ∷ drop at (map f l)
  map-insert w zero l = refl
  map-insert w (suc at) [] = refl
  map-insert w (suc at) (u ∷ l) = ap (λ (r : List ℕ). f u ∷ r) (map-insert w at l)

  pub field_insert : (w : Version) (at : ℕ) (l : List Version) → at ≤ length l → length l < max_versions
      → inserted at (length l) (f w) (column (map f l)) ≡ column (map f (take at l ++ w ∷ drop at l))
  field_insert w at l h g =
      let size : length (map f l) ≡ length l = length-map l f in
      rw (map-insert w at l, ← size) (column-insert (map f l) at (f w) (omega arith) (omega arith))

  keeps : {P : Type 0} (d : Dec P) (u : Version) (r : List Version) → pick d (map f r) (f u ∷ map f r) ≡ map f (ite (isnt d) (u ∷ r) r)
  unfolding pick isnt
  keeps (yes p) u r = refl
  keeps (no n) u r = refl

  -- what is kept of a column are the fields of the versions of other stamps
  pub field_kept : (k : ℕ) (l : List Version) → kept k (map (λ (u : Version). u.stamp) l) (map f l) ≡ map f (without k l)
  unfolding kept
  field_kept k [] = refl
  field_kept k (u ∷ l) = rw (field_kept k l) (keeps (ℕ_discrete u.stamp k) u (without k l))

  fields-kept : (k : ℕ) (l : List Version)
      → kept k (take (length l) (column (map (λ (u : Version). u.stamp) l))) (take (length l) (column (map f l))) ≡ map f (without k l)
  fields-kept k l =
      rw (
        take_at (map (λ (u : Version). u.stamp) l) (replicate (max_versions - length (map (λ (u : Version). u.stamp) l)) 0) (length l) (length-map l (λ (u : Version). u.stamp)),
        take_at (map f l) (replicate (max_versions - length (map f l)) 0) (length l) (length-map l f),
      )
      (field_kept k l)

  pub field_count : (k : ℕ) (l : List Version)
      → length (kept k (take (length l) (column (map (λ (u : Version). u.stamp) l))) (take (length l) (column (map f l)))) ≡ length (without k l)
  field_count k l = rw (fields-kept k l) (length-map (without k l) f)

  pub field_narrow : (k : ℕ) (l : List Version) → length l ≤ max_versions
      → narrowed k (length l) (column (map (λ (u : Version). u.stamp) l)) (column (map f l)) ≡ column (map f (without k l))
  field_narrow k l h =
      let size : length (map f l) ≡ length l = length-map l f in
      let few : length (map f (without k l)) ≤ length (map f l) = rw (field_kept k l) at (kept_within k (map (λ (u : Version). u.stamp) l) (map f l)) in
      let rest : drop (length l) (column (map f l)) ≡ replicate (max_versions - length l) 0 =
      drop_at (map f l) (replicate (max_versions - length (map f l)) 0) (length l) size ∙ ap (λ (n : ℕ). replicate (max_versions - n) 0) size in
      let sum : length l - length (map f (without k l)) + (max_versions - length l) ≡ max_versions - length (map f (without k l)) = omega arith in
      rw (fields-kept k l, rest, append_assoc, replicate-append-replicate, sum)

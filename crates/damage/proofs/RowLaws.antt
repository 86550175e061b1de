-- The rows that four columns of one length make give the columns back, and a column that is zeros past a count is made of what stands before it.
-- Assumes nothing.
use Prim.Native.Nat.{ℕ, zero, suc, ◌-◌, ◌≤◌}
use mathlib.Core.Path.{◌≡◌, refl, ap, ◌∙◌}
use mathlib.Core.Bool.{true}
use mathlib.Core.List.{List, [], ◌∷◌, map}
use native.Mathlib.Omega.{arith}
use lib.ListN.{length, take, drop, replicate, length-append, length-drop, length-replicate, take-append-drop}
use lib.Seq.{length-take-le, take_at, drop_at}
use Rattle.scheduler_rules.specs.Model.{Version, max_versions}
use Rattle.open_table.specs.Intact.{zeros}
use Rattle.open_table.proofs.IntactLaws.{zeros_all, zeros-replicate}
use Rattle.version_columns.specs.Columns.{rows, column}

-- the first rows are the rows of the first numbers
pub take-rows : (n : ℕ) (a b c d : List ℕ) → take n (rows a b c d) ≡ rows (take n a) (take n b) (take n c) (take n d)
take-rows zero a b c d = refl
take-rows (suc n) (x ∷ a) (k ∷ b) (v ∷ c) (m ∷ d) = ap (λ (l : List Version). record { item = x; stamp = k; value = v; mark = m } ∷ l) (take-rows n a b c d)
take-rows (suc n) (x ∷ a) (k ∷ b) (v ∷ c) [] = refl
take-rows (suc n) (x ∷ a) (k ∷ b) [] d = refl
take-rows (suc n) (x ∷ a) [] c d = refl
take-rows (suc n) [] b c d = refl

none : (b : List ℕ) → length b ≡ 0 → [] ≡ b
none [] e = refl
none (x ∷ b) e = absurd (let n : ⊥ = omega arith in n)

-- the columns of rows
pub record Back (a b c d : List ℕ) (l : List Version) : Type 0 where
  pub items : map (λ (u : Version). u.item) l ≡ a
  pub stamps : map (λ (u : Version). u.stamp) l ≡ b
  pub values : map (λ (u : Version). u.value) l ≡ c
  pub marks : map (λ (u : Version). u.mark) l ≡ d

pub rows_back : (a b c d : List ℕ) → length b ≡ length a → length c ≡ length a → length d ≡ length a → Back a b c d (rows a b c d)
rows_back [] b c d p q r = record { items = refl; stamps = none b p; values = none c q; marks = none d r }
rows_back (x ∷ a) [] c d p q r = absurd (let n : ⊥ = omega arith in n)
rows_back (x ∷ a) (k ∷ b) [] d p q r = absurd (let n : ⊥ = omega arith in n)
rows_back (x ∷ a) (k ∷ b) (v ∷ c) [] p q r = absurd (let n : ⊥ = omega arith in n)
rows_back (x ∷ a) (k ∷ b) (v ∷ c) (m ∷ d) p q r =
    let s = rows_back a b c d (omega arith) (omega arith) (omega arith) in
    record {
      items = ap (λ (l : List ℕ). x ∷ l) s.items;
      stamps = ap (λ (l : List ℕ). k ∷ l) s.stamps;
      values = ap (λ (l : List ℕ). v ∷ l) s.values;
      marks = ap (λ (l : List ℕ). m ∷ l) s.marks;
    }

-- ---- one column

pub column_back : (a : List ℕ) (n : ℕ) → length a ≡ max_versions → n ≤ max_versions → zeros (drop n a) ≡ true → column (take n a) ≡ a
column_back a n w h z =
    let size : length (drop n a) ≡ max_versions - n = length-drop n a ∙ ap (λ k. k - n) w in
    let rest : drop n a ≡ replicate (max_versions - n) 0 = zeros_all (drop n a) z ∙ ap (λ k. replicate k 0) size in
    rw (length-take-le n a (omega arith), ← rest) (take-append-drop n a)

pub length-column : (xs : List ℕ) → length xs ≤ max_versions → length (column xs) ≡ max_versions
length-column xs h = length-append xs (replicate (max_versions - length xs) 0) ∙ rw (length-replicate {A = ℕ}) (omega arith)

pub column-take : (xs : List ℕ) (n : ℕ) → length xs ≡ n → take n (column xs) ≡ xs
column-take xs n e = take_at xs (replicate (max_versions - length xs) 0) n e

pub column-zeros : (xs : List ℕ) (n : ℕ) → length xs ≡ n → zeros (drop n (column xs)) ≡ true
column-zeros xs n e = rw (drop_at xs (replicate (max_versions - length xs) 0) n e) (zeros-replicate (max_versions - length xs))

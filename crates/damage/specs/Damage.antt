-- When the versions' columns and the initial marks are undamaged.
-- Assumes nothing.
use Rattle.std.specs.Prelude.{ℕ, ◌≤◌, ◌≡◌, Bool, true, ◌&&◌, ◌||◌, List, [], ◌∷◌, eqb, leb, ltb, take, drop}
use Rattle.lists.specs.Member.{◌∈◌}
use Rattle.scheduler_rules.specs.Model.{Version, max_item, max_versions}
use Rattle.scheduler_rules.specs.Sound.{Sorted, Proper}
use Rattle.open_table.specs.Intact.{zeros}
use Rattle.version_columns.specs.Columns.{versions_of, columns_of}
use Rattle.version_columns.specs.declared.Versions.{Versions}

-- whether the row of item x and stamp k comes after that of item w and stamp j
abbrev pub after : ℕ → ℕ → ℕ → ℕ → Bool
after w j x k = ltb w x || (eqb w x && ltb j k)

-- whether a row's item is one of 64, its stamp is neither 0 nor above last, its mark is not above last, and it comes after that of item w and stamp j
abbrev pub row_sound : ℕ → ℕ → ℕ → ℕ → ℕ → ℕ → Bool
row_sound w j last x k m = leb x max_item && ltb 0 k && leb k last && leb m last && after w j x k

-- whether each row is so, the first against item w and stamp j, the others against the row before
abbrev pub rows_sound : ℕ → ℕ → ℕ → List ℕ → List ℕ → List ℕ → Bool
rows_sound w j last (x ∷ xs) (k ∷ ks) (m ∷ ms) = row_sound w j last x k m && rows_sound x k last xs ks ms
rows_sound w j last (x ∷ xs) (k ∷ ks) [] = true
rows_sound w j last (x ∷ xs) [] ms = true
rows_sound w j last [] ks ms = true

-- whether the count is within the columns, the rows before it are sound, and every column is zeros past it
unfoldable pub columns_sound : Versions → ℕ → Bool
columns_sound t last =
    leb t.count max_versions
    && (rows_sound 0 0 last (take t.count t.items) (take t.count t.stamps) (take t.count t.marks)
    && zeros (drop t.count t.items)
    && zeros (drop t.count t.stamps)
    && zeros (drop t.count t.values)
    && zeros (drop t.count t.marks))

-- whether none of xs is above last
abbrev pub none_above : ℕ → List ℕ → Bool
none_above last [] = true
none_above last (x ∷ xs) = leb x last && none_above last xs

-- whether no initial mark is above last
unfoldable pub marks_sound : List ℕ → ℕ → Bool
marks_sound marks last = none_above last marks

-- ---- the same in plain words

-- columns that are what their versions make, and nothing else
pub record Undamaged (t : Versions) (last : ℕ) : Type 0 where
  pub is : t ≡ columns_of (versions_of t)
  pub within : t.count ≤ max_versions
  pub sorted : Sorted (versions_of t)
  pub proper : (u : Version) → u ∈ versions_of t → Proper last u

-- The versions that four columns hold, and the columns that hold given versions.
-- Assumes nothing.
use Rattle.std.specs.Prelude.{ℕ, ◌-◌, ◌≡◌, List, [], ◌∷◌, ◌++◌, map, length, take, drop, replicate}
use Rattle.scheduler_rules.specs.Model.{Version, max_versions}
use Rattle.version_columns.specs.declared.Versions.{Versions}

-- the rows that four columns make, as long as none is at its end
abbrev pub rows : List ℕ → List ℕ → List ℕ → List ℕ → List Version
rows (x ∷ xs) (k ∷ ks) (v ∷ vs) (m ∷ ms) = record { item = x; stamp = k; value = v; mark = m } ∷ rows xs ks vs ms
rows (x ∷ xs) (k ∷ ks) (v ∷ vs) [] = []
rows (x ∷ xs) (k ∷ ks) [] ms = []
rows (x ∷ xs) [] vs ms = []
rows [] ks vs ms = []

-- the versions held: the first rows, as many as the count says
abbrev pub versions_of : Versions → List Version
versions_of t = take t.count (rows t.items t.stamps t.values t.marks)

-- a column that holds xs: zeros past them
abbrev pub column : List ℕ → List ℕ
column xs = xs ++ replicate (max_versions - length xs) 0

-- a column of 1,024 places, with zeros past the first n
pub record Padded (n : ℕ) (a : List ℕ) : Type 0 where
  pub places : length a ≡ max_versions
  pub rest : drop n a ≡ replicate (max_versions - n) 0

-- the columns that hold l
abbrev pub columns_of : List Version → Versions
columns_of l = record {
  items = column (map (λ (u : Version). u.item) l);
  stamps = column (map (λ (u : Version). u.stamp) l);
  values = column (map (λ (u : Version). u.value) l);
  marks = column (map (λ (u : Version). u.mark) l);
  count = length l;
}

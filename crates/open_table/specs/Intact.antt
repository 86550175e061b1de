-- When an open table is undamaged.
-- Assumes nothing.
use Rattle.std.specs.Prelude.{ℕ, ◌≤◌, Bool, true, ◌&&◌, List, [], ◌∷◌, map, eqb, leb, ltb, drop}
use Rattle.lists.specs.Member.{◌∈◌, Rising}
use Rattle.scheduler_rules.specs.Model.{max_open}
use Rattle.open_table.specs.Open.{number, stamps_of, Padded}
use Rattle.open_table.specs.declared.OpenTable.{OpenTable}

-- whether k is above the stamp before it, and not above last
abbrev pub in_place : ℕ → ℕ → ℕ → Bool
in_place before last k = ltb before k && leb k last

-- whether the stamps rise strictly, the first above `before`, and none is above last
abbrev pub rises : ℕ → ℕ → List ℕ → Bool
rises before last [] = true
rises before last (k ∷ ks) = in_place before last k && rises k last ks

-- whether all are 0
abbrev pub zeros : List ℕ → Bool
zeros [] = true
zeros (x ∷ xs) = eqb x 0 && zeros xs

-- whether the count is within the table, its stamps rise from above 0 up to last at most, and the places past the count are zeros
unfoldable pub is_intact : OpenTable → ℕ → Bool
is_intact t last = leb t.count max_open && (rises 0 last (stamps_of t) && zeros (map number (drop t.count t.stamps)))

-- the same in plain words
pub record Intact (t : OpenTable) (last : ℕ) : Type 0 where
  pub padded : Padded t
  pub rising : Rising 1 (stamps_of t)
  pub begun : (k : ℕ) → k ∈ stamps_of t → k ≤ last

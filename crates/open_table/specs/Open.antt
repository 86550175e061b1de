-- What the open table holds, and the table that holds given stamps.
-- Assumes nothing.
use Rattle.std.specs.Prelude.{ℕ, ◌-◌, ◌≤◌, ◌≡◌, Bool, false, ◌||◌, List, [], ◌∷◌, ◌++◌, map, eqb, length, take, replicate}
use Rattle.log_format.specs.declared.Stamp.{Stamp}
use Rattle.scheduler_rules.specs.Model.{max_open}
use Rattle.open_table.specs.declared.OpenTable.{OpenTable}

-- the stamp of a number
abbrev pub stamp : ℕ → Stamp
stamp k = record { 0 = k }

-- the number of a stamp
abbrev pub number : Stamp → ℕ
number s = s.0

-- the stamps that a table holds, in their order
abbrev pub stamps_of : OpenTable → List ℕ
stamps_of t = map number (take t.count t.stamps)

-- the table that holds ks: zeros past the count
abbrev pub table_of : List ℕ → OpenTable
table_of ks = record { stamps = map stamp ks ++ replicate (max_open - length ks) (stamp 0); count = length ks }

-- a table is what its stamps make, and no more are open than may be
pub record Padded (t : OpenTable) : Type 0 where
  pub is : t ≡ table_of (stamps_of t)
  pub within : t.count ≤ max_open

-- whether k is one of ks
abbrev pub holds : ℕ → List ℕ → Bool
holds k [] = false
holds k (x ∷ ks) = eqb x k || holds k ks

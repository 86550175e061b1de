-- What the parts of the writing of a timestamp order answer and leave.
-- Assumes nothing.
use Rattle.std.specs.Prelude.{ℕ, ◌+◌, ◌*◌, ◌≡◌, List, [], ◌∷◌, cond, eqb, length}
use Rattle.log_format.specs.Bytes.{bytes4, splice}
use Rattle.history_rules.specs.Faults.{differ}
use Rattle.order_rules.specs.Fields.{field_of}

-- the bytes of a field with n stamps; none without one
abbrev pub size_of : ℕ → ℕ
size_of n = cond (eqb n 0) 0 (4 + 4 * n)

-- k's four bytes, if it wrote x
abbrev pub stamp_if : (ℕ → ℕ → ℕ) → ℕ → ℕ → List ℕ
stamp_if wr x k = cond (differ (wr k x) 0) (bytes4 k) []

-- an item's field, if it has a version
abbrev pub field_bytes : ℕ → List ℕ → List ℕ
field_bytes x [] = []
field_bytes x (k ∷ ks) = field_of x (k ∷ ks)

-- the bytes e stand in b from a place on, r is the place after them, and every other byte is as it was
pub record Placed (b : List ℕ) (at : ℕ) (e : List ℕ) (r : ℕ) (b' : List ℕ) : Type 0 where
  pub place : r ≡ at + length e
  pub bytes : b' ≡ splice b at e

-- A version order as bytes: a run of fields, tag 32: item, then its committed versions' stamps, oldest first, 4 bytes each.
-- Assumes nothing.
use Rattle.std.specs.Prelude.{ℕ, ◌+◌, ◌*◌, ◌/◌, ◌%◌, ◌<◌, ◌^◌, List, [], ◌∷◌, ◌++◌, cond, eqb, length}
use Rattle.lists.specs.Member.{◌∈◌}
use Rattle.log_format.specs.Bytes.{stamp_bytes}

-- a field of a version order: an item, then its committed versions' stamps, oldest first
pub data Field : Type 0 where
  field : (item : ℕ) (stamps : List ℕ) → Field

-- ---- its bytes

-- a number's two bytes
abbrev pub bytes2 : ℕ → List ℕ
bytes2 n = n / 256 % 256 ∷ n % 256 ∷ []

-- the length of a body with n stamps: the item, and 4 bytes each
abbrev pub body_of : ℕ → ℕ
body_of n = 1 + 4 * n

-- a field's bytes: tag, two length bytes, body
abbrev pub field_of : ℕ → List ℕ → List ℕ
field_of x ks = 32 ∷ bytes2 (body_of (length ks)) ++ (x ∷ stamp_bytes ks)

-- an order's bytes: its fields, one after the other
abbrev pub order_of : List Field → List ℕ
order_of [] = []
order_of (field x ks ∷ fs) = field_of x ks ++ order_of fs

-- ---- what it says

-- the items, one for each field
abbrev pub items : List Field → List ℕ
items [] = []
items (field x ks ∷ fs) = x ∷ items fs

-- each item's versions, oldest first, after version 0; an item without a field has none
unfoldable pub vs_of : List Field → ℕ → List ℕ
vs_of [] x = []
vs_of (field y ks ∷ fs) x = cond (eqb x y) ks (vs_of fs x)

-- none is empty
abbrev pub Filled : List Field → Type 0
Filled [] = Unit {0}
Filled (field x [] ∷ fs) = ⊥
Filled (field x (k ∷ ks) ∷ fs) = Filled fs

-- a field's numbers fit their bytes
pub record FieldFits (x : ℕ) (ks : List ℕ) : Type 0 where
  pub item : x < 256
  pub stamps : (k : ℕ) → k ∈ ks → k < 2 ^ 32
  pub body : body_of (length ks) < 65536

-- so do those of each
abbrev pub Fits : List Field → Type 0
Fits [] = Unit {0}
Fits (field x ks ∷ fs) = FieldFits x ks × Fits fs

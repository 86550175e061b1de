-- Reading any bytes as a version order: its fields, or none where they are not such a run.
-- Assumes nothing.
use Rattle.std.specs.Prelude.{ℕ, zero, suc, ◌+◌, ◌*◌, ◌-◌, ◌/◌, ◌%◌, ◌<◌, ◌≤◌, ◌≡◌, List, [], ◌∷◌, cond, leb, ltb, eqb, length, get_or}
use Rattle.std.specs.Prelude.{Option, Some, None, Result, Ok, Err}
use Rattle.log_format.specs.Bytes.{num2, num4}
use Rattle.log_format.specs.Fields.{body_len}
use Rattle.order_rules.specs.Fields.{Field, field, body_of}
use Rattle.order_rules.specs.declared.Head.{Head}
use Rattle.order_rules.specs.declared.BadOrder.{BadOrder}

-- ---- one field

-- what stands at a place of an order: how a field begins, nothing any more, or no field of an order
abbrev pub Found : Type 0
Found = Result (Option Head) BadOrder

abbrev pub stamps : (item number : ℕ) → Found
stamps x n = Ok (Some (record { item = x; stamps = n }))

abbrev pub at_end : Found
at_end = Ok None

abbrev pub bad : Found
bad = Err (record {})

-- a body of n bytes has an item, and then one stamp or more
abbrev pub bodied : List ℕ → ℕ → ℕ → Found
bodied s at n = cond (ltb n 5) bad (cond (eqb (n % 4) 1) (stamps (get_or s (at + 3) 0) (n / 4)) bad)

-- what stands at a place: past the last byte the end, else tag 32 and a body that is all there
unfoldable pub found_at : List ℕ → ℕ → Found
found_at s at = cond (leb (length s) at) at_end (cond (eqb (get_or s at 0) 32) (bodied s at (body_len s at)) bad)

-- the n stamps in the bytes from a place on
abbrev pub stamps_at : List ℕ → ℕ → ℕ → List ℕ
stamps_at s at zero = []
stamps_at s at (suc n) = num4 s at ∷ stamps_at s (at + 4) n

-- the place after a field with n stamps
abbrev pub next_at : ℕ → ℕ → ℕ
next_at at n = at + 4 + 4 * n

-- ---- a whole order

-- one field before what was read after it
abbrev pub before : Field → Option (List Field) → Option (List Field)
before f None = None
before f (Some fs) = Some (f ∷ fs)

-- one field at a place, and what f reads from the next place on
abbrev pub after : (ℕ → Option (List Field)) → List ℕ → ℕ → Found → Option (List Field)
after f s at (Ok (Some h)) = before (field h.item (stamps_at s (at + 4) h.stamps)) (f (next_at at h.stamps))
after f s at (Ok None) = Some []
after f s at (Err e) = None

-- at most k fields from a place on; running out of k is a refusal, and an order has fewer fields than bytes
unfoldable pub fields_at : ℕ → List ℕ → ℕ → Option (List Field)
fields_at zero s at = None
fields_at (suc k) s at = after (fields_at k s) s at (found_at s at)

-- the fields from a place on
unfoldable pub read_from : List ℕ → ℕ → Option (List Field)
read_from s at = fields_at (suc (length s - at)) s at

-- the fields that the bytes are
unfoldable pub read_order : List ℕ → Option (List Field)
read_order s = read_from s 0

abbrev pub or_none : Option (List Field) → List Field
or_none None = []
or_none (Some fs) = fs

-- its fields; none where it is refused
unfoldable pub fields_of : List ℕ → List Field
fields_of s = or_none (read_order s)

-- ---- the plain relation

-- at a place stands a field of item x with n stamps, all there
pub record StandsAt (s : List ℕ) (at x n : ℕ) : Type 0 where
  pub tag : get_or s at 0 ≡ 32
  pub body : num2 s (at + 1) ≡ body_of n
  pub item : x ≡ get_or s (at + 3) 0
  pub some : 0 < n
  pub within : next_at at n ≤ length s

-- The timestamp order of a log: for each item with a committed version a field, its stamps rising.
-- Assumes nothing.
use Rattle.std.specs.Prelude.{ℕ, zero, suc, ◌≡◌, List, [], ◌∷◌, reverse, cond, leb, length, Result, Ok, Err}
use Rattle.lists.specs.Member.{Rising}
use Rattle.log_format.specs.Bytes.{splice}
use Rattle.log_format.specs.Events.{Event}
use Rattle.history_rules.specs.Faults.{written, differ}
use Rattle.serial_theory.specs.Judged.{committed}
use Rattle.order_rules.specs.Fields.{Field, field, order_of, vs_of}
use Rattle.order_rules.specs.Right.{all_items}
use Rattle.order_rules.specs.declared.NoRoom.{NoRoom}

-- a field for x, if it has a version
abbrev pub with_field : ℕ → List ℕ → List Field → List Field
with_field x [] fs = fs
with_field x (k ∷ ks) fs = field x (k ∷ ks) ∷ fs

-- the fields of the n items from x on
unfoldable pub fields_up : (ℕ → List ℕ) → ℕ → ℕ → List Field
fields_up vs zero x = []
fields_up vs (suc n) x = with_field x (vs x) (fields_up vs n (suc x))

-- those of these nodes that wrote x
unfoldable pub versions_by : (ℕ → ℕ → ℕ) → List ℕ → ℕ → List ℕ
versions_by wr [] x = []
versions_by wr (i ∷ nodes) x = cond (differ (wr i x) 0) (i ∷ versions_by wr nodes x) (versions_by wr nodes x)

-- the fields of every item, its versions in the order of the nodes
abbrev pub fields_by : (ℕ → ℕ → ℕ) → List ℕ → List Field
fields_by wr nodes = fields_up (versions_by wr nodes) all_items 0

-- the bytes of these
unfoldable pub order_by : (ℕ → ℕ → ℕ) → List ℕ → List ℕ
order_by wr nodes = order_of (fields_by wr nodes)

-- x's versions in the timestamp order of a log: of the committed transactions, by rising stamp, those that wrote x
unfoldable pub timestamp_versions : List Event → ℕ → List ℕ
timestamp_versions log = versions_by (written (reverse log)) (committed log)

-- the timestamp order: the fields of every item, as bytes
unfoldable pub timestamp_order : List Event → List ℕ
timestamp_order log = order_of (fields_up (timestamp_versions log) all_items 0)

-- each item's versions stand in stamp order
abbrev pub InStampOrder : List Field → Type 0
InStampOrder fs = (x : ℕ) → Rising 0 (vs_of fs x)

-- ---- what the call answers

-- the page's code for each answer
abbrev pub written_code : Result ℕ NoRoom → ℕ
written_code (Ok n) = 0
written_code (Err e) = 29

-- the page's number beside the code
abbrev pub written_number : Result ℕ NoRoom → ℕ
written_number (Ok n) = n
written_number (Err e) = 0

-- writing an order's bytes e into b answers a and leaves b': 29 if b is too short, and then nothing is written; else the number of bytes, and no
-- later byte is changed
pub record Wrote (b e : List ℕ) (a : Result ℕ NoRoom) (b' : List ℕ) : Type 0 where
  pub answer : a ≡ cond (leb (length e) (length b)) (Ok (length e)) (Err (record {}))
  pub bytes : b' ≡ cond (leb (length e) (length b)) (splice b 0 e) b

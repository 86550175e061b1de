-- When a version order is right for a log, code 28: as a test that computes, given what each transaction wrote and which are committed, and as the plain
-- relation. A log is its events, first to last.
-- Assumes nothing.
use Rattle.std.specs.Prelude.{ℕ, zero, suc, ◌≡◌, List, [], ◌∷◌, ◌++◌, reverse, Bool, true, false, not, ◌&&◌, ◌||◌, leb, eqb}
use Rattle.std.specs.Prelude.{Option, Some, None}
use Rattle.lists.specs.Member.{Rising}
use Rattle.lists.specs.Tests.{any}
use Rattle.log_format.specs.Events.{Event}
use Rattle.history_rules.specs.WellFormed.{most_item}
use Rattle.history_rules.specs.Faults.{written, differ}
use Rattle.serial_theory.specs.Edges.{VersionOrder}
use Rattle.serial_theory.specs.Judged.{committed}
use Rattle.order_rules.specs.Fields.{Field, field, order_of, items, vs_of, Filled, Fits}
use Rattle.order_rules.specs.Reading.{read_order}

-- how many items there are
abbrev pub all_items : ℕ
all_items = 64

-- whether one of the numbers below n passes
unfoldable pub some_below : (ℕ → Bool) → ℕ → Bool
some_below p zero = false
some_below p (suc n) = p n || some_below p n

-- wr t x is not 0 where t wrote x; nodes are the committed transactions
module _ (wr : ℕ → ℕ → ℕ) (nodes : List ℕ) where
  -- whether i has a committed version of x
  abbrev pub is_version : ℕ → ℕ → Bool
  is_version x i = any (eqb i) nodes && differ (wr i x) 0

  -- whether each of these stamps is a committed version of x, and stands for the first time after those seen
  unfoldable pub each_once : ℕ → List ℕ → List ℕ → Bool
  each_once x seen [] = true
  each_once x seen (k ∷ ks) = is_version x k && (not (any (eqb k) seen) && each_once x (seen ++ k ∷ []) ks)

  -- whether the items rise strictly, from `least` on, and each has committed versions, each once
  unfoldable pub sound : ℕ → List Field → Bool
  sound least [] = true
  sound least (field x ks ∷ fs) = leb least x && (leb x most_item && (each_once x [] ks && sound (suc x) fs))

  -- whether i's committed version of x does not stand in the order
  abbrev pub missing : (ℕ → List ℕ) → ℕ → ℕ → Bool
  missing vs i x = differ (wr i x) 0 && not (any (eqb i) (vs x))

  -- whether a committed version is left out
  unfoldable pub left_out : (ℕ → List ℕ) → Bool
  left_out vs = any (λ (i : ℕ). some_below (missing vs i) all_items) nodes

  -- bytes that are no run of fields are not right
  abbrev pub judged : Option (List Field) → Bool
  judged None = false
  judged (Some fs) = sound 0 fs && not (left_out (vs_of fs))

  -- whether bytes are a right version order
  unfoldable pub right_by : List ℕ → Bool
  right_by s = judged (read_order s)

-- whether bytes are a right version order of the log
unfoldable pub right_order : List Event → List ℕ → Bool
right_order log s = right_by (written (reverse log)) (committed log) s

-- ---- the plain relation

-- none of 28's faults: the bytes are fields whose items rise strictly, none empty, and each item's versions are its committed versions, each once
pub record RightOrder (log : List Event) (s : List ℕ) : Type 0 where
  pub fields : List Field
  pub fit : Fits fields
  pub bytes : s ≡ order_of fields
  pub rise : Rising 0 (items fields)
  pub filled : Filled fields
  pub versions : VersionOrder log (vs_of fields)

-- What a table that holds a log's events says is what the events say: the tests and the timestamp order ask only of items up to 63.
-- Assumes nothing.
use Prim.Native.Nat.{ℕ, zero, suc, ◌+◌, ◌≤◌, ◌<◌}
use native.Mathlib.Omega.{arith}
use mathlib.Core.Path.{◌≡◌, refl, ap}
use mathlib.Core.List.{List, [], ◌∷◌, ◌++◌, reverse}
use mathlib.Core.Bool.{Bool, true, false, ◌&&◌}
use Rattle.std.specs.Prelude.{Option, Some, None}
use lib.Dec.{leb}
use borrow.Author.Tests.{leb-true}
use Rattle.lists.specs.Tests.{any}
use Rattle.log_format.specs.Events.{Event}
use Rattle.history_rules.specs.WellFormed.{most_item}
use Rattle.history_rules.specs.Faults.{written}
use Rattle.history_rules.specs.Held.{Holds, written_in}
use Rattle.serial_theory.specs.Judged.{committed}
use Rattle.order_rules.specs.Fields.{Field, field, order_of, vs_of}
use Rattle.order_rules.specs.Reading.{read_order}
use Rattle.order_rules.specs.Right.{all_items, some_below, each_once, sound, left_out, judged, right_by, right_order}
use Rattle.order_rules.specs.Timestamps.{fields_up, versions_by, order_by, timestamp_versions, timestamp_order}

module _ (wr wr' : ℕ → ℕ → ℕ) (same : (t x : ℕ) → x ≤ most_item → wr t x ≡ wr' t x) (nodes : List ℕ) where
  once_same : (x : ℕ) → x ≤ most_item → (seen ks : List ℕ) → each_once wr nodes x seen ks ≡ each_once wr' nodes x seen ks
  unfolding each_once
  once_same x h seen [] = refl
  once_same x h seen (k ∷ ks) = rw (same k x h, once_same x h (seen ++ k ∷ []) ks)

  sound_same : (least : ℕ) (fs : List Field) → sound wr nodes least fs ≡ sound wr' nodes least fs
  unfolding sound
  sound_same least [] = refl
  sound_same least (field x ks ∷ fs) = ap (λ (b : Bool). leb least x && b) (go (leb x most_item) refl (sound_same (suc x) fs))
    where
      go : (b : Bool) → leb x most_item ≡ b → sound wr nodes (suc x) fs ≡ sound wr' nodes (suc x) fs
          → (b && (each_once wr nodes x [] ks && sound wr nodes (suc x) fs)) ≡ (b && (each_once wr' nodes x [] ks && sound wr' nodes (suc x) fs))
      go true e ih = rw (once_same x (leb-true x most_item e) [] ks, ih)
      go false e ih = refl

  below_same : (p q : ℕ → Bool) (n : ℕ) → ((i : ℕ) → i < n → p i ≡ q i) → some_below p n ≡ some_below q n
  unfolding some_below
  below_same p q zero h = refl
  below_same p q (suc n) h = rw (h n (omega arith), below_same p q n (λ i l. h i (omega arith)))

  any_same : (p q : ℕ → Bool) (l : List ℕ) → ((i : ℕ) → p i ≡ q i) → any p l ≡ any q l
  any_same p q [] h = refl
  any_same p q (i ∷ l) h = rw (h i, any_same p q l h)

  left_same : (vs : ℕ → List ℕ) → left_out wr nodes vs ≡ left_out wr' nodes vs
  unfolding left_out
  left_same vs = any_same _ _ nodes (λ i. below_same _ _ all_items (λ x h. rw (same i x (omega arith))))

  pub right_by_same : (s : List ℕ) → right_by wr nodes s ≡ right_by wr' nodes s
  unfolding right_by
  right_by_same s = go (read_order s)
    where
      go : (o : Option (List Field)) → judged wr nodes o ≡ judged wr' nodes o
      go None = refl
      go (Some fs) = rw (sound_same 0 fs, left_same (vs_of fs))

  versions_same : (l : List ℕ) (x : ℕ) → x ≤ most_item → versions_by wr l x ≡ versions_by wr' l x
  unfolding versions_by
  versions_same [] x h = refl
  versions_same (i ∷ l) x h = rw (same i x h, versions_same l x h)

  up_same : (n x : ℕ) → x + n ≤ all_items → fields_up (versions_by wr nodes) n x ≡ fields_up (versions_by wr' nodes) n x
  unfolding fields_up
  up_same zero x h = refl
  up_same (suc n) x h = rw (versions_same nodes x (omega arith), up_same n (suc x) (omega arith))

  pub order_by_same : order_by wr nodes ≡ order_by wr' nodes
  unfolding order_by
  order_by_same = ap order_of (up_same all_items 0 (omega arith))

-- judging by a table that holds the log's events is judging by the events; and so is writing the order
module _ (log : List Event) (table : ℕ → ℕ) (h : Holds (reverse log) table) where
  pub right_held : (s : List ℕ) → right_by (written_in table) (committed log) s ≡ right_order log s
  unfolding right_order
  right_held s = right_by_same (written_in table) (written (reverse log)) h.writes (committed log) s

  pub timestamp_held : order_by (written_in table) (committed log) ≡ timestamp_order log
  unfolding timestamp_order timestamp_versions order_by
  timestamp_held = order_by_same (written_in table) (written (reverse log)) h.writes (committed log)

-- The replies, in order of checking: one row a line.
-- Assumes nothing.
use Rattle.std.specs.Prelude.{ℕ, ◌+◌, ◌≤◌, ◌<◌, ◌≡◌, List, [], ◌∷◌, ◌++◌, ◌≢◌, length}
use Rattle.std.proofs.Math.Decide.{ℕ_discrete, dec_le, dec_lt}
use Rattle.lists.specs.Choice.{pick, both, either, isnt}
use Rattle.lists.specs.Member.{◌∈◌, memb}
use Rattle.log_format.specs.Events.{Event, begins, reads, writes, commits, aborts, size}
use Rattle.scheduler_rules.specs.Model.{Model, Version, max_open, max_versions, max_item, start}
use Rattle.scheduler_rules.specs.Model.{chosen, beneath, Waits, waits?, Late, Wrote, wrote?}
use Rattle.scheduler_rules.specs.Model.{begun, got, stored, ended, dropped}
use Rattle.scheduler_rules.specs.declared.Op.{Op}
use Rattle.scheduler_rules.specs.declared.Reply.{Reply}

-- what a call answers, the model it leaves, and the record it writes, if any
pub record Outcome : Type 0 where
  pub reply : Reply
  pub next : Model
  pub due : List Event

abbrev pub answer : ℕ → ℕ → ℕ → Model → List Event → Outcome
answer c j v m es = record { reply = record { code = c; stamp = record { 0 = j }; value = v }; next = m; due = es }

-- code, 0, 0; no state and no byte changes
abbrev pub refuse : ℕ → Model → Outcome
refuse c m = answer c 0 0 m []

-- a read and a write have an item, a write has a value
abbrev pub most_item : ℕ → ℕ
most_item kind = pick (either (ℕ_discrete kind 2) (ℕ_discrete kind 3)) max_item 0

abbrev pub most_value : ℕ → ℕ
most_value kind = pick (ℕ_discrete kind 3) 4294967295 0

-- the kind is one of five, the stamp is not 0, the item is in range, an unused number is 0
pub record Good (op : Op) : Type 0 where
  pub known : (1 ≤ op.kind) × (op.kind ≤ 5)
  pub positive : 1 ≤ op.stamp.0
  pub item : op.item ≤ most_item op.kind
  pub value : op.value ≤ most_value op.kind

unfoldable pub good? : (op : Op) → Dec (Good op)
good? op = join (both (dec_le 1 op.kind) (dec_le op.kind 5)) (dec_le 1 op.stamp.0) (dec_le op.item (most_item op.kind)) (dec_le op.value (most_value op.kind))
  where
    join : Dec ((1 ≤ op.kind) × (op.kind ≤ 5)) → Dec (1 ≤ op.stamp.0) → Dec (op.item ≤ most_item op.kind) → Dec (op.value ≤ most_value op.kind) → Dec (Good op)
    join (yes a) (yes b) (yes c) (yes d) = yes (record { known = a; positive = b; item = c; value = d })
    join (no n) b c d = no (λ h. n h.known)
    join (yes a) (no n) c d = no (λ h. n h.positive)
    join (yes a) (yes b) (no n) d = no (λ h. n h.item)
    join (yes a) (yes b) (yes c) (no n) = no (λ h. n h.value)

module _ (op : Op) (m : Model) where
  -- the version that a read reads
  abbrev pub seen : Version
  seen = chosen m op.item op.stamp.0

  -- the version beneath a write
  abbrev pub overlaid : Version
  overlaid = beneath m op.item op.stamp.0

  -- when each row of the table is taken, if no earlier one is
  abbrev pub Row2 : Type 0
  Row2 = ¬ Good op

  abbrev pub Row3 : Type 0
  Row3 = (op.kind ≡ 1) × (op.stamp.0 ≤ m.last)

  abbrev pub Row4 : Type 0
  Row4 = (op.kind ≡ 1) × (max_open ≤ length m.live)

  abbrev pub Row5 : Type 0
  Row5 = (op.kind ≢ 1) × (¬ (op.stamp.0 ∈ m.live))

  abbrev pub Row6 : Type 0
  Row6 = (op.kind ≡ 2) × Waits op.stamp.0 seen m

  abbrev pub Row7 : Type 0
  Row7 = (op.kind ≡ 3) × Wrote op.stamp.0 op.item m.held

  abbrev pub Row8 : Type 0
  Row8 = (op.kind ≡ 3) × Late op.item op.stamp.0 m

  abbrev pub Row9 : Type 0
  Row9 = (op.kind ≡ 3) × ((¬ Row8) × (max_versions ≤ length m.held))

  abbrev pub row2 : Dec Row2
  row2 = isnt (good? op)

  abbrev pub row3 : Dec Row3
  row3 = both (ℕ_discrete op.kind 1) (dec_le op.stamp.0 m.last)

  abbrev pub row4 : Dec Row4
  row4 = both (ℕ_discrete op.kind 1) (dec_le max_open (length m.live))

  abbrev pub row5 : Dec Row5
  row5 = both (isnt (ℕ_discrete op.kind 1)) (isnt (memb op.stamp.0 m.live))

  abbrev pub row6 : Dec Row6
  row6 = both (ℕ_discrete op.kind 2) (waits? op.stamp.0 seen m)

  abbrev pub row7 : Dec Row7
  row7 = both (ℕ_discrete op.kind 3) (wrote? op.stamp.0 op.item m.held)

  abbrev pub row8 : Dec Row8
  row8 = both (ℕ_discrete op.kind 3) (dec_lt op.stamp.0 overlaid.mark)

  abbrev pub row9 : Dec Row9
  row9 = both (ℕ_discrete op.kind 3) (both (isnt row8) (dec_le max_versions (length m.held)))

  -- the record due: a late write's is an abort of cause 1
  unfoldable pub due : Event
  due =
      pick (ℕ_discrete op.kind 1) (begins op.stamp.0)
      (pick (ℕ_discrete op.kind 2) (reads op.stamp.0 op.item seen.stamp seen.value)
      (pick row8 (aborts op.stamp.0 1)
      (pick (ℕ_discrete op.kind 3) (writes op.stamp.0 op.item op.value)
      (pick (ℕ_discrete op.kind 4) (commits op.stamp.0)
      (aborts op.stamp.0 0)))))

  -- code 0, by kind
  unfoldable pub fine : Outcome
  fine =
      pick (ℕ_discrete op.kind 1) (answer 0 0 0 (begun op.stamp.0 m) (due ∷ []))
      (pick (ℕ_discrete op.kind 2) (answer 0 seen.stamp seen.value (got op.stamp.0 op.item seen.stamp m) (due ∷ []))
      (pick (ℕ_discrete op.kind 3) (answer 0 0 0 (stored op.stamp.0 op.item op.value m) (due ∷ []))
      (pick (ℕ_discrete op.kind 4) (answer 0 0 0 (ended op.stamp.0 m) (due ∷ []))
      (answer 0 0 0 (dropped op.stamp.0 m) (due ∷ [])))))

-- room: the bytes that the log may have, the buffer's length or 65,536 if that is less
module _ (room : ℕ) (op : Op) (m : Model) where
  abbrev pub Row10 : Type 0
  Row10 = room < m.used + size (due op m)

  abbrev pub row10 : Dec Row10
  row10 = dec_lt room (m.used + size (due op m))

  -- the table
  unfoldable pub table : Outcome
  table =
      pick (row2 op m) (refuse 2 m)
      (pick (row3 op m) (refuse 3 m)
      (pick (row4 op m) (refuse 4 m)
      (pick (row5 op m) (refuse 5 m)
      (pick (row6 op m) (answer 6 (seen op m).stamp 0 m [])
      (pick (row7 op m) (refuse 7 m)
      (pick (row9 op m) (refuse 9 m)
      (pick row10 (refuse 10 m)
      (pick (row8 op m) (answer 8 (overlaid op m).mark 0 (dropped op.stamp.0 m) (due op m ∷ []))
      (fine op m)))))))))

-- the models that any operations lead to from fresh, refused ones included, whatever the room at each, with the events written, newest first
pub data Reached : Model → List Event → Type 0 where
  fresh : Reached start []
  next : (room : ℕ) (op : Op) (m : Model) (es : List Event) → room ≤ 65536 → Reached m es → Reached (table room op m).next ((table room op m).due ++ es)

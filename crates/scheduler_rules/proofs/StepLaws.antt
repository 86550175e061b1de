-- Whatever is asked, the model is left as it was and nothing is written, or it is one of five changed ones and one record is written.
-- So what is to hold of every outcome is shown for these six. Each fact comes from a row of the table that was passed.
-- Assumes nothing.
use Prim.Native.Nat.{ℕ, ◌+◌, ◌≤◌, ◌<◌}
use mathlib.Core.Path.{◌≡◌}
use mathlib.Core.List.{List, [], ◌∷◌}
use mathlib.Core.Logic.{◌≢◌}
use native.Mathlib.Decide.{ℕ_discrete}
use native.Mathlib.Omega.{arith}
use lib.ListN.{length}
use Rattle.lists.specs.Choice.{either}
use Rattle.lists.specs.Member.{◌∈◌, memb}
use Rattle.lists.proofs.ChoiceLaws.{pick_by, not_not}
use Rattle.log_format.specs.Events.{Event, begins, reads, writes, commits, aborts, size}
use Rattle.scheduler_rules.specs.Model.{Model, max_open, max_versions, max_item, chosen, begun, got, stored, ended, dropped}
use Rattle.scheduler_rules.specs.Table.{Outcome, Row8, overlaid, most_item, most_value, due, table}
use Rattle.scheduler_rules.specs.Replies.{Passed, Given}
use Rattle.scheduler_rules.specs.Replies.{given2, given3, given4, given5, given6, given7, given9, given10, given8, began, read, written, committed, aborted}
use Rattle.scheduler_rules.specs.Steps.{CanBegin, CanRead, CanWrite, CanEnd}
use Rattle.scheduler_rules.specs.declared.Op.{Op}
use Rattle.scheduler_rules.proofs.Rows.{due_begin, due_read, due_late, due_write, due_commit, due_abort}
use Rattle.scheduler_rules.proofs.ReplyLaws.{good, replies}

item_low : (n : ℕ) → most_item n ≤ max_item
item_low n = pick_by (λ (b : ℕ). b ≤ max_item) (either (ℕ_discrete n 2) (ℕ_discrete n 3)) (λ _. omega arith) (λ _. omega arith)

value_low : (n : ℕ) → most_value n ≤ 4294967295
value_low n = pick_by (λ (b : ℕ). b ≤ 4294967295) (ℕ_discrete n 3) (λ _. omega arith) (λ _. omega arith)

-- ---- what the rows that were passed leave

module _ (room : ℕ) (op : Op) (m : Model) (p : Passed room op m) where
  positive : 1 ≤ op.stamp.0
  positive = (good op m p.not2).positive

  item : op.item ≤ max_item
  item = let g = (good op m p.not2).item in let l = item_low op.kind in omega arith

  value : op.value ≤ 4294967295
  value = let g = (good op m p.not2).value in let l = value_low op.kind in omega arith

  among : op.kind ≢ 1 → op.stamp.0 ∈ m.live
  among h = not_not (memb op.stamp.0 m.live) (λ n. p.not5 (h, n))

  fits : (e : Event) → due op m ≡ e → m.used + size e ≤ room
  fits e q = let n : ¬ (room < m.used + size e) = λ l. p.not10 (rw q l) in omega arith

  can_begin : op.kind ≡ 1 → CanBegin room m op.stamp.0
  can_begin h =
      let a : ¬ (op.stamp.0 ≤ m.last) = λ t. p.not3 (h, t) in
      let b : ¬ (max_open ≤ length m.live) = λ t. p.not4 (h, t) in
      record { positive = positive; above = omega arith; place = omega arith; fits = fits (begins op.stamp.0) (due_begin op m h) }

  can_read : op.kind ≡ 2 → CanRead room m op.stamp.0 op.item
  can_read h = record {
    positive = positive;
    item = item;
    among = among (omega arith);
    ready = λ w. p.not6 (h, w);
    fits = fits (reads op.stamp.0 op.item (chosen m op.item op.stamp.0).stamp (chosen m op.item op.stamp.0).value) (due_read op m h);
  }

  can_write : op.kind ≡ 3 → ¬ Row8 op m → CanWrite room m op.stamp.0 op.item op.value
  can_write h n8 =
      let a : ¬ (op.stamp.0 < (overlaid op m).mark) = λ t. n8 (h, t) in
      let b : ¬ (max_versions ≤ length m.held) = λ t. p.not9 (h, (n8, t)) in
      record {
        positive = positive;
        item = item;
        value = value;
        among = among (omega arith);
        first = λ w. p.not7 (h, w);
        early = omega arith;
        place = omega arith;
        fits = fits (writes op.stamp.0 op.item op.value) (due_write op m h n8);
      }

  can_commit : op.kind ≡ 4 → CanEnd room m op.stamp.0 7
  can_commit h = record { positive = positive; among = among (omega arith); fits = fits (commits op.stamp.0) (due_commit op m h) }

  can_abort : (c : ℕ) → op.kind ≢ 1 → due op m ≡ aborts op.stamp.0 c → CanEnd room m op.stamp.0 8
  can_abort c h q = record { positive = positive; among = among h; fits = fits (aborts op.stamp.0 c) q }

-- ---- the six cases

module _ (Q : Model → List Event → Type 0) (room : ℕ) (op : Op) (m : Model)
    (kept : Q m [])
    (b : (k : ℕ) → CanBegin room m k → Q (begun k m) (begins k ∷ []))
    (r : (k x : ℕ) → CanRead room m k x → Q (got k x (chosen m x k).stamp m) (reads k x (chosen m x k).stamp (chosen m x k).value ∷ []))
    (w : (k x v : ℕ) → CanWrite room m k x v → Q (stored k x v m) (writes k x v ∷ []))
    (e : (k : ℕ) → CanEnd room m k 7 → Q (ended k m) (commits k ∷ []))
    (a : (k cause : ℕ) → cause ≤ 1 → CanEnd room m k 8 → Q (dropped k m) (aborts k cause ∷ [])) where
  given_to : {o : Outcome} → Given room op m o → Q o.next o.due
  given_to (given2 t) = kept
  given_to (given3 n2 t) = kept
  given_to (given4 n2 n3 t) = kept
  given_to (given5 n2 n3 n4 t) = kept
  given_to (given6 n2 n3 n4 n5 t) = kept
  given_to (given7 n2 n3 n4 n5 n6 t) = kept
  given_to (given9 n2 n3 n4 n5 n6 n7 t) = kept
  given_to (given10 n2 n3 n4 n5 n6 n7 n9 t) = kept
  given_to (given8 p t) = a op.stamp.0 1 (omega arith) (can_abort room op m p 1 (let h = t.0 in omega arith) (due_late op m t))
  given_to (began p h) = b op.stamp.0 (can_begin room op m p h)
  given_to (read p h) = r op.stamp.0 op.item (can_read room op m p h)
  given_to (written p n8 h) = w op.stamp.0 op.item op.value (can_write room op m p h n8)
  given_to (committed p h) = e op.stamp.0 (can_commit room op m p h)
  given_to (aborted p h) = a op.stamp.0 0 (omega arith) (can_abort room op m p 0 (omega arith) (due_abort op m h))

  -- what holds as it was, and after each change with its record, holds of what the table leaves and writes
  pub table_to : Q (table room op m).next (table room op m).due
  table_to = given_to (replies room op m)

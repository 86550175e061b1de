-- What a reply's code says of the state and the log: codes 2 to 7, 9 and 10 change nothing and write nothing, code 8 drops the transaction
-- and writes its abort, code 0 writes the one record due; and the bytes used grow by what is written. Read off the table's rows.
-- Assumes nothing.
use Prim.Native.Nat.{ℕ, ◌+◌, ◌<◌}
use mathlib.Core.Path.{◌≡◌, refl}
use mathlib.Core.List.{List, [], ◌∷◌, ◌++◌}
use mathlib.Core.Logic.{◌≢◌}
use native.Mathlib.Omega.{arith}
use Rattle.log_format.specs.Events.{Event, aborts}
use Rattle.scheduler_rules.specs.Model.{Model, dropped}
use Rattle.scheduler_rules.specs.Table.{Outcome, answer, seen, due, table, Reached, fresh, next}
use Rattle.scheduler_rules.specs.Replies.{Given}
use Rattle.scheduler_rules.specs.Replies.{given2, given3, given4, given5, given6, given7, given9, given10, given8, began, read, written, committed, aborted}
use Rattle.scheduler_rules.specs.Sizes.{sizes}
use Rattle.scheduler_rules.specs.declared.Op.{Op}
use Rattle.scheduler_rules.proofs.Rows.{due_begin, due_read, due_write, due_commit, due_abort}
use Rattle.scheduler_rules.proofs.ReplyLaws.{replies}
use Rattle.scheduler_rules.proofs.StepLaws.{table_to}

-- what an outcome's code says of the rest of it
record Told (op : Op) (m : Model) (o : Outcome) : Type 0 where
  refused : o.reply.code ≢ 0 → o.reply.code ≢ 8 → (o.next ≡ m) × (o.due ≡ [])
  late : o.reply.code ≡ 8 → (o.next ≡ dropped op.stamp.0 m) × (o.due ≡ aborts op.stamp.0 1 ∷ [])
  fine : o.reply.code ≡ 0 → o.due ≡ due op m ∷ []
  some : o.reply.code ≢ 1

module _ (room : ℕ) (op : Op) (m : Model) where
  silent : (c j : ℕ) → 1 < c → c ≢ 8 → Told op m (answer c j 0 m [])
  silent c j n1 n8 = record { refused = λ _ _. (refl, refl); late = λ e. absurd (n8 e); fine = λ e. absurd (omega arith); some = omega arith }

  spoken : (j v : ℕ) (n : Model) (e : Event) → due op m ≡ e → Told op m (answer 0 j v n (e ∷ []))
  spoken j v n e q = record { refused = λ n _. absurd (n refl); late = λ z. absurd (omega arith); fine = λ _. rw q; some = omega arith }

  said : {o : Outcome} → Given room op m o → Told op m o
  said (given2 t) = silent 2 0 (omega arith) (omega arith)
  said (given3 n2 t) = silent 3 0 (omega arith) (omega arith)
  said (given4 n2 n3 t) = silent 4 0 (omega arith) (omega arith)
  said (given5 n2 n3 n4 t) = silent 5 0 (omega arith) (omega arith)
  said (given6 n2 n3 n4 n5 t) = silent 6 (seen op m).stamp (omega arith) (omega arith)
  said (given7 n2 n3 n4 n5 n6 t) = silent 7 0 (omega arith) (omega arith)
  said (given9 n2 n3 n4 n5 n6 n7 t) = silent 9 0 (omega arith) (omega arith)
  said (given10 n2 n3 n4 n5 n6 n7 n9 t) = silent 10 0 (omega arith) (omega arith)
  said (given8 p t) = record { refused = λ _ n. absurd (n refl); late = λ _. (refl, refl); fine = λ e. absurd (omega arith); some = omega arith }
  said (began p h) = spoken 0 0 _ _ (due_begin op m h)
  said (read p h) = spoken _ _ _ _ (due_read op m h)
  said (written p n8 h) = spoken 0 0 _ _ (due_write op m h n8)
  said (committed p h) = spoken 0 0 _ _ (due_commit op m h)
  said (aborted p h) = spoken 0 0 _ _ (due_abort op m h)

  -- codes 2 to 7, 9 and 10 change no state and no byte
  pub refusals_change_nothing : (table room op m).reply.code ≢ 0 → (table room op m).reply.code ≢ 8 → ((table room op m).next ≡ m) × ((table room op m).due ≡ [])
  refusals_change_nothing = (said (replies room op m)).refused

  -- code 8 writes exactly one record, an abort of cause 1, and the transaction's versions go
  pub late_aborts : (table room op m).reply.code ≡ 8 → ((table room op m).next ≡ dropped op.stamp.0 m) × ((table room op m).due ≡ aborts op.stamp.0 1 ∷ [])
  late_aborts = (said (replies room op m)).late

  -- code 0 writes exactly one record, the one due
  pub fine_writes_due : (table room op m).reply.code ≡ 0 → (table room op m).due ≡ due op m ∷ []
  fine_writes_due = (said (replies room op m)).fine

  -- the rules never answer 1, which a damaged state alone gives
  pub never_one : (table room op m).reply.code ≢ 1
  never_one = (said (replies room op m)).some

  -- the bytes used grow by those of the record written
  pub used_grows : (table room op m).next.used ≡ m.used + sizes (table room op m).due
  used_grows = table_to (λ (n : Model) (es : List Event). n.used ≡ m.used + sizes es) room op m
      (omega arith) (λ _ _. omega arith) (λ _ _ _. omega arith) (λ _ _ _ _. omega arith) (λ _ _. omega arith) (λ _ _ _ _. omega arith)

-- ---- over a run of operations

sizes-append : (a b : List Event) → sizes (a ++ b) ≡ sizes a + sizes b
sizes-append [] b = omega arith
sizes-append (e ∷ a) b = let h = sizes-append a b in omega arith

-- the bytes used are the header's and those of the events written
pub used_is : {m : Model} {es : List Event} → Reached m es → m.used ≡ 4 + sizes es
used_is fresh = omega arith
used_is (next room op m es h r) = let q = used_is r in let g = used_grows room op m in let a = sizes-append (table room op m).due es in omega arith

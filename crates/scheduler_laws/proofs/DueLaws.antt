-- The record due by the table: there is at most one, it fits the room, it is the one that the reply tells of, and the last begun stamp is as
-- it was or the operation's. Read off the table's rows.
-- Assumes nothing.
use Prim.Native.Nat.{ℕ, ◌+◌, ◌≤◌}
use mathlib.Core.Path.{◌≡◌, refl}
use mathlib.Core.List.{List}
use mathlib.Core.Logic.{◌⊎◌, inl, inr}
use native.Mathlib.Omega.{arith}
use lib.ListN.{length}
use Rattle.log_format.specs.Events.{Event}
use Rattle.scheduler_rules.specs.Model.{Model}
use Rattle.scheduler_rules.specs.Table.{Outcome, table}
use Rattle.scheduler_rules.specs.Replies.{Given}
use Rattle.scheduler_rules.specs.Replies.{given2, given3, given4, given5, given6, given7, given9, given10, given8, began, read, written, committed, aborted}
use Rattle.scheduler_rules.specs.Sizes.{sizes}
use Rattle.scheduler_rules.specs.declared.Op.{Op}
use Rattle.scheduler_rules.proofs.ReplyLaws.{replies}
use Rattle.scheduler_rules.proofs.StepLaws.{table_to}
use Rattle.scheduler_laws.specs.Said.{said_by}

-- what an outcome's reply says of its record, and where its last begun stamp comes from
record Plain (op : Op) (m : Model) (o : Outcome) : Type 0 where
  said : o.due ≡ said_by op o.reply
  last : (o.next.last ≡ m.last) ⊎ (o.next.last ≡ op.stamp.0)

module _ (room : ℕ) (op : Op) (m : Model) where
  plain : {o : Outcome} → Given room op m o → Plain op m o
  plain (given2 t) = record { said = refl; last = inl refl }
  plain (given3 n2 t) = record { said = refl; last = inl refl }
  plain (given4 n2 n3 t) = record { said = refl; last = inl refl }
  plain (given5 n2 n3 n4 t) = record { said = refl; last = inl refl }
  plain (given6 n2 n3 n4 n5 t) = record { said = refl; last = inl refl }
  plain (given7 n2 n3 n4 n5 n6 t) = record { said = refl; last = inl refl }
  plain (given9 n2 n3 n4 n5 n6 n7 t) = record { said = refl; last = inl refl }
  plain (given10 n2 n3 n4 n5 n6 n7 n9 t) = record { said = refl; last = inl refl }
  plain (given8 p t) = record { said = refl; last = inl refl }
  plain (began p h) = record { said = rw h; last = inr refl }
  plain (read p h) = record { said = rw h; last = inl refl }
  plain (written p n8 h) = record { said = rw h; last = inl refl }
  plain (committed p h) = record { said = rw h; last = inl refl }
  plain (aborted p h) = record { said = rw h; last = inl refl }

  -- the record is the one that the reply tells of
  pub due_said : (table room op m).due ≡ said_by op (table room op m).reply
  due_said = (plain (replies room op m)).said

  -- only a begin changes the last begun stamp, and to its own
  pub last_is : ((table room op m).next.last ≡ m.last) ⊎ ((table room op m).next.last ≡ op.stamp.0)
  last_is = (plain (replies room op m)).last

  -- there is at most one record
  pub one_due : length (table room op m).due ≤ 1
  one_due = table_to (λ (n : Model) (es : List Event). length es ≤ 1) room op m
      (omega arith) (λ _ _. omega arith) (λ _ _ _. omega arith) (λ _ _ _ _. omega arith) (λ _ _. omega arith) (λ _ _ _ _. omega arith)

  -- it fits the room
  pub due_fits : m.used ≤ room → m.used + sizes (table room op m).due ≤ room
  due_fits h = table_to (λ (n : Model) (es : List Event). m.used + sizes es ≤ room) room op m
      (omega arith) (λ _ c. omega (arith, c.fits)) (λ _ _ c. omega (arith, c.fits)) (λ _ _ _ c. omega (arith, c.fits)) (λ _ c. omega (arith, c.fits)) (λ _ _ _ c. omega (arith, c.fits))

-- The table's outcome is the one that the page's relation gives, and the relation gives no other. One way by the chain of choices, row
-- by row; the other by the rows as equations.
-- Assumes nothing.
use Prim.Native.Nat.{ℕ}
use mathlib.Core.Path.{◌≡◌, refl, sym, ◌∙◌}
use mathlib.Core.List.{[], ◌∷◌}
use mathlib.Core.Logic.{◌≢◌}
use native.Mathlib.Decide.{ℕ_discrete}
use native.Mathlib.Omega.{arith}
use Rattle.lists.proofs.ChoiceLaws.{pick_by, not_not}
use Rattle.log_format.specs.Events.{aborts}
use Rattle.scheduler_rules.specs.Model.{Model, dropped}
use Rattle.scheduler_rules.specs.Table.{Outcome, Good, good?, answer, overlaid, fine, table}
use Rattle.scheduler_rules.specs.Table.{Row2, Row8}
use Rattle.scheduler_rules.specs.Table.{row2, row3, row4, row5, row6, row7, row8, row9, row10}
use Rattle.scheduler_rules.specs.Replies.{Passed, Given}
use Rattle.scheduler_rules.specs.Replies.{given2, given3, given4, given5, given6, given7, given9, given10, given8, began, read, written, committed, aborted}
use Rattle.scheduler_rules.specs.declared.Op.{Op}
use Rattle.scheduler_rules.proofs.Rows.{due_late, fine_begin, fine_read, fine_write, fine_commit, fine_abort}
use Rattle.scheduler_rules.proofs.Rows.{is2, is3, is4, is5, is6, is7, is9, is10, is8, is0}

-- what has passed row 2 is good
pub good : (op : Op) (m : Model) → ¬ Row2 op m → Good op
good op m n = not_not (good? op) n

module _ (room : ℕ) (op : Op) (m : Model) where
  -- code 0, by kind: a good one is one of five
  given0 : Passed room op m → ¬ Row8 op m → Given room op m (fine op m)
  given0 p n8 =
      elim (ℕ_discrete op.kind 1) [
        | yes h ↦ rw (fine_begin op m h) (began p h)
        | no n1 ↦
            elim (ℕ_discrete op.kind 2) [
              | yes h ↦ rw (fine_read op m h) (read p h)
              | no n2 ↦
                  elim (ℕ_discrete op.kind 3) [
                    | yes h ↦ rw (fine_write op m h n8) (written p n8 h)
                    | no n3 ↦
                        elim (ℕ_discrete op.kind 4) [
                          | yes h ↦ rw (fine_commit op m h) (committed p h)
                          | no n4 ↦
                              (let g = (good op m p.not2).known in let h : op.kind ≡ 5 = omega arith in rw (fine_abort op m h) (aborted p h))
                        ]
                  ]
            ]
      ]

  -- the table answers as the page's relation says
  pub replies : Given room op m (table room op m)
  unfolding table
  replies =
      pick_by (Given room op m) (row2 op m) given2 λ n2.
      pick_by (Given room op m) (row3 op m) (given3 n2) λ n3.
      pick_by (Given room op m) (row4 op m) (given4 n2 n3) λ n4.
      pick_by (Given room op m) (row5 op m) (given5 n2 n3 n4) λ n5.
      pick_by (Given room op m) (row6 op m) (given6 n2 n3 n4 n5) λ n6.
      pick_by (Given room op m) (row7 op m) (given7 n2 n3 n4 n5 n6) λ n7.
      pick_by (Given room op m) (row9 op m) (given9 n2 n3 n4 n5 n6 n7) λ n9.
      pick_by (Given room op m) (row10 room op m) (given10 n2 n3 n4 n5 n6 n7 n9) λ n10.
      let p : Passed room op m = record { not2 = n2; not3 = n3; not4 = n4; not5 = n5; not6 = n6; not7 = n7; not9 = n9; not10 = n10 } in
      pick_by (Given room op m) (row8 op m) (λ l. rw (due_late op m l) (given8 p l)) (given0 p)

  -- where no row before 8 applies
  is_late : Passed room op m → (t : Row8 op m) → table room op m ≡ answer 8 (overlaid op m).mark 0 (dropped op.stamp.0 m) (aborts op.stamp.0 1 ∷ [])
  is_late p = is8 room op m p.not2 p.not3 p.not4 p.not5 p.not6 p.not7 p.not9 p.not10

  is_fine : Passed room op m → ¬ Row8 op m → table room op m ≡ fine op m
  is_fine p = is0 room op m p.not2 p.not3 p.not4 p.not5 p.not6 p.not7 p.not9 p.not10

  other : {n : ℕ} → op.kind ≡ n → n ≢ 3 → ¬ Row8 op m
  other e n t = n (sym e ∙ t.0)

  -- and the relation allows no other outcome
  pub replies_only : {o : Outcome} → Given room op m o → table room op m ≡ o
  replies_only (given2 t) = is2 room op m t
  replies_only (given3 n2 t) = is3 room op m n2 t
  replies_only (given4 n2 n3 t) = is4 room op m n2 n3 t
  replies_only (given5 n2 n3 n4 t) = is5 room op m n2 n3 n4 t
  replies_only (given6 n2 n3 n4 n5 t) = is6 room op m n2 n3 n4 n5 t
  replies_only (given7 n2 n3 n4 n5 n6 t) = is7 room op m n2 n3 n4 n5 n6 t
  replies_only (given9 n2 n3 n4 n5 n6 n7 t) = is9 room op m n2 n3 n4 n5 n6 n7 t
  replies_only (given10 n2 n3 n4 n5 n6 n7 n9 t) = is10 room op m n2 n3 n4 n5 n6 n7 n9 t
  replies_only (given8 p t) = is_late p t
  replies_only (began p h) = is_fine p (other h (omega arith)) ∙ fine_begin op m h
  replies_only (read p h) = is_fine p (other h (omega arith)) ∙ fine_read op m h
  replies_only (written p n8 h) = is_fine p n8 ∙ fine_write op m h n8
  replies_only (committed p h) = is_fine p (other h (omega arith)) ∙ fine_commit op m h
  replies_only (aborted p h) = is_fine p (other h (omega arith)) ∙ fine_abort op m h

  -- code 0 is the last row's
  pub zero_is_fine : (table room op m).reply.code ≡ 0 → table room op m ≡ fine op m
  zero_is_fine = go (replies)
    where
      go : {o : Outcome} → Given room op m o → o.reply.code ≡ 0 → table room op m ≡ fine op m
      go (given2 t) e = absurd (omega arith)
      go (given3 n2 t) e = absurd (omega arith)
      go (given4 n2 n3 t) e = absurd (omega arith)
      go (given5 n2 n3 n4 t) e = absurd (omega arith)
      go (given6 n2 n3 n4 n5 t) e = absurd (omega arith)
      go (given7 n2 n3 n4 n5 n6 t) e = absurd (omega arith)
      go (given9 n2 n3 n4 n5 n6 n7 t) e = absurd (omega arith)
      go (given10 n2 n3 n4 n5 n6 n7 n9 t) e = absurd (omega arith)
      go (given8 p t) e = absurd (omega arith)
      go (began p h) e = is_fine p (other h (omega arith))
      go (read p h) e = is_fine p (other h (omega arith))
      go (written p n8 h) e = is_fine p n8
      go (committed p h) e = is_fine p (other h (omega arith))
      go (aborted p h) e = is_fine p (other h (omega arith))

  -- whatever writes a record is well-formed
  pub due_good : (table room op m).due ≢ [] → Good op
  due_good = go (replies)
    where
      go : {o : Outcome} → Given room op m o → o.due ≢ [] → Good op
      go (given2 t) n = absurd (n refl)
      go (given3 n2 t) n = absurd (n refl)
      go (given4 n2 n3 t) n = absurd (n refl)
      go (given5 n2 n3 n4 t) n = absurd (n refl)
      go (given6 n2 n3 n4 n5 t) n = absurd (n refl)
      go (given7 n2 n3 n4 n5 n6 t) n = absurd (n refl)
      go (given9 n2 n3 n4 n5 n6 n7 t) n = absurd (n refl)
      go (given10 n2 n3 n4 n5 n6 n7 n9 t) n = absurd (n refl)
      go (given8 p t) n = good op m p.not2
      go (began p h) n = good op m p.not2
      go (read p h) n = good op m p.not2
      go (written p n8 h) n = good op m p.not2
      go (committed p h) n = good op m p.not2
      go (aborted p h) n = good op m p.not2

-- The reply table row by row: which outcome each row gives where no earlier row applies, and the record due by kind. Each is the chain
-- of choices with the tests before it failed and its own passed.
-- Assumes nothing.
use Prim.Native.Nat.{ℕ, ◌+◌, ◌<◌}
use mathlib.Core.Path.{◌≡◌, ap, ◌∙◌}
use mathlib.Core.List.{[], ◌∷◌}
use mathlib.Core.Logic.{◌≢◌}
use native.Mathlib.Omega.{arith}
use Rattle.lists.proofs.ChoiceLaws.{pick_yes, pick_no}
use Rattle.log_format.specs.Events.{Event, begins, reads, writes, commits, aborts, size}
use Rattle.scheduler_rules.specs.Model.{Model, begun, got, stored, ended, dropped}
use Rattle.scheduler_rules.specs.Table.{answer, refuse, seen, overlaid, due, fine, table}
use Rattle.scheduler_rules.specs.Table.{Row2, Row3, Row4, Row5, Row6, Row7, Row8, Row9, Row10}
use Rattle.scheduler_rules.specs.declared.Op.{Op}

module _ (op : Op) (m : Model) where
  -- ---- the record due

  pub due_begin : op.kind ≡ 1 → due op m ≡ begins op.stamp.0
  unfolding due
  due_begin h = pick_yes _ _ _ h

  pub due_read : op.kind ≡ 2 → due op m ≡ reads op.stamp.0 op.item (seen op m).stamp (seen op m).value
  unfolding due
  due_read h = let n1 : op.kind ≢ 1 = omega arith in pick_no _ _ _ n1 ∙ pick_yes _ _ _ h

  pub due_late : Row8 op m → due op m ≡ aborts op.stamp.0 1
  unfolding due
  due_late l = let h = l.0 in let n1 : op.kind ≢ 1 = omega arith in let n2 : op.kind ≢ 2 = omega arith in pick_no _ _ _ n1 ∙ pick_no _ _ _ n2 ∙ pick_yes _ _ _ l

  pub due_write : op.kind ≡ 3 → ¬ Row8 op m → due op m ≡ writes op.stamp.0 op.item op.value
  unfolding due
  due_write h n8 = let n1 : op.kind ≢ 1 = omega arith in let n2 : op.kind ≢ 2 = omega arith in pick_no _ _ _ n1 ∙ pick_no _ _ _ n2 ∙ pick_no _ _ _ n8 ∙ pick_yes _ _ _ h

  pub due_commit : op.kind ≡ 4 → due op m ≡ commits op.stamp.0
  unfolding due
  due_commit h =
      let n1 : op.kind ≢ 1 = omega arith in let n2 : op.kind ≢ 2 = omega arith in let n3 : op.kind ≢ 3 = omega arith in
      let n8 : ¬ Row8 op m = λ l. n3 l.0 in
      pick_no _ _ _ n1 ∙ pick_no _ _ _ n2 ∙ pick_no _ _ _ n8 ∙ pick_no _ _ _ n3 ∙ pick_yes _ _ _ h

  pub due_abort : op.kind ≡ 5 → due op m ≡ aborts op.stamp.0 0
  unfolding due
  due_abort h =
      let n1 : op.kind ≢ 1 = omega arith in let n2 : op.kind ≢ 2 = omega arith in let n3 : op.kind ≢ 3 = omega arith in let n4 : op.kind ≢ 4 = omega arith in
      let n8 : ¬ Row8 op m = λ l. n3 l.0 in
      pick_no _ _ _ n1 ∙ pick_no _ _ _ n2 ∙ pick_no _ _ _ n8 ∙ pick_no _ _ _ n3 ∙ pick_no _ _ _ n4

  -- ---- code 0, by kind

  pub fine_begin : op.kind ≡ 1 → fine op m ≡ answer 0 0 0 (begun op.stamp.0 m) (begins op.stamp.0 ∷ [])
  unfolding fine
  fine_begin h = pick_yes _ _ _ h ∙ ap (λ (e : Event). answer 0 0 0 (begun op.stamp.0 m) (e ∷ [])) (due_begin h)

  pub fine_read : op.kind ≡ 2 → fine op m
      ≡ answer 0 (seen op m).stamp (seen op m).value (got op.stamp.0 op.item (seen op m).stamp m)
      (reads op.stamp.0 op.item (seen op m).stamp (seen op m).value ∷ [])
  unfolding fine
  fine_read h =
      let n1 : op.kind ≢ 1 = omega arith in
      pick_no _ _ _ n1 ∙ pick_yes _ _ _ h
      ∙ ap (λ (e : Event). answer 0 (seen op m).stamp (seen op m).value (got op.stamp.0 op.item (seen op m).stamp m) (e ∷ [])) (due_read h)

  pub fine_write : op.kind ≡ 3 → ¬ Row8 op m → fine op m ≡ answer 0 0 0 (stored op.stamp.0 op.item op.value m) (writes op.stamp.0 op.item op.value ∷ [])
  unfolding fine
  fine_write h n8 =
      let n1 : op.kind ≢ 1 = omega arith in let n2 : op.kind ≢ 2 = omega arith in
      pick_no _ _ _ n1 ∙ pick_no _ _ _ n2 ∙ pick_yes _ _ _ h ∙ ap (λ (e : Event). answer 0 0 0 (stored op.stamp.0 op.item op.value m) (e ∷ [])) (due_write h n8)

  pub fine_commit : op.kind ≡ 4 → fine op m ≡ answer 0 0 0 (ended op.stamp.0 m) (commits op.stamp.0 ∷ [])
  unfolding fine
  fine_commit h =
      let n1 : op.kind ≢ 1 = omega arith in let n2 : op.kind ≢ 2 = omega arith in let n3 : op.kind ≢ 3 = omega arith in
      pick_no _ _ _ n1 ∙ pick_no _ _ _ n2 ∙ pick_no _ _ _ n3 ∙ pick_yes _ _ _ h ∙ ap (λ (e : Event). answer 0 0 0 (ended op.stamp.0 m) (e ∷ [])) (due_commit h)

  pub fine_abort : op.kind ≡ 5 → fine op m ≡ answer 0 0 0 (dropped op.stamp.0 m) (aborts op.stamp.0 0 ∷ [])
  unfolding fine
  fine_abort h =
      let n1 : op.kind ≢ 1 = omega arith in let n2 : op.kind ≢ 2 = omega arith in let n3 : op.kind ≢ 3 = omega arith in let n4 : op.kind ≢ 4 = omega arith in
      pick_no _ _ _ n1 ∙ pick_no _ _ _ n2 ∙ pick_no _ _ _ n3 ∙ pick_no _ _ _ n4 ∙ ap (λ (e : Event). answer 0 0 0 (dropped op.stamp.0 m) (e ∷ [])) (due_abort h)

-- ---- the rows, each when no earlier one applies

module _ (room : ℕ) (op : Op) (m : Model) where
  -- whether the record due fits, by its size
  pub tight : (e : Event) → due op m ≡ e → room < m.used + size e → Row10 room op m
  tight e q l = rw q l

  pub roomy : (e : Event) → due op m ≡ e → ¬ (room < m.used + size e) → ¬ Row10 room op m
  roomy e q n l = n (rw q at l)

  pub is2 : Row2 op m → table room op m ≡ refuse 2 m
  unfolding table
  is2 t = pick_yes _ _ _ t

  pub is3 : ¬ Row2 op m → Row3 op m → table room op m ≡ refuse 3 m
  unfolding table
  is3 n2 t = pick_no _ _ _ n2 ∙ pick_yes _ _ _ t

  pub is4 : ¬ Row2 op m → ¬ Row3 op m → Row4 op m → table room op m ≡ refuse 4 m
  unfolding table
  is4 n2 n3 t = pick_no _ _ _ n2 ∙ pick_no _ _ _ n3 ∙ pick_yes _ _ _ t

  pub is5 : ¬ Row2 op m → ¬ Row3 op m → ¬ Row4 op m → Row5 op m → table room op m ≡ refuse 5 m
  unfolding table
  is5 n2 n3 n4 t = pick_no _ _ _ n2 ∙ pick_no _ _ _ n3 ∙ pick_no _ _ _ n4 ∙ pick_yes _ _ _ t

  pub is6 : ¬ Row2 op m → ¬ Row3 op m → ¬ Row4 op m → ¬ Row5 op m → Row6 op m → table room op m ≡ answer 6 (seen op m).stamp 0 m []
  unfolding table
  is6 n2 n3 n4 n5 t = pick_no _ _ _ n2 ∙ pick_no _ _ _ n3 ∙ pick_no _ _ _ n4 ∙ pick_no _ _ _ n5 ∙ pick_yes _ _ _ t

  pub is7 : ¬ Row2 op m → ¬ Row3 op m → ¬ Row4 op m → ¬ Row5 op m → ¬ Row6 op m → Row7 op m → table room op m ≡ refuse 7 m
  unfolding table
  is7 n2 n3 n4 n5 n6 t = pick_no _ _ _ n2 ∙ pick_no _ _ _ n3 ∙ pick_no _ _ _ n4 ∙ pick_no _ _ _ n5 ∙ pick_no _ _ _ n6 ∙ pick_yes _ _ _ t

  pub is9 : ¬ Row2 op m → ¬ Row3 op m → ¬ Row4 op m → ¬ Row5 op m → ¬ Row6 op m → ¬ Row7 op m → Row9 op m → table room op m ≡ refuse 9 m
  unfolding table
  is9 n2 n3 n4 n5 n6 n7 t = pick_no _ _ _ n2 ∙ pick_no _ _ _ n3 ∙ pick_no _ _ _ n4 ∙ pick_no _ _ _ n5 ∙ pick_no _ _ _ n6 ∙ pick_no _ _ _ n7 ∙ pick_yes _ _ _ t

  pub is10 : ¬ Row2 op m → ¬ Row3 op m → ¬ Row4 op m → ¬ Row5 op m → ¬ Row6 op m → ¬ Row7 op m → ¬ Row9 op m → Row10 room op m → table room op m ≡ refuse 10 m
  unfolding table
  is10 n2 n3 n4 n5 n6 n7 n9 t = pick_no _ _ _ n2 ∙ pick_no _ _ _ n3 ∙ pick_no _ _ _ n4 ∙ pick_no _ _ _ n5 ∙ pick_no _ _ _ n6 ∙ pick_no _ _ _ n7 ∙ pick_no _ _ _ n9 ∙ pick_yes _ _ _ t

  pub is8 : ¬ Row2 op m → ¬ Row3 op m → ¬ Row4 op m → ¬ Row5 op m → ¬ Row6 op m → ¬ Row7 op m → ¬ Row9 op m → ¬ Row10 room op m → Row8 op m
      → table room op m ≡ answer 8 (overlaid op m).mark 0 (dropped op.stamp.0 m) (aborts op.stamp.0 1 ∷ [])
  unfolding table
  is8 n2 n3 n4 n5 n6 n7 n9 n10 t =
      pick_no _ _ _ n2 ∙ pick_no _ _ _ n3 ∙ pick_no _ _ _ n4 ∙ pick_no _ _ _ n5 ∙ pick_no _ _ _ n6 ∙ pick_no _ _ _ n7 ∙ pick_no _ _ _ n9 ∙ pick_no _ _ _ n10 ∙ pick_yes _ _ _ t
      ∙ ap (λ (e : Event). answer 8 (overlaid op m).mark 0 (dropped op.stamp.0 m) (e ∷ [])) (due_late op m t)

  pub is0 : ¬ Row2 op m → ¬ Row3 op m → ¬ Row4 op m → ¬ Row5 op m → ¬ Row6 op m → ¬ Row7 op m → ¬ Row9 op m → ¬ Row10 room op m → ¬ Row8 op m → table room op m ≡ fine op m
  unfolding table
  is0 n2 n3 n4 n5 n6 n7 n9 n10 n8 =
      pick_no _ _ _ n2 ∙ pick_no _ _ _ n3 ∙ pick_no _ _ _ n4 ∙ pick_no _ _ _ n5 ∙ pick_no _ _ _ n6 ∙ pick_no _ _ _ n7 ∙ pick_no _ _ _ n9 ∙ pick_no _ _ _ n10 ∙ pick_no _ _ _ n8

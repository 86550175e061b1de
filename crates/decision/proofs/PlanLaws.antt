-- Each plan is the table's outcome: where a test of the plan holds, so does the row of the table with its code, and no row before it.
-- Assumes nothing.
use Prim.Native.Nat.{ℕ, ◌+◌, ◌≤◌, ◌<◌}
use native.Mathlib.Omega.{arith}
use mathlib.Core.Path.{◌≡◌, refl, sym, ap, ◌∙◌}
use mathlib.Core.Bool.{Bool, true, false, not, cond, ◌&&◌}
use mathlib.Core.List.{[], ◌∷◌}
use mathlib.Core.Logic.{◌≢◌}
use lib.Dec.{eqb, leb, ltb}
use lib.ListN.{length, get_or}
use borrow.Author.Tests.{ltb-true, ltb-false, leb-true, leb-false, eqb-true, eqb-false}
use Rattle.std.specs.Prelude.{Option, Some, None, Result, Ok, Err}
use Rattle.lists.specs.Member.{◌∈◌}
use Rattle.lists.proofs.ChoiceLaws.{cond_by}
use Rattle.log_format.specs.Events.{size, aborts}
use Rattle.scheduler_rules.specs.Model.{Version, Model, max_open, max_versions, Waits, Wrote, dropped}
use Rattle.scheduler_rules.specs.Table.{Good, answer, seen, overlaid, due, table, Row2, Row3, Row4, Row5, Row6, Row7, Row8, Row9, Row10}
use Rattle.scheduler_rules.specs.declared.Op.{Op}
use Rattle.scheduler_rules.specs.declared.Reply.{Reply}
use Rattle.scheduler_rules.proofs.Rows.{
  due_begin,
  due_read,
  due_late,
  due_write,
  due_commit,
  due_abort,
  fine_begin,
  fine_read,
  fine_write,
  fine_commit,
  fine_abort,
  tight,
  roomy,
  is2,
  is3,
  is4,
  is5,
  is6,
  is7,
  is9,
  is10,
  is8,
  is0,
}
use Rattle.open_table.specs.Open.{holds}
use Rattle.open_table.proofs.ScanLaws.{holds_yes, holds-no}
use Rattle.version_columns.specs.Lookup.{Answers}
use Rattle.version_columns.specs.declared.Chosen.{Chosen}
use Rattle.version_columns.proofs.ChosenLaws.{chosen_own, chosen_other, chosen-beneath, chosen_at, chosen_row, chosen_positive, chosen-initial}
use Rattle.decision.specs.declared.Due.{Due}
use Rattle.decision.specs.declared.Due.TheVariants.{Begin, Read, Write, Commit, Abort}
use Rattle.decision.specs.declared.Plan.{Plan}
use Rattle.decision.specs.declared.Refusal.{Refusal}
use Rattle.decision.specs.declared.Refusal.TheVariants.{Malformed, NotAbove, TooManyOpen, NotOpen, Waits as WaitsFor, Written, TooManyVersions, NoRoom}
use Rattle.decision.specs.Refusal.{code_of, told_by}
use Rattle.decision.specs.Plans.{reply, bytes_of, fitting, if_open, waits_on, begin_plan, end_plan, read_plan, write_plan}
use Rattle.decision.specs.Decided.{Deciding, Decided, event_of, outcome_of, PlaceIs}

-- the record due takes the bytes of its event
sized : (op : Op) (r : Reply) (d : Due) → size (event_of op (record { reply = r; due = d })) ≡ bytes_of d
sized op r Begin = refl
sized op r (Read at) = refl
sized op r (Write at) = refl
sized op r Commit = refl
sized op r (Abort c) = refl

module _ (room : ℕ) (op : Op) (m : Model) (d : Deciding room op m) where
  abbrev Right : Result Plan Refusal → Type 0
  Right = Decided room op m

  refused : (e : Refusal) → table room op m ≡ answer (code_of e) (told_by e) 0 m [] → Right (Err e)
  refused e q = record { outcome = q; plan = tt }

  not2 : ¬ Row2 op m
  not2 n = n d.good

  -- a row of another kind
  off : (a b : ℕ) {X : Type 0} → op.kind ≡ a → a ≢ b → ¬ ((op.kind ≡ b) × X)
  off a b h n r = n (sym h ∙ r.0)

  -- a plan whose record is due: there is no room for it, or it is the outcome
  fitted : (r : Reply) (due_now : Due) → due op m ≡ event_of op (record { reply = r; due = due_now })
      → ¬ Row3 op m → ¬ Row4 op m → ¬ Row5 op m → ¬ Row6 op m → ¬ Row7 op m → ¬ Row9 op m
      → (¬ Row10 room op m → table room op m ≡ outcome_of op (Ok (record { reply = r; due = due_now })) m)
      → PlaceIs op (record { reply = r; due = due_now }) m
      → Right (fitting room m.used r due_now)
  fitted r due_now q n3 n4 n5 n6 n7 n9 done place =
      let s : size (event_of op (record { reply = r; due = due_now })) ≡ bytes_of due_now = sized op r due_now in
      cond_by Right (ltb room (m.used + bytes_of due_now))
      (λ e. let l : room < m.used + bytes_of due_now = ltb-true _ _ e in refused NoRoom (is10 room op m not2 n3 n4 n5 n6 n7 n9 (tight room op m _ q (rw s l))))
      (λ e. let f : m.used + bytes_of due_now ≤ room = ltb-false _ _ e in
      record { outcome = done (roomy room op m _ q (λ l. let k = rw s at l in omega arith)); plan = record { fits = rw s f; place = place } })

  pub begin_decided : op.kind ≡ 1 → (n : ℕ) → n ≡ length m.live → Right (begin_plan m.last n op.stamp.0 m.used room)
  begin_decided h n count =
      cond_by Right (leb op.stamp.0 m.last) (λ e. refused NotAbove (is3 room op m not2 (h, leb-true _ _ e))) λ e3.
      let high : m.last < op.stamp.0 = leb-false _ _ e3 in
      let n3 : ¬ Row3 op m = λ r. omega (arith, r.1) in
      cond_by Right (leb max_open n) (λ e. let l : max_open ≤ n = leb-true _ _ e in refused TooManyOpen (is4 room op m not2 n3 (h, omega arith))) λ e4.
      let few : n < max_open = leb-false _ _ e4 in
      let place : length m.live < max_open = omega arith in
      let n4 : ¬ Row4 op m = λ r. omega (arith, r.1) in
      let n5 : ¬ Row5 op m = λ r. r.0 h in
      let n6 : ¬ Row6 op m = off 1 2 h (omega arith) in
      let n7 : ¬ Row7 op m = off 1 3 h (omega arith) in
      let n8 : ¬ Row8 op m = off 1 3 h (omega arith) in
      let n9 : ¬ Row9 op m = off 1 3 h (omega arith) in
      fitted (reply 0 0 0) Begin (due_begin op m h) n3 n4 n5 n6 n7 n9 (λ n10. is0 room op m not2 n3 n4 n5 n6 n7 n9 n10 n8 ∙ fine_begin op m h) place

  -- what is not begun: 5 unless it is open
  if_opened : (r : Result Plan Refusal) → op.kind ≢ 1 → (op.stamp.0 ∈ m.live → Right r) → Right (if_open op.stamp.0 m.live r)
  if_opened r n f =
      cond_by Right (holds op.stamp.0 m.live)
      (λ e. f (holds_yes _ _ e))
      (λ e. refused NotOpen (is5 room op m not2 (λ q. n q.0) (λ q. n q.0) (n, holds-no _ _ e)))

  module _ (among : op.stamp.0 ∈ m.live) (not_begin : op.kind ≢ 1) where
    not3 : ¬ Row3 op m
    not3 r = not_begin r.0

    not4 : ¬ Row4 op m
    not4 r = not_begin r.0

    not5 : ¬ Row5 op m
    not5 r = r.1 among

    commit_open : op.kind ≡ 4 → Right (fitting room m.used (reply 0 0 0) Commit)
    commit_open h =
        let n6 : ¬ Row6 op m = off 4 2 h (omega arith) in
        let n7 : ¬ Row7 op m = off 4 3 h (omega arith) in
        let n8 : ¬ Row8 op m = off 4 3 h (omega arith) in
        let n9 : ¬ Row9 op m = off 4 3 h (omega arith) in
        fitted (reply 0 0 0) Commit (due_commit op m h) not3 not4 not5 n6 n7 n9 (λ n10. is0 room op m not2 not3 not4 not5 n6 n7 n9 n10 n8 ∙ fine_commit op m h) tt

    abort_open : op.kind ≡ 5 → Right (fitting room m.used (reply 0 0 0) (Abort 0))
    abort_open h =
        let n6 : ¬ Row6 op m = off 5 2 h (omega arith) in
        let n7 : ¬ Row7 op m = off 5 3 h (omega arith) in
        let n8 : ¬ Row8 op m = off 5 3 h (omega arith) in
        let n9 : ¬ Row9 op m = off 5 3 h (omega arith) in
        fitted (reply 0 0 0) (Abort 0) (due_abort op m h) not3 not4 not5 n6 n7 n9 (λ n10. is0 room op m not2 not3 not4 not5 n6 n7 n9 n10 n8 ∙ fine_abort op m h) (omega arith)

    module _ (v : Chosen) (a : Answers m.held op.item op.stamp.0 (get_or m.marks op.item 0) v) where
      positive : (u : Version) → u ∈ m.held → 1 ≤ u.stamp
      positive u h = (d.sound.proper u h).positive

      -- the stamp and the value met are those of the version that the read chooses
      met : (seen op m).stamp ≡ v.stamp.0
      met = ap (λ (u : Version). u.stamp) a.version

      got_value : (seen op m).value ≡ v.value
      got_value = ap (λ (u : Version). u.value) a.version

      waits_yes : waits_on op.stamp.0 v.stamp.0 m.live ≡ true → Waits op.stamp.0 (seen op m) m
      waits_yes = go (eqb v.stamp.0 op.stamp.0) refl
        where
          go : (b : Bool) → eqb v.stamp.0 op.stamp.0 ≡ b → (not b && holds v.stamp.0 m.live) ≡ true → Waits op.stamp.0 (seen op m) m
          go true e h = cc
          go false e h = ((λ q. eqb-false _ _ e (sym met ∙ q)), rw met (holds_yes _ _ h))

      waits_no : waits_on op.stamp.0 v.stamp.0 m.live ≡ false → ¬ Waits op.stamp.0 (seen op m) m
      waits_no = go (eqb v.stamp.0 op.stamp.0) refl
        where
          go : (b : Bool) → eqb v.stamp.0 op.stamp.0 ≡ b → (not b && holds v.stamp.0 m.live) ≡ false → ¬ Waits op.stamp.0 (seen op m) m
          go true e h w = w.0 (met ∙ eqb-true _ _ e)
          go false e h w = holds-no _ _ h (rw met at w.1)

      -- where the version read stands
      read_place : PlaceIs op (record { reply = reply 0 v.stamp.0 v.value; due = Read v.held }) m
      read_place = go v.held refl
        where
          go : (o : Option ℕ) → v.held ≡ o → PlaceIs op (record { reply = reply 0 v.stamp.0 v.value; due = Read o }) m
          go (Some b) t =
              let row = chosen_row _ _ _ _ v a b t in
              (chosen_at _ _ _ _ v a b t, chosen_positive _ _ _ _ v a b t positive, (ap (λ (u : Version). u.item) row, ap (λ (u : Version). u.stamp) row))
          go None f = chosen-initial _ _ _ _ v a f

      read_open : op.kind ≡ 2
          → Right (cond (waits_on op.stamp.0 v.stamp.0 m.live) (Err (WaitsFor v.stamp)) (fitting room m.used (reply 0 v.stamp.0 v.value) (Read v.held)))
      read_open h =
          cond_by Right (waits_on op.stamp.0 v.stamp.0 m.live)
          (λ e. refused (WaitsFor v.stamp) (is6 room op m not2 not3 not4 not5 (h, waits_yes e) ∙ ap (λ (n : ℕ). answer 6 n 0 m []) met)) λ e6.
          let n6 : ¬ Row6 op m = λ r. waits_no e6 r.1 in
          let n7 : ¬ Row7 op m = off 2 3 h (omega arith) in
          let n8 : ¬ Row8 op m = off 2 3 h (omega arith) in
          let n9 : ¬ Row9 op m = off 2 3 h (omega arith) in
          fitted (reply 0 v.stamp.0 v.value) (Read v.held) (due_read op m h ∙ rw (met, got_value)) not3 not4 not5 n6 n7 n9
          (λ n10. is0 room op m not2 not3 not4 not5 n6 n7 n9 n10 n8 ∙ fine_read op m h ∙ rw (met, got_value)) read_place

      write_open : op.kind ≡ 3 → (n : ℕ) → n ≡ length m.held
          → Right (cond (eqb v.stamp.0 op.stamp.0) (Err Written) (cond (ltb op.stamp.0 v.mark.0) (fitting room m.used (reply 8 v.mark.0 0) (Abort 1)) (cond (leb max_versions n) (Err TooManyVersions) (fitting room m.used (reply 0 0 0) (Write v.at)))))
      write_open h n count =
          let pos : 0 < op.stamp.0 = d.good.positive in
          let n6 : ¬ Row6 op m = off 3 2 h (omega arith) in
          cond_by Right (eqb v.stamp.0 op.stamp.0) (λ e. refused Written (is7 room op m not2 not3 not4 not5 n6 (h, chosen_own _ _ _ _ v a pos (eqb-true _ _ e)))) λ e7.
          let other : v.stamp.0 ≢ op.stamp.0 = eqb-false _ _ e7 in
          let new : ¬ Wrote op.stamp.0 op.item m.held = chosen_other _ _ _ _ v a pos other in
          let n7 : ¬ Row7 op m = λ r. new r.1 in
          let mark : (overlaid op m).mark ≡ v.mark.0 = ap (λ (u : Version). u.mark) (chosen-beneath _ _ _ _ v a pos other) in
          cond_by Right (ltb op.stamp.0 v.mark.0)
          (λ e. let above : op.stamp.0 < v.mark.0 = ltb-true _ _ e in
          let late : Row8 op m = (h, rw mark above) in
          let n9 : ¬ Row9 op m = λ r. r.1.0 late in
          fitted (reply 8 v.mark.0 0) (Abort 1) (due_late op m late) not3 not4 not5 n6 n7 n9
          (λ n10. is8 room op m not2 not3 not4 not5 n6 n7 n9 n10 late ∙ ap (λ (k : ℕ). answer 8 k 0 (dropped op.stamp.0 m) (aborts op.stamp.0 1 ∷ [])) mark) (omega arith))
          (λ e. let early : v.mark.0 ≤ op.stamp.0 = ltb-false _ _ e in
          let n8 : ¬ Row8 op m = λ r. (let l : op.stamp.0 < (overlaid op m).mark = r.1 in omega arith) in
          cond_by Right (leb max_versions n) (λ e. let l : max_versions ≤ n = leb-true _ _ e in refused TooManyVersions (is9 room op m not2 not3 not4 not5 n6 n7 (h, (n8, omega arith)))) λ e9.
          let few : n < max_versions = leb-false _ _ e9 in
          let space : length m.held < max_versions = omega arith in
          let n9 : ¬ Row9 op m = λ r. omega (arith, r.1.1) in
          fitted (reply 0 0 0) (Write v.at) (due_write op m h n8) not3 not4 not5 n6 n7 n9
          (λ n10. is0 room op m not2 not3 not4 not5 n6 n7 n9 n10 n8 ∙ fine_write op m h n8) (a.at, new, space))

  pub commit_decided : op.kind ≡ 4 → Right (end_plan Commit m.live op.stamp.0 m.used room)
  commit_decided h = let n : op.kind ≢ 1 = omega arith in if_opened _ n (λ among. commit_open among n h)

  pub abort_decided : op.kind ≡ 5 → Right (end_plan (Abort 0) m.live op.stamp.0 m.used room)
  abort_decided h = let n : op.kind ≢ 1 = omega arith in if_opened _ n (λ among. abort_open among n h)

  module _ (v : Chosen) (a : Answers m.held op.item op.stamp.0 (get_or m.marks op.item 0) v) where
    pub read_decided : op.kind ≡ 2 → Right (read_plan v m.live op.stamp.0 m.used room)
    read_decided h = let n : op.kind ≢ 1 = omega arith in if_opened _ n (λ among. read_open among n v a h)

    pub write_decided : op.kind ≡ 3 → (n : ℕ) → n ≡ length m.held → Right (write_plan v n m.live op.stamp.0 m.used room)
    write_decided h n count = let other : op.kind ≢ 1 = omega arith in if_opened _ other (λ among. write_open among other v a h n count)

-- an operation that is not well-formed
pub bad_decided : (room : ℕ) (op : Op) (m : Model) → ¬ Good op → Decided room op m (Err Malformed)
bad_decided room op m n = record { outcome = is2 room op m n; plan = tt }

-- The second walk, turn by turn, and the whole: what the map says is what the events say, so 26 and 27 come out as the log's history has them.
-- Assumes nothing.
use Prim.Native.Nat.{ℕ, ◌≤◌, ◌<◌}
use native.Mathlib.Omega.{arith}
use mathlib.Core.Path.{◌≡◌, refl, sym, ap, ◌∙◌, subst}
use mathlib.Core.List.{List, [], reverse}
use mathlib.Core.Bool.{true, false, cond}
use lib.ListN.{length}
use lib.Dec.{leb, ltb}
use borrow.Author.Tests.{leb-true, lt-ltb, le-ltb}
use Rattle.log_format.specs.Bytes.{Bytes}
use Rattle.log_format.specs.Fields.{decode_at, found}
use Rattle.log_format.specs.Whole.{max_log, header_ok}
use Rattle.log_format.specs.Events.{Event, event_of}
use Rattle.log_format.specs.declared.Record.{Record}
use Rattle.log_format.specs.declared.BadField.{BadField}
use Rattle.std.specs.Prelude.{Ok, Err, None}
use Rattle.log_format.proofs.Reading.{progress}
use Rattle.log_format.proofs.WholeLaws.{both}
use Rattle.history_rules.specs.WellFormed.{most_committed, count_commits}
use Rattle.history_rules.specs.Faults.{stage}
use Rattle.history_rules.specs.History.{Entry, fields_from, events_in, right, History, passed, refused, dangling, settled, ended, history_of}
use Rattle.history_rules.specs.Held.{stage_in, Holds}
use Rattle.history_rules.proofs.FieldSteps.{step_field, step_end, step_bad}
use Rattle.history_rules.proofs.HeldLaws.{settled_same}
use Rattle.index.specs.Index.{table_of}
use Rattle.std.specs.Prelude.{Result}
use Rattle.history_rules.specs.declared.BadLog.{BadLog}
use Rattle.history_rules.specs.declared.BadLog.TheVariants.{NoLog, TooMany, Dangling}
use Rattle.history_rules.specs.Refusals.{bad_log_code, bad_log_number}
use Rattle.history_rules.proofs.RefusalLaws.{bad_log_back}
use Rattle.history.specs.Judging.{judged_of, Lent, Walk, Walked, later, Judgement}
use Rattle.history.proofs.PassedLaws.{scanned_all, history_headed, history_unheaded, passed_parts}

-- ---- the second walk

pub settle_many : (st : ℕ → ℕ) (fs : List Entry) {k : ℕ} → k ≡ count_commits (events_in fs) → most_committed < k → Err TooMany ≡ later st fs
settle_many st fs {k} g h = rw (← g, lt-ltb most_committed k h)

-- where a place of the fields has been reached, none before it dangles
pub record Settling (s : List ℕ) (st : ℕ → ℕ) (at : ℕ) : Type 0 where
  pub rest : settled st (passed (events_in (fields_from s 4))) (fields_from s 4) ≡ settled st (passed (events_in (fields_from s 4))) (fields_from s at)
  pub within : at ≤ length s

pub settle_start : {s : List ℕ} {st : ℕ → ℕ} → 4 ≤ length s → Settling s st 4
settle_start l = record { rest = refl; within = l }

module _ {s : List ℕ} {st : ℕ → ℕ} {at : ℕ} (i : Settling s st at) where
  module _ {k : ℕ} (g : k ≡ count_commits (events_in (fields_from s 4))) (few : k ≤ most_committed) where
    ends : (a : History) → settled st (passed (events_in (fields_from s 4))) (fields_from s at) ≡ a → judged_of a ≡ later st (fields_from s 4)
    ends a e = rw (← g, le-ltb most_committed k few) (sym (ap judged_of (i.rest ∙ e)))

    -- none dangles
    pub settle_end : decode_at s at ≡ Ok None → Ok k ≡ later st (fields_from s 4)
    unfolding settled
    settle_end e = ap Ok g ∙ ends (passed (events_in (fields_from s 4))) (rw (step_end s at e))

    -- the same, where no record stands
    pub settle_broken : (x : BadField) → decode_at s at ≡ Err x → Ok k ≡ later st (fields_from s 4)
    unfolding settled
    settle_broken x e = ap Ok g ∙ ends (passed (events_in (fields_from s 4))) (rw (step_bad s at x e))

    -- this one does
    pub settle_bad : Bytes s → {r : Record} {m : ℕ} → decode_at s at ≡ found r m → dangling st (event_of r) ≡ true
        → Err (Dangling (record { 0 = at })) ≡ later st (fields_from s 4)
    unfolding settled
    settle_bad b {r} {m} e d = ends (refused 27 at) (rw (step_field s b at r m e, d))

  -- it does not
  pub settle_next : Bytes s → {r : Record} {m : ℕ} → decode_at s at ≡ found r m → dangling st (event_of r) ≡ false → Settling s st m
  unfolding settled
  settle_next b {r} {m} e d = record { rest = i.rest ∙ rw (step_field s b at r m e, d); within = (progress s b at r m e).1 }

-- ---- the whole

pub header_short : (s : List ℕ) → header_ok s ≡ true → length s ≤ max_log
header_short s h = leb-true _ _ (both (leb (length s) max_log) _ h).0

refused_passed : {X : Type 0} (c p : ℕ) (log : List Event) → refused c p ≡ passed log → X
refused_passed c p log e = let z : ◌≡◌ {A = ℕ} 0 1 = cc in absurd (omega arith)

module _ {s m : List ℕ} where
  -- 21
  pub judge_unheaded : header_ok s ≡ false → Lent m → Judgement s m (Err NoLog)
  judge_unheaded h t =
      let q = history_unheaded s h in
      record { answer = rw q; table = t.table; holds = λ log e. refused_passed 21 0 log (sym q ∙ e) }

  -- 22 to 25
  pub judge_stopped : header_ok s ≡ true → {j : Result ℕ BadLog} → Walked s m j → (x : BadLog) → j ≡ Err x → Judgement s m (Err x)
  judge_stopped h {j} w x is =
      let q : Walked s m (Err x) = subst (Walked s m) is w in
      let e : history_of s ≡ refused (bad_log_code x) (bad_log_number x) = history_headed s h ∙ ap (ended (fields_from s 4)) q.is in
      record {
        answer = ap Err (sym (bad_log_back x)) ∙ ap judged_of (sym e);
        table = q.table;
        holds = λ log g. refused_passed (bad_log_code x) (bad_log_number x) log (sym e ∙ g);
      }

  module _ (h : header_ok s ≡ true) {j : Result ℕ BadLog} (w : Walked s m j) {k : ℕ} (is : j ≡ Ok k) where
    all_right : Walk (fields_from s 4) (table_of m) (Ok k)
    all_right = rw is at w.is

    pub judge_count : k ≡ count_commits (events_in (fields_from s 4))
    judge_count = all_right.2

    -- 26 and 27, or it passes
    pub judge_settled : {v : Result ℕ BadLog} → v ≡ later (stage_in (table_of m)) (fields_from s 4) → Judgement s m v
    judge_settled {v} e =
        let fs = fields_from s 4 in
        let past = all_right.0 in
        let ok = all_right.1 in
        let held = all_right.3 in
        let q : history_of s ≡ ended fs (right past) = history_headed s h ∙ ap (ended fs) ok in
        let same : settled (stage_in (table_of m)) (passed (events_in fs)) fs ≡ settled (stage past) (passed (events_in fs)) fs =
        settled_same past (table_of m) held (passed (events_in fs)) fs in
        record {
          answer = e ∙ ap (λ (a : History). judged_of (cond (ltb most_committed (count_commits (events_in fs))) (refused 26 0) a)) same ∙ ap judged_of (sym q);
          table = w.table;
          holds = λ log g. subst (λ (l : List Event). Holds l (table_of m))
              (scanned_all [] past fs ok ∙ ap reverse (sym (passed_parts s log g).1.events)) held;
        }

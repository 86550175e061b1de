-- The answers in their order, one law for each way out of the checker.
-- Assumes nothing.
use Prim.Native.Nat.{ℕ, ◌*◌, ◌≤◌, ◌<◌}
use mathlib.Core.Path.{◌≡◌, refl, sym}
use mathlib.Core.List.{List, []}
use mathlib.Core.Bool.{true, false}
use lib.ListN.{length}
use borrow.Author.Tests.{lt-ltb, le-ltb}
use Rattle.log_format.specs.Bytes.{splice}
use Rattle.log_format.specs.Events.{Event}
use Rattle.history_rules.specs.WellFormed.{count_commits}
use Rattle.history_rules.specs.History.{passed, refused, history_of}
use Rattle.serial_theory.specs.Judged.{verdict}
use Rattle.order_rules.specs.Fields.{vs_of}
use Rattle.order_rules.specs.Reading.{fields_of}
use Rattle.order_rules.specs.Right.{right_order}
use Rattle.std.specs.Prelude.{Err}
use Rattle.history_rules.specs.declared.BadLog.{BadLog}
use Rattle.history_rules.specs.Refusals.{bad_log_code, bad_log_number}
use Rattle.checker_rules.specs.declared.Refusal.TheVariants.{Log, BadOrder, NoRoom}
use Rattle.checker_rules.specs.Refusals.{refusal_with}
use Rattle.checker_rules.proofs.RefusalLaws.{refusal_back}
use Rattle.checker_rules.specs.Answers.{no, judged, answer_for, CheckIs}

-- a splice of nothing changes nothing
pub splice_none : (b : List ℕ) → splice b 0 [] ≡ b
unfolding splice
splice_none b = refl

module _ (log order b : List ℕ) where
  -- a refusal writes nothing
  refusal : (c n : ℕ) → answer_for log order (length b) ≡ no c n → CheckIs log order b (Err (refusal_with c n)) b
  refusal c n e = record { answer = rw e; bytes = rw e (sym (splice_none b)) }

  -- 21 to 27
  pub history_refused : (e : BadLog) → history_of log ≡ refused (bad_log_code e) (bad_log_number e) → CheckIs log order b (Err (Log e)) b
  unfolding answer_for
  history_refused e h = rw (← refusal_back (Log e)) (refusal (bad_log_code e) (bad_log_number e) (rw h))

  module _ (es : List Event) (h : history_of log ≡ passed es) where
    -- 28
    pub order_refused : right_order es order ≡ false → CheckIs log order b (Err BadOrder) b
    unfolding answer_for
    order_refused w = refusal 28 0 (rw (h, w))

    module _ (w : right_order es order ≡ true) where
      -- 29
      pub room_refused : length b < 4 * count_commits es → CheckIs log order b (Err NoRoom) b
      unfolding answer_for
      room_refused l = refusal 29 0 (rw (h, w, lt-ltb _ _ l))

      -- 0 and 30
      pub judged-answer : 4 * count_commits es ≤ length b → answer_for log order (length b) ≡ judged (verdict es (vs_of (fields_of order)))
      unfolding answer_for
      judged-answer l = rw (h, w, le-ltb _ _ l)

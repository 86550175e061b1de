-- The ways out of the order call; and that the order it writes is right for the log, so that the checker does not refuse it with 28.
-- Assumes nothing.
use Prim.Native.Nat.{ℕ, ◌≤◌, ◌<◌}
use mathlib.Core.Path.{◌≡◌, sym}
use mathlib.Core.List.{List}
use lib.ListN.{length}
use borrow.Author.Tests.{lt-ltb, le-ltb}
use Rattle.log_format.specs.Bytes.{splice}
use Rattle.log_format.specs.Events.{Event}
use Rattle.history_rules.specs.History.{passed, refused, history_of}
use Rattle.order_rules.specs.Timestamps.{timestamp_order}
use Rattle.std.specs.Prelude.{Ok, Err}
use Rattle.history_rules.specs.declared.BadLog.{BadLog}
use Rattle.history_rules.specs.History.{History}
use Rattle.history_rules.specs.Refusals.{bad_log_code, bad_log_number}
use Rattle.checker_rules.specs.declared.Refusal.TheVariants.{Log, NoRoom}
use Rattle.checker_rules.specs.Refusals.{refusal_with}
use Rattle.checker_rules.specs.Orders.{Order, order_by, code_for, number_for, ordered_of, ordered_code, ordered_number}
use Rattle.checker_rules.proofs.RefusalLaws.{refusal_back, history_keeps}
use mathlib.Core.Bool.{Bool, true, false, cond}
use mathlib.Core.Path.{refl}
use lib.Dec.{ltb}
use Rattle.checker_rules.specs.Orders.{none, wrote, order_for, OrderIs}
use Rattle.checker_rules.proofs.CheckLaws.{splice_none}

module _ (log b : List ℕ) where
  refusal : (c n : ℕ) → order_for log (length b) ≡ none c n → OrderIs log b (Err (refusal_with c n)) b
  refusal c n e = record { answer = rw e; bytes = rw e (sym (splice_none b)) }

  -- 21 to 27
  pub history_refused : (e : BadLog) → history_of log ≡ refused (bad_log_code e) (bad_log_number e) → OrderIs log b (Err (Log e)) b
  unfolding order_for
  history_refused e h = rw (← refusal_back (Log e)) (refusal (bad_log_code e) (bad_log_number e) (rw h))

  module _ (es : List Event) (h : history_of log ≡ passed es) where
    -- 29
    pub room_refused : length b < length (timestamp_order es) → OrderIs log b (Err NoRoom) b
    unfolding order_for
    room_refused l = refusal 29 0 (rw (h, lt-ltb _ _ l))

    -- 0
    pub written : length (timestamp_order es) ≤ length b → order_for log (length b) ≡ wrote (timestamp_order es)
    unfolding order_for
    written l = rw (h, le-ltb _ _ l)

    pub order-written : length (timestamp_order es) ≤ length b → (n : ℕ) (b' : List ℕ) → n ≡ length (timestamp_order es)
        → b' ≡ splice b 0 (timestamp_order es) → OrderIs log b (Ok n) b'
    order-written l n b' e q = let w = written l in record { answer = rw (w, e); bytes = rw w q }

-- what is answered has the page's code and number
pub record Told (o : Order) : Type 0 where
  pub code : ordered_code (ordered_of o) ≡ code_for o
  pub number : ordered_number (ordered_of o) ≡ number_for o

pub order_told : (log : List ℕ) (room : ℕ) → Told (order_for log room)
unfolding order_for
order_told log room = by_history (history_of log) refl
  where
    written_told : (log : List Event) (t : Bool) → Told (cond t (none 29 0) (wrote (timestamp_order log)))
    written_told log true = record { code = refl; number = refl }
    written_told log false = record { code = refl; number = refl }

    by_history : (h : History) → history_of log ≡ h → Told (order_by room h)
    by_history (refused c p) e = let k = history_keeps log c p e in record { code = k.code; number = k.number }
    by_history (passed es) e = written_told es (ltb room (length (timestamp_order es)))

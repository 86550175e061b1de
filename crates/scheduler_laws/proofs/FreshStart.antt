-- What the contracts of fresh and call allow: one answer for each input; and a fresh start in under 4 bytes, whose state is damaged over
-- every buffer, for it uses under 4 bytes.
-- Assumes nothing.
use Prim.Native.Nat.{ℕ, ◌<◌}
use mathlib.Core.Path.{◌≡◌, refl, sym, ◌∙◌, ap}
use mathlib.Core.Bool.{false}
use mathlib.Core.List.{List}
use lib.ListN.{length}
use borrow.Author.Tests.{lt-leb}
use Rattle.scheduler_rules.specs.declared.Op.{Op}
use Rattle.decision.specs.Decided.{undamaged_in}
use Rattle.scheduler.specs.declared.State.{State}
use Rattle.scheduler.specs.declared.Called.{Called}
use Rattle.scheduler.specs.State.{state_of, nothing, undamaged}
use Rattle.scheduler.specs.Calls.{room_of, reply_to, state_after, log_after, CallIs, FreshIs}
use Rattle.scheduler_laws.specs.Reach.{used_of}
use Rattle.scheduler_laws.proofs.OneCall.{damaged_stays}

-- ---- one answer

called_eq : {r t : Called} → r.state ≡ t.state → r.reply ≡ t.reply → r ≡ t
called_eq p q = λ i. record { state = p i; reply = q i }

-- any two outcomes that the contract of call allows for one input are equal
pub call_one : {s : State} {op : Op} {b : List ℕ} {r t : Called} {b' c' : List ℕ} → CallIs s op b r b' → CallIs s op b t c' → (r ≡ t) × (b' ≡ c')
call_one v w = (called_eq (v.state ∙ sym w.state) (v.reply ∙ sym w.reply), v.log ∙ sym w.log)

-- and so are any two of fresh
pub fresh_one : {b : List ℕ} {r t : Called} {b' c' : List ℕ} → FreshIs b r b' → FreshIs b t c' → (r ≡ t) × (b' ≡ c')
fresh_one v w = (called_eq (v.state ∙ sym w.state) (v.reply ∙ sym w.reply), v.log ∙ sym w.log)

-- ---- too few bytes

-- the empty state is damaged, whatever the buffer: it uses under 4 bytes
pub empty_damaged : (room : ℕ) → undamaged (state_of nothing) room ≡ false
unfolding undamaged_in
empty_damaged room = refl

module _ {b : List ℕ} {r : Called} {b' : List ℕ} (w : FreshIs b r b') (short : length b < 4) where
  -- starting fresh in under 4 bytes answers 10, writes nothing and gives the empty state with 0 bytes used
  pub fresh_refused : (r.reply.code ≡ 10) × (b' ≡ b) × (r.state ≡ state_of nothing) × (used_of r.state ≡ 0)
  fresh_refused =
      let h = lt-leb 4 (length b) short in
      let e : r.state ≡ state_of nothing = w.state ∙ rw h in
      (rw (w.reply, h), w.log ∙ rw h, e, ap used_of e)

  -- so later calls answer 1, over any buffer, and leave state and buffer as they are
  pub later_damaged : (op : Op) (c : List ℕ) → ((reply_to r.state op c).code ≡ 1) × (state_after r.state op c ≡ r.state) × (log_after r.state op c ≡ c)
  later_damaged op c =
      let e : r.state ≡ state_of nothing = fresh_refused.2 in
      let h : undamaged r.state (room_of c) ≡ false = rw e (empty_damaged (room_of c)) in
      let d = damaged_stays r.state op c h in
      (rw d.0, d.1, d.2)

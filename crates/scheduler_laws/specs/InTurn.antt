-- Calls one after the other, each with the state and the buffer that the one before left, in the very words of the contract of call.
-- Assumes nothing.
use Rattle.std.specs.Prelude.{ℕ, List, [], ◌∷◌}
use Rattle.scheduler_rules.specs.declared.Op.{Op}
use Rattle.scheduler_rules.specs.declared.Reply.{Reply}
use Rattle.scheduler.specs.declared.State.{State}
use Rattle.scheduler.specs.Calls.{reply_to, state_after, log_after}

-- what calls answer, first to last, and the state and the buffer that they leave
pub record Ran : Type 0 where
  pub replies : List Reply
  pub state : State
  pub buffer : List ℕ

-- calls with these operations in turn, from the state s over the buffer b
abbrev pub calls : List Op → State → List ℕ → Ran
calls [] s b = record { replies = []; state = s; buffer = b }
calls (op ∷ ops) s b = let r = calls ops (state_after s op b) (log_after s op b) in record { replies = reply_to s op b ∷ r.replies; state = r.state; buffer = r.buffer }

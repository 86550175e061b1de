-- The end of demand 3: the log of a fresh start and any calls, given to the calls of the checker as bytes. `checked`, in proofs/CheckedLaws.antt, has
-- it wherever calls lead.
-- Assumes nothing.
use Rattle.std.specs.Prelude.{ℕ, ◌*◌, ◌≤◌, ◌≡◌, List, length, take}
use Rattle.scheduler.specs.declared.State.{State}
use Rattle.scheduler_laws.specs.Reach.{used_of}
use Rattle.history_rules.specs.WellFormed.{most_committed, count_commits}
use Rattle.graph_theory.specs.Verdict.{accepted}
use Rattle.serial_theory.specs.Judged.{committed}
use Rattle.order_rules.specs.Timestamps.{timestamp_order}
use Rattle.checker_rules.specs.Answers.{judged, answer_for}
use Rattle.checker_rules.specs.Orders.{wrote, order_for}
use Rattle.end_to_end.specs.Demand3.{told}

-- with at most 256 committed, and a buffer a with room
pub record Checked (s : State) (b a : List ℕ) : Type 0 where
  -- the order call writes the timestamp order of the bytes used
  pub orders : count_commits (told s b) ≤ most_committed → length (timestamp_order (told s b)) ≤ length a
      → order_for (take (used_of s) b) (length a) ≡ wrote (timestamp_order (told s b))
  -- and with it the checker accepts these bytes, and returns the committed stamps, rising
  pub accepts : count_commits (told s b) ≤ most_committed → 4 * count_commits (told s b) ≤ length a
      → answer_for (take (used_of s) b) (timestamp_order (told s b)) (length a) ≡ judged (accepted (committed (told s b)))

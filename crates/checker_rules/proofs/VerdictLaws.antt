-- What the answer says of a log, as the page promises it: for a well-formed log and version order with room, code 0 exactly when there is no
-- cycle, and then a serial order; else a cycle.
-- Assumes nothing.
use Prim.Native.Nat.{ℕ, ◌*◌, ◌≤◌}
use mathlib.Core.Path.{◌≡◌, ◌∙◌}
use mathlib.Core.List.{List}
use mathlib.Core.Logic.{◌↔◌}
use lib.ListN.{length}
use Rattle.log_format.specs.Bytes.{Bytes}
use Rattle.log_format.specs.Events.{Event}
use Rattle.history_rules.specs.WellFormed.{WellFormed, count_commits}
use Rattle.history_rules.specs.History.{passed, history_of}
use Rattle.history_rules.proofs.HistoryLaws.{passed_well}
use Rattle.graph_theory.specs.Verdict.{Accepts}
use Rattle.serial_theory.specs.Judged.{verdict, CycleOf, Judged}
use Rattle.serial_theory.proofs.JudgedLaws.{checked_verdict}
use Rattle.order_rules.specs.Fields.{vs_of}
use Rattle.order_rules.specs.Right.{RightOrder}
use Rattle.order_rules.proofs.RightLaws.{right_passes, right_fields}
use Rattle.checker_rules.specs.Answers.{judged, answer_for}
use Rattle.checker_rules.proofs.CheckLaws.{judged-answer}

-- the log and the order are well-formed, and the buffer has room: none of 21 to 29 applies
pub record Checkable (log order b : List ℕ) : Type 0 where
  pub bytes : Bytes log
  pub events : List Event
  pub passes : history_of log ≡ passed events
  pub right : RightOrder events order
  pub room : 4 * count_commits events ≤ length b

module _ (log order b : List ℕ) (c : Checkable log order b) where
  -- each item's versions, oldest first, as the order says
  abbrev pub versions : ℕ → List ℕ
  versions = vs_of c.right.fields

  well : WellFormed c.events
  well = (passed_well log c.bytes c.events c.passes).3

  -- the answer is the verdict on the log's graph
  pub answer_is : answer_for log order (length b) ≡ judged (verdict c.events versions)
  answer_is =
      judged-answer log order b c.events c.passes (right_passes c.events well order c.right) c.room
      ∙ rw (right_fields c.events well order c.right)

  -- accepted: no cycle, a serial order of all committed transactions, smallest first, as many as committed; else the stamps are a cycle,
  -- along its edges, its smallest first
  pub verdict_says : Judged c.events versions (verdict c.events versions)
  verdict_says = (checked_verdict c.events versions well c.right.versions).0

  -- accepted exactly when there is no cycle
  pub accepted_exactly : Accepts (verdict c.events versions) ↔ ((l : List ℕ) → ¬ CycleOf c.events versions l)
  accepted_exactly = (checked_verdict c.events versions well c.right.versions).1

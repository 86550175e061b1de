-- The checker's answer for a log, a version order and a buffer: the page's codes in their order, their numbers, and the stamps written.
-- Assumes nothing.
use Rattle.std.specs.Prelude.{ℕ, ◌+◌, ◌*◌, ◌≤◌, ◌<◌, ◌≡◌, List, [], cond, ltb, length}
use Rattle.log_format.specs.Bytes.{stamp_bytes, splice}
use Rattle.history_rules.specs.WellFormed.{count_commits}
use Rattle.history_rules.specs.History.{History, passed, refused, history_of}
use Rattle.graph_theory.specs.Verdict.{Verdict, accepted, cycle}
use Rattle.serial_theory.specs.Judged.{verdict}
use Rattle.order_rules.specs.Fields.{vs_of}
use Rattle.order_rules.specs.Reading.{fields_of}
use Rattle.order_rules.specs.Right.{right_order}
use Rattle.std.specs.Prelude.{Result, Ok, Err}
use Rattle.graph_theory.specs.declared.Verdict.{Verdict as Counted}
use Rattle.graph_theory.specs.declared.Verdict.TheVariants.{Accepted, Cycle}
use Rattle.checker_rules.specs.declared.Refusal.{Refusal}
use Rattle.checker_rules.specs.Refusals.{refusal_code, refusal_number, refusal_with}

-- a refusal with its code and number, or the verdict on the graph
pub data Answer : Type 0 where
  no : (code number : ℕ) → Answer
  judged : Verdict → Answer

-- after 21 to 27: 28, then 29, then the verdict
abbrev pub answer_by : (order : List ℕ) (room : ℕ) → History → Answer
answer_by order room (refused c p) = no c p
answer_by order room (passed log) =
    cond (right_order log order)
    (cond (ltb room (4 * count_commits log)) (no 29 0)
    (judged (verdict log (vs_of (fields_of order)))))
    (no 28 0)

-- the answer, where the buffer has so much room
unfoldable pub answer_for : (log order : List ℕ) (room : ℕ) → Answer
answer_for log order room = answer_by order room (history_of log)

-- the stamps that an answer writes
abbrev pub stamps_for : Answer → List ℕ
stamps_for (no c n) = []
stamps_for (judged (accepted o)) = o
stamps_for (judged (cycle c)) = c

-- the page's code and number for each answer
abbrev pub code_for : Answer → ℕ
code_for (no c n) = c
code_for (judged (accepted o)) = 0
code_for (judged (cycle c)) = 30

abbrev pub number_for : Answer → ℕ
number_for (no c n) = n
number_for (judged (accepted o)) = length o
number_for (judged (cycle c)) = length c

-- the answer as the code gives it: the verdict with how many stamps it has, or the refusal with that code and number
abbrev pub checked_of : Answer → Result Counted Refusal
checked_of (no c n) = Err (refusal_with c n)
checked_of (judged (accepted o)) = Ok (Accepted (length o))
checked_of (judged (cycle c)) = Ok (Cycle (length c))

-- the page's code and number for each case
abbrev pub checked_code : Result Counted Refusal → ℕ
checked_code (Ok (Accepted n)) = 0
checked_code (Ok (Cycle n)) = 30
checked_code (Err e) = refusal_code e

abbrev pub checked_number : Result Counted Refusal → ℕ
checked_number (Ok (Accepted n)) = n
checked_number (Ok (Cycle n)) = n
checked_number (Err e) = refusal_number e

-- checking a log and an order with the buffer b answers r and leaves b': the stamps at its front, every other byte as it was
pub record CheckIs (log order b : List ℕ) (r : Result Counted Refusal) (b' : List ℕ) : Type 0 where
  pub answer : r ≡ checked_of (answer_for log order (length b))
  pub bytes : b' ≡ splice b 0 (stamp_bytes (stamps_for (answer_for log order (length b))))

-- ---- the C call

-- code times 65,536 plus number
abbrev pub returned : Result Counted Refusal → ℕ
returned r = checked_code r * 65536 + checked_number r

-- a code and a number that can be told apart again
pub record Small (r : Result Counted Refusal) : Type 0 where
  pub code : checked_code r ≤ 30
  pub number : checked_number r < 65536

-- the C call answers one number for what checking answers, and leaves the same b'
pub record PanelIs (log order b : List ℕ) (r : ℕ) (b' : List ℕ) : Type 0 where
  pub answer : r ≡ code_for (answer_for log order (length b)) * 65536 + number_for (answer_for log order (length b))
  pub bytes : b' ≡ splice b 0 (stamp_bytes (stamps_for (answer_for log order (length b))))

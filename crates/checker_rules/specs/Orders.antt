-- What the order call answers and leaves: as the checker for 21 to 27, then 29 if the buffer is too short, else the timestamp order.
-- Assumes nothing.
use Rattle.std.specs.Prelude.{ℕ, ◌≡◌, List, [], cond, ltb, length}
use Rattle.log_format.specs.Bytes.{splice}
use Rattle.history_rules.specs.History.{History, passed, refused, history_of}
use Rattle.order_rules.specs.Timestamps.{timestamp_order}
use Rattle.std.specs.Prelude.{Result, Ok, Err}
use Rattle.checker_rules.specs.declared.Refusal.{Refusal}
use Rattle.checker_rules.specs.Refusals.{refusal_code, refusal_number, refusal_with}

-- a refusal, or the bytes of an order
pub data Order : Type 0 where
  none : (code number : ℕ) → Order
  wrote : List ℕ → Order

abbrev pub order_by : ℕ → History → Order
order_by room (refused c p) = none c p
order_by room (passed log) = cond (ltb room (length (timestamp_order log))) (none 29 0) (wrote (timestamp_order log))

-- the answer, where the buffer has so much room
unfoldable pub order_for : List ℕ → ℕ → Order
order_for log room = order_by room (history_of log)

abbrev pub bytes_for : Order → List ℕ
bytes_for (none c n) = []
bytes_for (wrote s) = s

-- the page's code and number for each answer
abbrev pub code_for : Order → ℕ
code_for (none c n) = c
code_for (wrote s) = 0

abbrev pub number_for : Order → ℕ
number_for (none c n) = n
number_for (wrote s) = length s

-- the answer as the code gives it: how many bytes, or the refusal with that code and number
abbrev pub ordered_of : Order → Result ℕ Refusal
ordered_of (none c n) = Err (refusal_with c n)
ordered_of (wrote s) = Ok (length s)

-- the page's code and number for each case
abbrev pub ordered_code : Result ℕ Refusal → ℕ
ordered_code (Ok n) = 0
ordered_code (Err e) = refusal_code e

abbrev pub ordered_number : Result ℕ Refusal → ℕ
ordered_number (Ok n) = n
ordered_number (Err e) = refusal_number e

-- writing the timestamp order of a log into b answers r and leaves b': the order at its front, every other byte as it was
pub record OrderIs (log b : List ℕ) (r : Result ℕ Refusal) (b' : List ℕ) : Type 0 where
  pub answer : r ≡ ordered_of (order_for log (length b))
  pub bytes : b' ≡ splice b 0 (bytes_for (order_for log (length b)))

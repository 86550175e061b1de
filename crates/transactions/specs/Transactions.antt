-- What a map says of the transactions of a log, and what noting a record leaves.
-- Assumes nothing.
use Rattle.std.specs.Prelude.{ℕ, ◌+◌, ◌≡◌, List, length, Option, Some, None, Result, Ok, Err, ⊤}
use Rattle.log_format.specs.Events.{Event}
use Rattle.history_rules.specs.Faults.{unbegun, running, committed, aborted, fault_by}
use Rattle.history_rules.specs.Refusals.{fault_code}
use Rattle.history_rules.specs.declared.Fault.{Fault}
use Rattle.history_rules.specs.Held.{stage_in, written_in, noted}
use Rattle.index.specs.Index.{table_of, Table, Room}
use Rattle.transactions.specs.declared.Stage.{Stage}
use Rattle.transactions.specs.declared.Stage.TheVariants.{Unbegun, Running, Committed, Aborted}

-- a stage as a table has it
abbrev pub stage_number : Stage → ℕ
stage_number Unbegun = unbegun
stage_number Running = running
stage_number Committed = committed
stage_number Aborted = aborted

-- what a transaction wrote to an item, as a table has it
abbrev pub written_number : Option ℕ → ℕ
written_number None = 0
written_number (Some v) = v + 1

-- the code of an event after those that a table has, 23 to 25, or 0
abbrev pub fault_in : (ℕ → ℕ) → Event → ℕ
fault_in table = fault_by (stage_in table) (written_in table)

-- the code of what is told of an event, 0 where it is right
abbrev pub told_code : Result ⊤ Fault → ℕ
told_code (Ok u) = 0
told_code (Err f) = fault_code f

-- after the event e was noted: a map again, of the same length and with room for at most one row less, in which e is noted
pub record Noted (m : List ℕ) (e : Event) (m' : List ℕ) : Type 0 where
  pub table : Table m'
  pub size : length m' ≡ length m
  pub room : (n : ℕ) → Room (n + 1) m → Room n m'
  pub is : (h : ℕ) → table_of m' h ≡ noted e (table_of m) h

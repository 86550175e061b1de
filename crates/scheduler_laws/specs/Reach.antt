-- The states, buffers and events that a fresh start and any calls lead to, in the very words of the contracts of fresh and call.
-- Assumes nothing.
use Rattle.std.specs.Prelude.{ℕ, ◌≤◌, ◌<◌, ◌^◌, cond, List, [], ◌++◌, map, reverse, length}
use Rattle.log_format.specs.Bytes.{splice}
use Rattle.log_format.specs.Whole.{header}
use Rattle.log_format.specs.Events.{Event, record_of}
use Rattle.log_format.specs.declared.Record.{Record}
use Rattle.scheduler_rules.specs.Model.{start}
use Rattle.scheduler_rules.specs.Table.{table}
use Rattle.scheduler_rules.specs.declared.Op.{Op}
use Rattle.scheduler.specs.declared.State.{State}
use Rattle.scheduler.specs.State.{abs, state_of, undamaged}
use Rattle.scheduler.specs.Calls.{room_of, state_after, log_after}

-- the log bytes used
abbrev pub used_of : State → ℕ
used_of s = s.core.used.0

-- an operation's four numbers fit the types that the code gives them
pub record Fits32 (op : Op) : Type 0 where
  pub kind : op.kind < 2 ^ 32
  pub stamp : op.stamp.0 < 2 ^ 32
  pub item : op.item < 2 ^ 32
  pub value : op.value < 2 ^ 32

-- the event that a call writes, if any: none where the state is damaged, else the one due by the table
abbrev pub due_to : State → Op → List ℕ → List Event
due_to s op b = cond (undamaged s (room_of b)) (table (room_of b) op (abs s)).due []

-- the states, their buffers and the events written, newest first, that starting fresh over b₀ and any calls lead to, refused ones included
pub data Reach (b₀ : List ℕ) : State → List ℕ → List Event → Type 0 where
  fresh : 4 ≤ length b₀ → Reach b₀ (state_of start) (splice b₀ 0 header) []
  called : (s : State) (b : List ℕ) (es : List Event) (op : Op) → Fits32 op → Reach b₀ s b es → Reach b₀ (state_after s op b) (log_after s op b) (due_to s op b ++ es)

-- the records of the events written, oldest first
abbrev pub oldest_first : List Event → List Record
oldest_first es = map record_of (reverse es)

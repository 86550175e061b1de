-- What keeps demand 3 from holding emptily: the logs that calls leave are many and have edges, and there are logs that no calls leave.
-- Assumes nothing.
use Rattle.std.specs.Prelude.{ℕ, ◌+◌, ◌*◌, ◌≤◌, ◌≡◌, List, [], ◌∷◌, reverse, ◌≢◌, length}
use Rattle.lists.specs.Member.{◌∈◌}
use Rattle.log_format.specs.Whole.{max_log}
use Rattle.log_format.specs.Events.{Event, begins, reads, writes, commits, aborts}
use Rattle.scheduler_rules.specs.Model.{start}
use Rattle.scheduler_rules.specs.Run.{play, begin, read, write, commit, abort}
use Rattle.scheduler_rules.specs.declared.Op.{Op}
use Rattle.scheduler.specs.declared.State.{State}
use Rattle.scheduler.specs.Calls.{room_of}
use Rattle.scheduler_laws.specs.Reach.{Fits32, Reach}
use Rattle.graph_theory.specs.Verdict.{accepted, cycle, Accepts}
use Rattle.serial_theory.specs.Edges.{VersionOrder, Edge}
use Rattle.serial_theory.specs.Serial.{SerialOrder}
use Rattle.serial_theory.specs.Judged.{committed, verdict}
use Rattle.serial_theory.specs.Cases.{order, log_a}
use Rattle.order_rules.specs.Timestamps.{timestamp_versions}
use Rattle.end_to_end.specs.Demand3.{told}

-- starting fresh over b₀ and calls lead to a log of these events, first to last
pub record Leaves (b₀ : List ℕ) (log : List Event) : Type 0 where
  pub state : State
  pub buffer : List ℕ
  pub reach : Reach b₀ state buffer (reverse log)
  pub tells : told state buffer ≡ log

-- and to one in which exactly n transactions have committed
pub record LeavesCommitted (b₀ : List ℕ) (n : ℕ) : Type 0 where
  pub log : List Event
  pub leaves : Leaves b₀ log
  pub number : length (committed log) ≡ n

-- ---- a run with edges: 2 commits before 1 does, 3 reads what 2 wrote, 4 writes and is aborted

abbrev pub out_of_turn : List Op
out_of_turn =
    begin 1 ∷ begin 2 ∷ write 1 0 5 ∷ write 2 0 6 ∷ commit 2 ∷ begin 3 ∷ read 3 0 ∷ commit 1
    ∷ begin 4 ∷ write 4 0 8 ∷ abort 4 ∷ commit 3 ∷ []

-- what it writes
abbrev pub out_of_turn_log : List Event
out_of_turn_log =
    begins 1 ∷ begins 2 ∷ writes 1 0 5 ∷ writes 2 0 6 ∷ commits 2 ∷ begins 3 ∷ reads 3 0 2 6 ∷ commits 1
    ∷ begins 4 ∷ writes 4 0 8 ∷ aborts 4 0 ∷ commits 3 ∷ []

pub record OutOfTurn : Type 0 where
  pub written : (play max_log out_of_turn start).written ≡ out_of_turn_log
  -- committed versions stand by stamp, not by commit
  pub by_stamp : timestamp_versions out_of_turn_log 0 ≡ 1 ∷ 2 ∷ []
  -- there are edges, one for the version before the one read and one for the read
  pub before : Edge out_of_turn_log (timestamp_versions out_of_turn_log) 1 2
  pub from : Edge out_of_turn_log (timestamp_versions out_of_turn_log) 2 3
  -- in the order of commit one would lead down, from 3 to 1
  pub by_commit : verdict out_of_turn_log (order (2 ∷ 1 ∷ []) []) ≡ accepted (2 ∷ 3 ∷ 1 ∷ [])

-- ---- both sides

pub record NotEmptily : Type 0 where
  -- a run of operations, as the reply table has it, is one of calls
  pub any_run : (b₀ : List ℕ) → 4 ≤ length b₀ → (ops : List Op) → ((op : Op) → op ∈ ops → Fits32 op) → Leaves b₀ (play (room_of b₀) ops start).written
  -- any number of transactions commit for which there is room: a begin and a commit take 7 bytes each
  pub any-number : (n : ℕ) (b₀ : List ℕ) → 4 + 14 * n ≤ length b₀ → 4 + 14 * n ≤ max_log → LeavesCommitted b₀ n
  -- the run with edges is one of calls
  pub with_edges : (b₀ : List ℕ) → max_log ≤ length b₀ → Leaves b₀ out_of_turn_log
  -- case A's log is not serial, in no order; no version order makes it accepted; its timestamp order shows the cycle; so no calls leave it
  pub A_not_serial : (o : List ℕ) → ¬ SerialOrder log_a o
  pub A_not_accepted : (vs : ℕ → List ℕ) → VersionOrder log_a vs → ¬ Accepts (verdict log_a vs)
  pub A_cycle : verdict log_a (timestamp_versions log_a) ≡ cycle (1 ∷ 2 ∷ [])
  pub A_not_left : (b₀ : List ℕ) (s : State) (b : List ℕ) (es : List Event) → Reach b₀ s b es → told s b ≢ log_a

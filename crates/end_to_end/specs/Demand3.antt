-- Demand 3: what holds of the log that a fresh start and any calls leave. `Reach b₀ s b es` says that starting fresh over the buffer b₀ and any
-- calls, refused ones included, lead to the state s and the buffer b, and that es are the events written, newest first; `demand3`, in
-- proofs/Demand3Laws.antt, has Demand3 for each. That it does not hold emptily is said in specs/NotEmptily.antt.
-- Assumes nothing.
use Rattle.std.specs.Prelude.{ℕ, ◌≤◌, ◌<◌, ◌≡◌, List, reverse, ◌≢◌, take, drop}
use Rattle.lists.specs.Member.{◌∈◌, Rising}
use Rattle.log_format.specs.Whole.{log_of}
use Rattle.log_format.specs.Events.{Event, events}
use Rattle.scheduler_rules.specs.declared.Op.{Op}
use Rattle.scheduler.specs.declared.State.{State}
use Rattle.scheduler.specs.State.{abs}
use Rattle.scheduler.specs.Calls.{reply_to}
use Rattle.scheduler_laws.specs.Reach.{used_of, due_to, oldest_first}
use Rattle.scheduler_laws.specs.Said.{said_by}
use Rattle.history_rules.specs.WellFormed.{most_committed, count_commits, WellFormed}
use Rattle.history_rules.specs.History.{passed, history_of}
use Rattle.graph_theory.specs.Verdict.{accepted}
use Rattle.serial_theory.specs.Edges.{Regular, VersionOrder, Edge}
use Rattle.serial_theory.specs.Serial.{SerialOrder, SerialVersions}
use Rattle.serial_theory.specs.Judged.{committed, verdict}
use Rattle.order_rules.specs.Timestamps.{timestamp_versions}

-- the events that the log bytes used tell, first to last
abbrev pub told : State → List ℕ → List Event
told s b = events (take (used_of s) b)

-- what holds of a log that timestamps order, however many transactions commit
pub record InTimestampOrder (log : List Event) : Type 0 where
  -- none of 23, 24, 25 and 27 applies
  pub regular : Regular log
  -- the timestamp order lists the committed versions, each once
  pub order : VersionOrder log (timestamp_versions log)
  -- under it each edge goes from a smaller to a larger stamp
  pub edges_rise : (i j : ℕ) → Edge log (timestamp_versions log) i j → i < j
  -- the committed stamps rise, from 1 on
  pub rising : Rising 1 (committed log)
  -- the committed transactions, run one at a time by rising stamp from all zeros, each read the values in the log
  pub serial : SerialOrder log (committed log)
  -- and the versions in the log
  pub versions : SerialVersions log (committed log)
  -- the verdict is accepted, with the stamps rising
  pub accepts : verdict log (timestamp_versions log) ≡ accepted (committed log)

-- what holds wherever a fresh start and any calls lead
pub record Demand3 (b₀ : List ℕ) (s : State) (b : List ℕ) (es : List Event) : Type 0 where
  -- a call writes the event that its reply tells of, and no other
  pub said : (op : Op) → due_to s op b ≡ said_by op (reply_to s op b)
  -- the bytes used are the header and exactly the records of the events written
  pub bytes : take (used_of s) b ≡ log_of (oldest_first es)
  -- the bytes past them are as they were
  pub rest : drop (used_of s) b ≡ drop (used_of s) b₀
  -- the bytes used tell these events
  pub tells : told s b ≡ reverse es
  -- timestamps order them, whatever was called
  pub ordered : InTimestampOrder (told s b)
  -- with at most 256 committed none of 21 to 27 applies
  pub well_formed : count_commits (told s b) ≤ most_committed → WellFormed (told s b)
  pub passes : count_commits (told s b) ≤ most_committed → history_of (take (used_of s) b) ≡ passed (told s b)
  -- the smallest open transaction never gets code 6
  pub never_waits : (op : Op) → ((i : ℕ) → i ∈ (abs s).live → op.stamp.0 ≤ i) → (reply_to s op b).code ≢ 6

-- A log that none of codes 23 to 27 refuses, said by what stands in it. `past` has the events before one, newest first; a log has its events
-- first to last.
-- Assumes nothing.
use Rattle.std.specs.Prelude.{ℕ, ◌+◌, ◌≤◌, ◌≡◌, List, [], ◌∷◌, ◌≢◌}
use Rattle.log_format.specs.Events.{Event, begins, reads, writes, commits, aborts}
use Rattle.log_format.specs.Told.{Begun, Got, Put, Puts, Done, Undone, Active}

-- the page's numbers
abbrev pub most_item : ℕ
most_item = 63

abbrev pub most_committed : ℕ
most_committed = 256

-- 25: t may read x in version j with value v: its own earlier write is the one read; version 0 has value 0; another was written earlier, with
-- this value, and not aborted earlier
pub record Readable (past : List Event) (t x j v : ℕ) : Type 0 where
  pub own : (w : ℕ) → Put t x w past → j ≡ t
  pub initial : j ≡ 0 → v ≡ 0
  pub wrote : j ≢ 0 → Put j x v past
  pub kept : j ≢ 0 → ¬ Undone j past

-- 23: t is not stamp 0, has begun and has not ended
abbrev pub Running : List Event → ℕ → Type 0
Running past t = (t ≢ 0) × Active t past

-- an event is right after those before it
abbrev pub Right : List Event → Event → Type 0
Right past (begins t) = (t ≢ 0) × (¬ Begun t past)
Right past (reads t x j v) = Running past t × ((x ≤ most_item) × Readable past t x j v)
Right past (writes t x v) = Running past t × ((x ≤ most_item) × (¬ Puts t x past))
Right past (commits t) = Running past t
Right past (aborts t c) = Running past t

-- each event of a log is right after those before it
abbrev pub AllRight : List Event → List Event → Type 0
AllRight past [] = Unit {0}
AllRight past (e ∷ log) = Right past e × AllRight (e ∷ past) log

-- how many transactions of a log commit
abbrev pub is_commit : Event → ℕ
is_commit (begins t) = 0
is_commit (reads t x j v) = 0
is_commit (writes t x v) = 0
is_commit (commits t) = 1
is_commit (aborts t c) = 0

abbrev pub count_commits : List Event → ℕ
count_commits [] = 0
count_commits (e ∷ log) = is_commit e + count_commits log

-- none of 23 to 27 applies
pub record WellFormed (log : List Event) : Type 0 where
  -- 23, 24, 25
  pub right : AllRight [] log
  -- 26
  pub few : count_commits log ≤ most_committed
  -- 27: whoever a committed transaction reads from commits
  pub from : (t x j v : ℕ) → Done t log → Got t x j v log → j ≢ 0 → Done j log

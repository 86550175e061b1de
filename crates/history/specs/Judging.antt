-- What the walks over a log answer, codes 21 to 27, and what they leave in the lent slices.
-- Assumes nothing.
use Rattle.std.specs.Prelude.{ℕ, ◌≡◌, List, [], reverse, cond, ltb, Result, Ok, Err}
use Rattle.log_format.specs.Events.{Event}
use Rattle.history_rules.specs.WellFormed.{most_committed, count_commits}
use Rattle.history_rules.specs.History.{Entry, fields_from, events_in, wrong, right, scanned, History, passed, refused, settled, history_of}
use Rattle.history_rules.specs.Held.{Holds}
use Rattle.index.specs.Index.{max_rows, table_of, Table, Room}
use Rattle.history_rules.specs.declared.BadLog.{BadLog}
use Rattle.history_rules.specs.Refusals.{bad_log_code, bad_log_number, bad_log_with}

-- ---- the answer

-- what a log is judged as, by its history: how many committed, or the refusal with that code and number
abbrev pub judged_of : History → Result ℕ BadLog
judged_of (passed log) = Ok (count_commits log)
judged_of (refused c p) = Err (bad_log_with c p)

-- the page's code for each answer
abbrev pub judged_code : Result ℕ BadLog → ℕ
judged_code (Ok n) = 0
judged_code (Err e) = bad_log_code e

-- the page's number beside the code
abbrev pub judged_number : Result ℕ BadLog → ℕ
judged_number (Ok n) = n
judged_number (Err e) = bad_log_number e

-- ---- the lent words

-- a map in which every key has 0, with room for every record of a log
pub record Lent (m : List ℕ) : Type 0 where
  pub table : Table m
  pub blank : (k : ℕ) → table_of m k ≡ 0
  pub room : Room max_rows m

-- ---- the first walk

-- all fields are right, k commit, and the table has their events; or the first bad field
abbrev pub Walk : List Entry → (ℕ → ℕ) → Result ℕ BadLog → Type 0
Walk fs table (Ok k) = (past : List Event) × (scanned [] fs ≡ right past) × (k ≡ count_commits (events_in fs)) × Holds past table
Walk fs table (Err e) = scanned [] fs ≡ wrong (bad_log_code e) (bad_log_number e)

-- the words are a map, as the first walk leaves it
pub record Walked (s m : List ℕ) (r : Result ℕ BadLog) : Type 0 where
  pub table : Table m
  pub is : Walk (fields_from s 4) (table_of m) r

-- ---- the second

-- what fields that are right are judged as: 26, then 27, where st gives each transaction's stage
abbrev pub later : (ℕ → ℕ) → List Entry → Result ℕ BadLog
later st fs = judged_of (cond (ltb most_committed (count_commits (events_in fs))) (refused 26 0) (settled st (passed (events_in fs)) fs))

-- ---- the whole

-- the answer is that of the log's history; the words are a map, which has the events of a log that passes
pub record Judgement (s m : List ℕ) (r : Result ℕ BadLog) : Type 0 where
  pub answer : r ≡ judged_of (history_of s)
  pub table : Table m
  pub holds : (log : List Event) → history_of s ≡ passed log → Holds (reverse log) (table_of m)

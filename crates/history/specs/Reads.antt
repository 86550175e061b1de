-- A log that was read: none of 21 to 27 applies, the map has its events, and the first nodes are its committed transactions, rising.
-- Assumes nothing.
use Rattle.std.specs.Prelude.{ℕ, ◌≤◌, ◌≡◌, List, reverse, length, take, Result, Ok, Err}
use Rattle.lists.specs.Member.{Rising}
use Rattle.log_format.specs.Events.{Event}
use Rattle.history_rules.specs.WellFormed.{WellFormed, most_committed, count_commits}
use Rattle.history_rules.specs.History.{passed, refused, history_of}
use Rattle.history_rules.specs.Held.{Holds}
use Rattle.index.specs.Index.{table_of, Table}
use Rattle.serial_theory.specs.Judged.{committed}
use Rattle.history_rules.specs.declared.BadLog.{BadLog}
use Rattle.history_rules.specs.Refusals.{bad_log_code, bad_log_number}

pub record ReadLog (s m nodes : List ℕ) (count : ℕ) : Type 0 where
  pub log : List Event
  pub passes : history_of s ≡ passed log
  pub well : WellFormed log
  pub table : Table m
  pub holds : Holds (reverse log) (table_of m)
  pub first : take count nodes ≡ committed log
  pub number : count ≡ count_commits log
  pub few : count ≤ most_committed
  pub within : count ≤ length nodes
  pub rising : Rising 0 (take count nodes)

-- what reading a log answers and leaves: its refusal, or it was read
abbrev pub ReadIs : (s m nodes : List ℕ) → Result ℕ BadLog → Type 0
ReadIs s m nodes (Ok count) = ReadLog s m nodes count
ReadIs s m nodes (Err e) = history_of s ≡ refused (bad_log_code e) (bad_log_number e)

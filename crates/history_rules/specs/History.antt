-- What the checker answers for a log as far as codes 21 to 27 go: field by field the first bad one, then 26, then 27.
-- Assumes nothing.
use Rattle.std.specs.Prelude.{ℕ, zero, suc, ◌-◌, List, [], ◌∷◌, Bool, false, cond, ◌&&◌, length, ltb, eqb, Ok, Err, Some, None}
use Rattle.log_format.specs.Fields.{Decoded, decode_at}
use Rattle.log_format.specs.Whole.{header_ok}
use Rattle.log_format.specs.Events.{Event, begins, reads, writes, commits, aborts, event_of}
use Rattle.log_format.specs.declared.Record.{Record}
use Rattle.history_rules.specs.WellFormed.{most_committed, count_commits}
use Rattle.history_rules.specs.Faults.{committed, stage, differ, fault}

-- ---- the fields of a log

-- a field with its place: a record, or one that code 22 refuses, which is the last
pub data Entry : Type 0 where
  good : (place : ℕ) → Record → Entry
  broken : (place : ℕ) → Entry

-- one field, and what f finds from the next place on
abbrev pub following : (ℕ → List Entry) → ℕ → Decoded → List Entry
following f at (Ok (Some (r, next))) = good at r ∷ f next.0
following f at (Ok None) = []
following f at (Err b) = broken b.0.0 ∷ []

-- at most k fields from a place on
unfoldable pub fields_at : ℕ → List ℕ → ℕ → List Entry
fields_at zero s at = []
fields_at (suc k) s at = following (fields_at k s) at (decode_at s at)

-- all fields from a place on: there are no more than bytes
unfoldable pub fields_from : List ℕ → ℕ → List Entry
fields_from s at = fields_at (suc (length s - at)) s at

-- the events that fields tell, first to last
abbrev pub events_in : List Entry → List Event
events_in [] = []
events_in (good p r ∷ fs) = event_of r ∷ events_in fs
events_in (broken p ∷ fs) = events_in fs

-- ---- codes 22 to 25

-- the first bad field's code and place, or every event is right: all of them, newest first
pub data Scanned : Type 0 where
  wrong : (code place : ℕ) → Scanned
  right : (past : List Event) → Scanned

-- the first bad field decides
unfoldable pub scanned : List Event → List Entry → Scanned
scanned past [] = right past
scanned past (good p r ∷ fs) = cond (eqb (fault past (event_of r)) 0) (scanned (event_of r ∷ past) fs) (wrong (fault past (event_of r)) p)
scanned past (broken p ∷ fs) = wrong 22 p

-- ---- codes 26 and 27

-- the answer: a log that passes, with its events, first to last; or a code, and the number beside it
pub data History : Type 0 where
  passed : (log : List Event) → History
  refused : (code place : ℕ) → History

-- a read by a committed transaction, of a version other than 0 whose writer is not committed
abbrev pub dangling : (ℕ → ℕ) → Event → Bool
dangling st (begins t) = false
dangling st (reads t x j v) = eqb (st t) committed && (differ j 0 && differ (st j) committed)
dangling st (writes t x v) = false
dangling st (commits t) = false
dangling st (aborts t c) = false

-- the first such read is refused with its place; where there is none, the answer is a
unfoldable pub settled : (ℕ → ℕ) → History → List Entry → History
settled st a [] = a
settled st a (good p r ∷ fs) = cond (dangling st (event_of r)) (refused 27 p) (settled st a fs)
settled st a (broken p ∷ fs) = settled st a fs

-- where no field is bad, 26 decides, then 27
abbrev pub ended : List Entry → Scanned → History
ended fs (wrong c p) = refused c p
ended fs (right past) = cond (ltb most_committed (count_commits (events_in fs))) (refused 26 0) (settled (stage past) (passed (events_in fs)) fs)

-- ---- the whole

-- the answer for the fields of a log
abbrev pub judged : List Entry → History
judged fs = ended fs (scanned [] fs)

-- the header, then the fields
unfoldable pub history_of : List ℕ → History
history_of s = cond (header_ok s) (judged (fields_from s 4)) (refused 21 0)

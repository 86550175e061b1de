-- What each answer means, said of the bytes and of the records that stand in them, without going through them: which code the page gives, and the
-- number beside it.
-- Assumes nothing.
use Rattle.std.specs.Prelude.{ℕ, ◌≤◌, ◌<◌, ◌≡◌, List, [], ◌∷◌, ◌++◌, map, ◌≢◌, length, take}
use Rattle.lists.specs.Member.{◌∈◌}
use Rattle.log_format.specs.Fields.{Fits, StandsAt}
use Rattle.log_format.specs.Whole.{max_log, header, records, log_read, log_of, Good}
use Rattle.log_format.specs.Events.{Event, begins, reads, writes, commits, aborts, event_of}
use Rattle.log_format.specs.Told.{Done}
use Rattle.log_format.specs.declared.Record.{Record}
use Rattle.history_rules.specs.WellFormed.{AllRight, most_committed, count_commits, WellFormed}
use Rattle.history_rules.specs.Wrong.{Lowest}
use Rattle.history_rules.specs.History.{History, passed, refused}

-- at most 65,536 bytes, the first four of which are the header
abbrev pub Headed : List ℕ → Type 0
Headed s = (length s ≤ max_log) × (take 4 s ≡ header)

-- ---- 22 to 25

-- the log s begins with the header and the records rs, and p is the place after them
pub record Front (s : List ℕ) (rs : List Record) (p : ℕ) : Type 0 where
  pub fit : Good rs
  pub bytes : take p s ≡ log_of rs
  pub place : p ≡ length (log_of rs)

-- bytes are left at p, and no record stands there
pub record Broken (s : List ℕ) (p : ℕ) : Type 0 where
  pub more : p < length s
  pub none : (r : Record) (n : ℕ) → Fits r → ¬ StandsAt s p r n

-- the field at p is bad after the events before it: it is no record, or it is one to which a code applies; with the lowest code
pub data BadAt (s : List ℕ) (p : ℕ) (past : List Event) : ℕ → Type 0 where
  no_record : Broken s p → BadAt s p past 22
  no_right : (r : Record) (n : ℕ) {c : ℕ} → Fits r → StandsAt s p r n → c ≢ 0 → Lowest past (event_of r) c → BadAt s p past c

-- the first bad field stands at p, and c is its lowest code
pub record FirstBadField (s : List ℕ) (c p : ℕ) : Type 0 where
  pub before : List Record
  pub front : Front s before p
  pub right : AllRight [] (map event_of before)
  pub bad : BadAt s p (map event_of before) c

-- ---- 27

-- a committed reader of a version whose writer never commits; version 0 counts as committed
abbrev pub Dangles : List Event → Event → Type 0
Dangles log (begins t) = ⊥
Dangles log (reads t x j v) = Done t log × (j ≢ 0) × (¬ Done j log)
Dangles log (writes t x v) = ⊥
Dangles log (commits t) = ⊥
Dangles log (aborts t c) = ⊥

-- the first such read of the log stands at p
pub record FirstDangling (rs : List Record) (p : ℕ) : Type 0 where
  pub before : List Record
  pub read : Record
  pub after : List Record
  pub splits : rs ≡ before ++ read ∷ after
  pub place : p ≡ length (log_of before)
  pub dangles : Dangles (map event_of rs) (event_of read)
  pub first : (r : Record) → r ∈ before → ¬ Dangles (map event_of rs) (event_of r)

-- ---- the answer

-- the page answers h for the bytes s
pub data Answers (s : List ℕ) : History → Type 0 where
  -- 21: log over 65,536 bytes, or header wrong or cut
  no_log_lem : ¬ Headed s → Answers s (refused 21 0)
  -- 22 to 25: the first bad field decides, lowest code first
  bad_field_lem : (c p : ℕ) → Headed s → FirstBadField s c p → Answers s (refused c p)
  -- 26: no field is bad, and over 256 committed
  too_many : (rs : List Record) → log_read s ≡ records rs → AllRight [] (map event_of rs) → most_committed < count_commits (map event_of rs)
      → Answers s (refused 26 0)
  -- 27: none of those, and a committed reader of a version whose writer never commits; first such read's place
  dangling : (rs : List Record) (p : ℕ) → log_read s ≡ records rs → AllRight [] (map event_of rs) → count_commits (map event_of rs) ≤ most_committed
      → FirstDangling rs p → Answers s (refused 27 p)
  -- none of 21 to 27: the log's records, as events
  well : (rs : List Record) → log_read s ≡ records rs → WellFormed (map event_of rs) → Answers s (passed (map event_of rs))

-- ---- well-formed, as the absence of codes

-- none of 23 to 27 applies to a log: no code to an event after those before it, not too many commit, and no read dangles
pub record NoneApplies (log : List Event) : Type 0 where
  pub no_23_25 : (before : List Event) (e : Event) (after : List Event) → log ≡ before ++ e ∷ after → Lowest before e 0
  pub no_26 : count_commits log ≤ most_committed
  pub no_27 : (e : Event) → e ∈ log → ¬ Dangles log e

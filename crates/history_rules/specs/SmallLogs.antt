-- Small logs and their answers, one for each way to be refused that the page names, and for each that it does not. A begin takes 7 bytes of the log,
-- a read 16, a write 12, a commit 7, an abort 8; the first field stands at place 4.
-- Assumes nothing.
use Rattle.std.specs.Prelude.{ℕ, ◌≡◌, List, [], ◌∷◌, ◌++◌, map}
use Rattle.log_format.specs.Whole.{log_of}
use Rattle.log_format.specs.Events.{Event, begins, reads, writes, commits, aborts, record_of}
use Rattle.history_rules.specs.History.{passed, refused, history_of}

-- the bytes of a log of these events
abbrev pub bytes_of : List Event → List ℕ
bytes_of es = log_of (map record_of es)

-- the log of these events is refused with this code at this place
abbrev pub Refused : List Event → (code place : ℕ) → Type 0
Refused es c p = history_of (bytes_of es) ≡ refused c p

-- it passes
abbrev pub Passes : List Event → Type 0
Passes es = history_of (bytes_of es) ≡ passed es

-- each log, and what it is answered
pub record SmallLogs : Type 0 where
  -- the header alone; no byte; half a header
  pub header_alone : Passes []
  pub nothing : history_of [] ≡ refused 21 0
  pub half_header : history_of (16 ∷ 0 ∷ []) ≡ refused 21 0
  -- 22: an unknown tag; a second header; a begin cut short; a cause of 2
  pub unknown_tag : history_of (bytes_of [] ++ 9 ∷ 0 ∷ 0 ∷ []) ≡ refused 22 4
  pub second_header : history_of (bytes_of [] ++ bytes_of []) ≡ refused 22 4
  pub cut_field : history_of (bytes_of (begins 1 ∷ []) ++ 4 ∷ 0 ∷ 4 ∷ 0 ∷ []) ≡ refused 22 11
  pub cause_two : Refused (begins 1 ∷ aborts 1 2 ∷ []) 22 11
  -- 23: stamp 0; begun already; begun again after its end; not begun; already ended
  pub stamp_zero : Refused (begins 0 ∷ []) 23 4
  pub begun_twice : Refused (begins 1 ∷ begins 1 ∷ []) 23 11
  pub begun-after_end : Refused (begins 1 ∷ commits 1 ∷ begins 1 ∷ []) 23 18
  pub not_begun : Refused (begins 1 ∷ writes 2 5 7 ∷ []) 23 11
  pub ended_twice : Refused (begins 1 ∷ commits 1 ∷ aborts 1 0 ∷ []) 23 18
  -- begins need not rise
  pub falling : Passes (begins 2 ∷ begins 1 ∷ commits 1 ∷ [])
  -- 24: item over 63, read or written; second write of it
  pub item_64_read : Refused (begins 1 ∷ reads 1 64 0 0 ∷ []) 24 11
  pub item_64_written : Refused (begins 1 ∷ writes 1 64 7 ∷ []) 24 11
  pub written_twice : Refused (begins 1 ∷ writes 1 5 7 ∷ writes 1 5 7 ∷ []) 24 23
  -- item 63 is one, and two transactions may write an item
  pub item_63 : Passes (begins 1 ∷ writes 1 63 7 ∷ [])
  pub two_writers : Passes (begins 1 ∷ begins 2 ∷ writes 1 5 7 ∷ writes 2 5 8 ∷ [])
  -- 25: version not written; written later; aborted; value differs, of version 0 too; own earlier write not the one read
  pub unwritten : Refused (begins 1 ∷ begins 2 ∷ reads 2 5 1 7 ∷ []) 25 18
  pub written-later : Refused (begins 1 ∷ begins 2 ∷ reads 2 5 1 7 ∷ writes 1 5 7 ∷ []) 25 18
  pub aborted_earlier : Refused (begins 1 ∷ begins 2 ∷ writes 1 5 7 ∷ aborts 1 0 ∷ reads 2 5 1 7 ∷ []) 25 38
  pub other_value : Refused (begins 1 ∷ begins 2 ∷ writes 1 5 7 ∷ reads 2 5 1 8 ∷ []) 25 30
  pub initial_value : Refused (begins 1 ∷ reads 1 5 0 7 ∷ []) 25 11
  pub own_passed_over : Refused (begins 1 ∷ writes 1 5 7 ∷ reads 1 5 0 0 ∷ []) 25 23
  -- own write read, and version 0 with value 0
  pub own_read_lem : Passes (begins 1 ∷ reads 1 5 0 0 ∷ writes 1 5 7 ∷ reads 1 5 1 7 ∷ commits 1 ∷ [])
  -- a field wrong in two ways; two bad fields; a field that is no record, after a bad one
  pub two_ways : Refused (reads 1 64 0 7 ∷ []) 23 4
  pub two_fields : Refused (begins 1 ∷ reads 1 5 0 7 ∷ begins 0 ∷ []) 25 11
  pub wrong_then_broken : history_of (bytes_of (begins 1 ∷ writes 1 64 7 ∷ []) ++ 9 ∷ []) ≡ refused 24 11
  -- 27: the writer never ends, or aborts later; the first of two such reads
  pub never_commits : Refused (begins 1 ∷ begins 2 ∷ writes 1 5 7 ∷ reads 2 5 1 7 ∷ commits 2 ∷ []) 27 30
  pub aborted-later : Refused (begins 1 ∷ begins 2 ∷ writes 1 5 7 ∷ reads 2 5 1 7 ∷ aborts 1 1 ∷ commits 2 ∷ []) 27 30
  pub first_of_two : Refused (begins 1 ∷ begins 2 ∷ writes 1 5 7 ∷ reads 2 5 1 7 ∷ reads 2 5 1 7 ∷ commits 2 ∷ []) 27 30
  -- a reader that does not commit; a writer that commits after the read
  pub reader_open : Passes (begins 1 ∷ begins 2 ∷ writes 1 5 7 ∷ reads 2 5 1 7 ∷ [])
  pub commits_later : Passes (begins 1 ∷ begins 2 ∷ writes 1 5 7 ∷ reads 2 5 1 7 ∷ commits 2 ∷ commits 1 ∷ [])

-- When each of the codes 23, 24 and 25 applies to an event, in the page's words, and which is the lowest. `past` has the events before it;
-- their order does not matter.
-- Assumes nothing.
use Rattle.std.specs.Prelude.{ℕ, ◌<◌, ◌≡◌, List, ◌⊎◌, ◌≢◌}
use Rattle.log_format.specs.Events.{Event, begins, reads, writes, commits, aborts}
use Rattle.log_format.specs.Told.{Begun, Put, Puts, Done, Undone}
use Rattle.history_rules.specs.WellFormed.{most_item}

-- a stamp that is 0, or not begun, or already ended
abbrev pub Idle : List Event → ℕ → Type 0
Idle past t = (t ≡ 0) ⊎ ((¬ Begun t past) ⊎ (Done t past ⊎ Undone t past))

-- 23: stamp 0, begun already, or not begun or already ended
abbrev pub Wrong23 : List Event → Event → Type 0
Wrong23 past (begins t) = (t ≡ 0) ⊎ Begun t past
Wrong23 past (reads t x j v) = Idle past t
Wrong23 past (writes t x v) = Idle past t
Wrong23 past (commits t) = Idle past t
Wrong23 past (aborts t c) = Idle past t

-- 24: item over 63, or second write of it
abbrev pub Wrong24 : List Event → Event → Type 0
Wrong24 past (begins t) = ⊥
Wrong24 past (reads t x j v) = most_item < x
Wrong24 past (writes t x v) = (most_item < x) ⊎ Puts t x past
Wrong24 past (commits t) = ⊥
Wrong24 past (aborts t c) = ⊥

-- 25, of a read by t of x in version j with value v
pub data Misread (past : List Event) (t x j v : ℕ) : Type 0 where
  -- version not written earlier
  unwritten : j ≢ 0 → ¬ Puts j x past → Misread past t x j v
  -- or aborted earlier
  undone : j ≢ 0 → Undone j past → Misread past t x j v
  -- value differs: version 0 has value 0
  valued : j ≡ 0 → v ≢ 0 → Misread past t x j v
  differs : (w : ℕ) → j ≢ 0 → Put j x w past → v ≢ w → Misread past t x j v
  -- own earlier write not the one read
  foreign : Puts t x past → j ≢ t → Misread past t x j v

-- 25 applies to reads alone
abbrev pub Wrong25 : List Event → Event → Type 0
Wrong25 past (begins t) = ⊥
Wrong25 past (reads t x j v) = Misread past t x j v
Wrong25 past (writes t x v) = ⊥
Wrong25 past (commits t) = ⊥
Wrong25 past (aborts t c) = ⊥

-- the lowest code that applies, or 0 where none does
pub data Lowest (past : List Event) (e : Event) : ℕ → Type 0 where
  none : ¬ Wrong23 past e → ¬ Wrong24 past e → ¬ Wrong25 past e → Lowest past e 0
  is23 : Wrong23 past e → Lowest past e 23
  is24 : ¬ Wrong23 past e → Wrong24 past e → Lowest past e 24
  is25 : ¬ Wrong23 past e → ¬ Wrong24 past e → Wrong25 past e → Lowest past e 25

-- How a call changes the small part of the state, by the record due.
-- Assumes nothing.
use Rattle.std.specs.Prelude.{ℕ, ◌+◌, ◌≤◌, ◌<◌, [], ◌∷◌, ◌++◌}
use Rattle.log_format.specs.Whole.{max_log}
use Rattle.scheduler_rules.specs.Model.{max_open, close}
use Rattle.scheduler_rules.specs.declared.Op.{Op}
use Rattle.open_table.specs.Open.{stamps_of, table_of, Padded}
use Rattle.decision.specs.declared.Core.{Core}
use Rattle.decision.specs.declared.Due.{Due}
use Rattle.decision.specs.declared.Due.TheVariants.{Begin, Read, Write, Commit, Abort}

-- n more bytes used
abbrev pub grown : Core → ℕ → Core
grown c n = record { last = c.last; used = record { 0 = c.used.0 + n }; live = c.live }

-- k is the last begun, and open
abbrev pub entered : Core → ℕ → Core
entered c k = record { last = record { 0 = k }; used = record { 0 = c.used.0 + 7 }; live = table_of (stamps_of c.live ++ k ∷ []) }

-- k is no longer open
abbrev pub departed : Core → ℕ → ℕ → Core
departed c k n = record { last = c.last; used = record { 0 = c.used.0 + n }; live = table_of (close k (stamps_of c.live)) }

abbrev pub core_after : Core → Op → Due → Core
core_after c op Begin = entered c op.stamp.0
core_after c op (Read at) = grown c 16
core_after c op (Write at) = grown c 12
core_after c op Commit = departed c op.stamp.0 7
core_after c op (Abort cause) = departed c op.stamp.0 8

-- a begin has a place in the open table
abbrev pub HasPlace : Core → Due → Type 0
HasPlace c Begin = c.live.count < max_open
HasPlace c (Read at) = Unit {0}
HasPlace c (Write at) = Unit {0}
HasPlace c Commit = Unit {0}
HasPlace c (Abort cause) = Unit {0}

-- what a change needs: something to change, room to count in
pub record Movable (c : Core) (due : Due) : Type 0 where
  pub padded : Padded c.live
  pub short : c.used.0 ≤ max_log
  pub place : HasPlace c due

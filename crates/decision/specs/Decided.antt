-- What a plan means for the model: the outcome of the reply table, and where in the columns it takes place.
-- Assumes nothing.
use Rattle.std.specs.Prelude.{ℕ, ◌+◌, ◌≤◌, ◌<◌, ◌≡◌, Bool, true, false, ◌&&◌, List, [], ◌∷◌, leb, length, get_or, Some, None, Result, Ok, Err, IfOk}
use Rattle.log_format.specs.Events.{Event, begins, reads, writes, commits, aborts, size}
use Rattle.scheduler_rules.specs.Model.{Model, max_open, max_versions, initial, Same, Wrote, begun, got, stored, ended, dropped}
use Rattle.scheduler_rules.specs.Table.{Outcome, Good, table}
use Rattle.scheduler_rules.specs.Sound.{Sound}
use Rattle.scheduler_rules.specs.declared.Op.{Op}
use Rattle.open_table.specs.Open.{stamps_of, table_of}
use Rattle.open_table.specs.Intact.{is_intact}
use Rattle.version_columns.specs.Columns.{versions_of, columns_of}
use Rattle.version_columns.specs.declared.Versions.{Versions}
use Rattle.version_columns.specs.Lookup.{up_to}
use Rattle.damage.specs.Damage.{marks_sound, columns_sound}
use Rattle.decision.specs.declared.Core.{Core}
use Rattle.decision.specs.declared.Due.{Due}
use Rattle.decision.specs.declared.Due.TheVariants.{Begin, Read, Write, Commit, Abort}
use Rattle.decision.specs.declared.Kind.{Kind}
use Rattle.decision.specs.declared.Plan.{Plan}
use Rattle.decision.specs.declared.Refusal.{Refusal}
use Rattle.decision.specs.declared.Refusal.TheVariants.{Damaged}
use Rattle.decision.specs.Kind.{number_of}
use Rattle.decision.specs.Refusal.{reply_of}

-- ---- the state that is looked at

-- the model that the small part, the initial marks and the versions make
abbrev pub model_of : Core → List ℕ → Versions → Model
model_of c marks t = record { last = c.last.0; live = stamps_of c.live; held = versions_of t; marks = marks; used = c.used.0 }

-- they are undamaged, where the log may have so many bytes
unfoldable pub undamaged_in : Core → ℕ → List ℕ → Versions → Bool
undamaged_in c room marks t =
    leb 4 c.used.0 && leb c.used.0 room
    && is_intact c.live c.last.0
    && marks_sound marks c.last.0
    && columns_sound t c.last.0

-- the same in plain words: they are the picture of a sound model, and the bytes used are within the room
pub record Whole (c : Core) (room : ℕ) (marks : List ℕ) (t : Versions) : Type 0 where
  pub sound : Sound (model_of c marks t)
  pub table : c.live ≡ table_of (stamps_of c.live)
  pub columns : t ≡ columns_of (versions_of t)
  pub within : c.used.0 ≤ room

-- ---- the plan

-- the event that a plan writes
abbrev pub event_of : Op → Plan → Event
event_of op p = by p.due
  where
    by : Due → Event
    by Begin = begins op.stamp.0
    by (Read at) = reads op.stamp.0 op.item p.reply.stamp.0 p.reply.value
    by (Write at) = writes op.stamp.0 op.item op.value
    by Commit = commits op.stamp.0
    by (Abort c) = aborts op.stamp.0 c

-- the model that it leaves
abbrev pub next_of : Op → Plan → Model → Model
next_of op p m = by p.due
  where
    by : Due → Model
    by Begin = begun op.stamp.0 m
    by (Read at) = got op.stamp.0 op.item p.reply.stamp.0 m
    by (Write at) = stored op.stamp.0 op.item op.value m
    by Commit = ended op.stamp.0 m
    by (Abort c) = dropped op.stamp.0 m

-- a refusal changes nothing
abbrev pub outcome_of : Op → Result Plan Refusal → Model → Outcome
outcome_of op (Ok p) m = record { reply = p.reply; next = next_of op p m; due = event_of op p ∷ [] }
outcome_of op (Err e) m = record { reply = reply_of e; next = m; due = [] }

-- where it takes place: there is room in the open table; a version read is the initial one, or stands at the place; a version written goes
-- to the place, is new and has room
abbrev pub PlaceIs : Op → Plan → Model → Type 0
PlaceIs op p m = by p.due
  where
    by : Due → Type 0
    by Begin = length m.live < max_open
    by (Read None) = p.reply.stamp.0 ≡ 0
    by (Read (Some at)) = (at < length m.held) × (1 ≤ p.reply.stamp.0) × Same op.item p.reply.stamp.0 (get_or m.held at (initial m op.item))
    by (Write at) = (at ≡ up_to op.item op.stamp.0 m.held) × (¬ Wrote op.stamp.0 op.item m.held) × (length m.held < max_versions)
    by Commit = Unit {0}
    by (Abort c) = c ≤ 1

-- its record fits, and its places are right
pub record Fits (room : ℕ) (op : Op) (m : Model) (p : Plan) : Type 0 where
  pub fits : m.used + size (event_of op p) ≤ room
  pub place : PlaceIs op p m

-- r is the table's outcome, and a plan can be carried out
pub record Decided (room : ℕ) (op : Op) (m : Model) (r : Result Plan Refusal) : Type 0 where
  pub outcome : table room op m ≡ outcome_of op r m
  pub plan : IfOk r (Fits room op m)

-- what is known where a decision is to be made
pub record Deciding (room : ℕ) (op : Op) (m : Model) : Type 0 where
  pub sound : Sound m
  pub good : Good op
  pub within : m.used ≤ room

-- the same over the small part and the versions, whose counts are those of the lists, and the operation's kind
pub record CanDecide (c : Core) (kind : Kind) (op : Op) (room : ℕ) (marks : List ℕ) (t : Versions) : Type 0 where
  pub asked : number_of kind ≡ op.kind
  pub opens : c.live.count ≡ length (stamps_of c.live)
  pub holds : t.count ≡ length (versions_of t)
  pub deciding : Deciding room op (model_of c marks t)

-- a refusal where the state is damaged, else what the table says
pub record PlanIs (room : ℕ) (op : Op) (undamaged : Bool) (m : Model) (r : Result Plan Refusal) : Type 0 where
  pub damaged : undamaged ≡ false → r ≡ Err Damaged
  pub decided : undamaged ≡ true → Decided room op m r

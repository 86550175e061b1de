-- The plan that each kind of call makes from the few numbers that it looks at, in the order of the reply table.
-- Assumes nothing.
use Rattle.std.specs.Prelude.{ℕ, ◌+◌, Bool, not, cond, ◌&&◌, List, Result, Ok, Err, eqb, leb, ltb}
use Rattle.scheduler_rules.specs.Model.{max_open, max_versions}
use Rattle.scheduler_rules.specs.declared.Reply.{Reply}
use Rattle.open_table.specs.Open.{holds}
use Rattle.version_columns.specs.declared.Chosen.{Chosen}
use Rattle.decision.specs.declared.Due.{Due}
use Rattle.decision.specs.declared.Due.TheVariants.{Begin, Read, Write, Commit, Abort}
use Rattle.decision.specs.declared.Plan.{Plan}
use Rattle.decision.specs.declared.Refusal.{Refusal}
use Rattle.decision.specs.declared.Refusal.TheVariants.{NotAbove, TooManyOpen, NotOpen, Waits, Written, TooManyVersions, NoRoom}

abbrev pub reply : ℕ → ℕ → ℕ → Reply
reply c j v = record { code = c; stamp = record { 0 = j }; value = v }

-- the bytes of the record due
abbrev pub bytes_of : Due → ℕ
bytes_of Begin = 7
bytes_of (Read at) = 16
bytes_of (Write at) = 12
bytes_of Commit = 7
bytes_of (Abort cause) = 8

-- no room unless the record due fits after the bytes used
abbrev pub fitting : (room used : ℕ) → Reply → Due → Result Plan Refusal
fitting room used r due = cond (ltb room (used + bytes_of due)) (Err NoRoom) (Ok (record { reply = r; due = due }))

-- begin by k: 3, 4, 10, 0
abbrev pub begin_plan : (last count k used room : ℕ) → Result Plan Refusal
begin_plan last count k used room = cond (leb k last) (Err NotAbove) (cond (leb max_open count) (Err TooManyOpen) (fitting room used (reply 0 0 0) Begin))

-- what k asks for, unless it is not open
abbrev pub opened : ℕ → List ℕ → Result (Unit {0}) Refusal
opened k live = cond (holds k live) (Ok tt) (Err NotOpen)

abbrev pub if_open : ℕ → List ℕ → Result Plan Refusal → Result Plan Refusal
if_open k live r = cond (holds k live) r (Err NotOpen)

-- commit or abort by k, whose record is due: 5, 10, 0
abbrev pub end_plan : Due → List ℕ → (k used room : ℕ) → Result Plan Refusal
end_plan due live k used room = if_open k live (fitting room used (reply 0 0 0) due)

-- a read by k of j's version waits: j is another open transaction
abbrev pub waits_on : ℕ → ℕ → List ℕ → Bool
waits_on k j live = not (eqb j k) && holds j live

-- read by k of the version v: 5, 6, 10, 0
abbrev pub read_plan : Chosen → List ℕ → (k used room : ℕ) → Result Plan Refusal
read_plan v live k used room =
    if_open k live
    (cond (waits_on k v.stamp.0 live) (Err (Waits v.stamp))
    (fitting room used (reply 0 v.stamp.0 v.value) (Read v.held)))

-- write by k, v being its own version or the one beneath: 5, 7; if late 10, 8; else 9, 10, 0
abbrev pub write_plan : Chosen → ℕ → List ℕ → (k used room : ℕ) → Result Plan Refusal
write_plan v count live k used room =
    if_open k live
    (cond (eqb v.stamp.0 k) (Err Written)
    (cond (ltb k v.mark.0) (fitting room used (reply 8 v.mark.0 0) (Abort 1))
    (cond (leb max_versions count) (Err TooManyVersions)
    (fitting room used (reply 0 0 0) (Write v.at)))))

-- The code of one event, as the checker finds it: a test given as a function of two tables, each transaction's stage and what it wrote, so that
-- rules and code share it. `past` has the events before one, newest first.
-- Assumes nothing.
use Rattle.std.specs.Prelude.{ℕ, ◌+◌, List, [], ◌∷◌, Bool, cond, not, ◌&&◌, ◌||◌, ltb, eqb}
use Rattle.log_format.specs.Events.{Event, begins, reads, writes, commits, aborts}
use Rattle.history_rules.specs.WellFormed.{most_item}

-- ---- the two tables

-- how far a transaction has come
abbrev pub unbegun : ℕ
unbegun = 0

abbrev pub running : ℕ
running = 1

abbrev pub committed : ℕ
committed = 2

abbrev pub aborted : ℕ
aborted = 3

-- t's stage: its last begin, commit or abort decides
unfoldable pub stage : List Event → ℕ → ℕ
stage [] t = unbegun
stage (begins u ∷ past) t = cond (eqb t u) running (stage past t)
stage (reads u x j v ∷ past) t = stage past t
stage (writes u x v ∷ past) t = stage past t
stage (commits u ∷ past) t = cond (eqb t u) committed (stage past t)
stage (aborts u c ∷ past) t = cond (eqb t u) aborted (stage past t)

-- one more than the value that t last wrote to x, or 0
unfoldable pub written : List Event → ℕ → ℕ → ℕ
written [] t x = 0
written (begins u ∷ past) t x = written past t x
written (reads u y j v ∷ past) t x = written past t x
written (writes u y v ∷ past) t x = cond (eqb t u && eqb x y) (v + 1) (written past t x)
written (commits u ∷ past) t x = written past t x
written (aborts u c ∷ past) t x = written past t x

-- ---- the tests, where st gives each transaction's stage and wr what it wrote

-- two numbers are not the same
abbrev pub differ : ℕ → ℕ → Bool
differ a b = not (eqb a b)

-- 23: stamp 0, not begun or already ended
abbrev pub idle : (ℕ → ℕ) → ℕ → Bool
idle st t = eqb t 0 || differ (st t) running

-- 25, of the version alone: of version 0, a value other than 0; of another, not written with this value, or aborted
abbrev pub unfit : (ℕ → ℕ) → (ℕ → ℕ → ℕ) → (x j v : ℕ) → Bool
unfit st wr x j v = cond (eqb j 0) (differ v 0) (differ (wr j x) (v + 1) || eqb (st j) aborted)

-- 25: own earlier write not the one read, or the version unfit
abbrev pub unread : (ℕ → ℕ) → (ℕ → ℕ → ℕ) → (t x j v : ℕ) → Bool
unread st wr t x j v = (differ (wr t x) 0 && differ j t) || unfit st wr x j v

-- the event's code, lowest first; 0 for a right one
abbrev pub fault_by : (ℕ → ℕ) → (ℕ → ℕ → ℕ) → Event → ℕ
fault_by st wr (begins t) = cond (eqb t 0 || differ (st t) unbegun) 23 0
fault_by st wr (reads t x j v) = cond (idle st t) 23 (cond (ltb most_item x) 24 (cond (unread st wr t x j v) 25 0))
fault_by st wr (writes t x v) = cond (idle st t) 23 (cond (ltb most_item x || differ (wr t x) 0) 24 0)
fault_by st wr (commits t) = cond (idle st t) 23 0
fault_by st wr (aborts t c) = cond (idle st t) 23 0

-- after the events before it
abbrev pub fault : List Event → Event → ℕ
fault past e = fault_by (stage past) (written past) e

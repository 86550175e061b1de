-- The two tables kept as one, from key to number, as a program keeps them: where a transaction's stage and its writes stand, and that they say what the
-- events say.
-- Assumes nothing.
use Rattle.std.specs.Prelude.{ℕ, ◌+◌, ◌*◌, ◌≤◌, ◌≡◌, List, cond, eqb}
use Rattle.log_format.specs.Events.{Event, begins, reads, writes, commits, aborts}
use Rattle.history_rules.specs.WellFormed.{most_item}
use Rattle.history_rules.specs.Faults.{running, committed, aborted, stage, written}

-- the key of t's stage, and of what t wrote to x: a transaction has 128 keys, the first 64 for its items
abbrev pub stage_key : ℕ → ℕ
stage_key t = t * 128 + 64

abbrev pub item_key : ℕ → ℕ → ℕ
item_key t x = t * 128 + x

-- what a table says of a transaction
abbrev pub stage_in : (ℕ → ℕ) → ℕ → ℕ
stage_in table t = table (stage_key t)

abbrev pub written_in : (ℕ → ℕ) → ℕ → ℕ → ℕ
written_in table t x = table (item_key t x)

-- a table says what the events say, of every item that the page has
pub record Holds (past : List Event) (table : ℕ → ℕ) : Type 0 where
  pub stages : (t : ℕ) → stage_in table t ≡ stage past t
  pub writes : (t x : ℕ) → x ≤ most_item → written_in table t x ≡ written past t x

-- the number v at the key k, every other as it was
abbrev pub put_at : ℕ → ℕ → (ℕ → ℕ) → ℕ → ℕ
put_at k v table h = cond (eqb h k) v (table h)

-- an event noted in a table; a read leaves it as it is
abbrev pub noted : Event → (ℕ → ℕ) → ℕ → ℕ
noted (begins t) table = put_at (stage_key t) running table
noted (reads t x j v) table = table
noted (writes t x v) table = put_at (item_key t x) (v + 1) table
noted (commits t) table = put_at (stage_key t) committed table
noted (aborts t c) table = put_at (stage_key t) aborted table

-- a write's item is one that a key has room for
abbrev pub Kept : Event → Type 0
Kept (begins t) = Unit {0}
Kept (reads t x j v) = Unit {0}
Kept (writes t x v) = x ≤ most_item
Kept (commits t) = Unit {0}
Kept (aborts t c) = Unit {0}

-- The committed transactions of a log, gathered in the first places of a slice.
-- Assumes nothing.
use Rattle.std.specs.Prelude.{ℕ, ◌≡◌, List, length, take, drop}
use Rattle.lists.specs.Order.{insert}
use Rattle.log_format.specs.Events.{Event, begins, reads, writes, commits, aborts}
use Rattle.history_rules.specs.History.{passed, history_of}
use Rattle.serial_theory.specs.Judged.{committed}

-- none of 21 to 27 applies to a log
abbrev pub Passes : List ℕ → Type 0
Passes s = (log : List Event) × (history_of s ≡ passed log)

-- stamps that rise, with that of an event that commits
abbrev pub with_commit : Event → List ℕ → List ℕ
with_commit (begins t) l = l
with_commit (reads t x j v) l = l
with_commit (writes t x v) l = l
with_commit (commits t) l = insert t l
with_commit (aborts t c) l = l

-- the first m of b are the first n of a with that of e, where it commits, and past them b is as a was
pub record WithCommit (a : List ℕ) (n : ℕ) (e : Event) (b : List ℕ) (m : ℕ) : Type 0 where
  pub first : take m b ≡ with_commit e (take n a)
  pub count : m ≡ length (with_commit e (take n a))
  pub rest : drop m b ≡ drop m a

-- the first m of b are the committed transactions of the log, rising, and past them b is as a was
pub record Nodes (s a b : List ℕ) (m : ℕ) : Type 0 where
  pub first : (log : List Event) → history_of s ≡ passed log → take m b ≡ committed log
  pub count : (log : List Event) → history_of s ≡ passed log → m ≡ length (committed log)
  pub rest : drop m b ≡ drop m a

-- The edges as a test that computes.
-- Assumes nothing.
use Rattle.std.specs.Prelude.{ℕ, List, [], ◌∷◌, Bool, false, not, ◌&&◌, ◌||◌, eqb}
use Rattle.lists.specs.Tests.{any}
use Rattle.log_format.specs.Events.{Event, begins, reads, writes, commits, aborts}
use Rattle.serial_theory.specs.Edges.{versions}

-- whether the event is t's commit
abbrev pub commit_of : ℕ → Event → Bool
commit_of t (begins u) = false
commit_of t (reads u x j v) = false
commit_of t (writes u x v) = false
commit_of t (commits u) = eqb t u
commit_of t (aborts u c) = false

-- whether t has committed
abbrev pub done : List Event → ℕ → Bool
done log t = any (commit_of t) log

-- whether i stands before j
abbrev pub before : List ℕ → ℕ → ℕ → Bool
before [] i j = false
before (a ∷ l) i j = (eqb i a && any (eqb j) l) || before l i j

module _ (log : List Event) (vs : ℕ → List ℕ) (a b : ℕ) where
  -- whether i's version of x draws the edge from a to b beside k's read of x from j
  abbrev pub draws : ℕ → ℕ → ℕ → ℕ → Bool
  draws k x j i = (before (versions vs x) i j && (eqb a i && eqb b j)) || (before (versions vs x) j i && (eqb a k && eqb b i))

  -- whether the event is a write of x by a committed transaction other than j and k, and draws it
  abbrev pub by_write : ℕ → ℕ → ℕ → Event → Bool
  by_write k x j (begins u) = false
  by_write k x j (reads u y h v) = false
  by_write k x j (writes i y v) = eqb y x && (done log i && (not (eqb i j) && (not (eqb i k) && draws k x j i)))
  by_write k x j (commits u) = false
  by_write k x j (aborts u c) = false

  -- whether the event is a read by a committed k from j, with j not k, and draws it
  abbrev pub by_read : Event → Bool
  by_read (begins u) = false
  by_read (reads k x j v) = done log k && (not (eqb j k) && ((not (eqb j 0) && (eqb a j && eqb b k)) || any (by_write k x j) log))
  by_read (writes i y v) = false
  by_read (commits u) = false
  by_read (aborts u c) = false

  -- whether there is an edge from a to b
  unfoldable pub edge : Bool
  edge = any by_read log

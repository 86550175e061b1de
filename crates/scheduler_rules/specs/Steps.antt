-- What is known where an operation of each kind changes the model: it was allowed, and its record fits.
-- Assumes nothing.
use Rattle.std.specs.Prelude.{ℕ, ◌+◌, ◌≤◌, ◌<◌, length}
use Rattle.lists.specs.Member.{◌∈◌}
use Rattle.scheduler_rules.specs.Model.{Model, max_open, max_versions, max_item, chosen, beneath, Waits, Wrote}

-- k may begin
pub record CanBegin (room : ℕ) (m : Model) (k : ℕ) : Type 0 where
  pub positive : 1 ≤ k
  pub above : m.last < k
  pub place : length m.live < max_open
  pub fits : m.used + 7 ≤ room

-- k may read x, and need not wait
pub record CanRead (room : ℕ) (m : Model) (k x : ℕ) : Type 0 where
  pub positive : 1 ≤ k
  pub item : x ≤ max_item
  pub among : k ∈ m.live
  pub ready : ¬ Waits k (chosen m x k) m
  pub fits : m.used + 16 ≤ room

-- k may write v to x, and is not late
pub record CanWrite (room : ℕ) (m : Model) (k x v : ℕ) : Type 0 where
  pub positive : 1 ≤ k
  pub item : x ≤ max_item
  pub value : v ≤ 4294967295
  pub among : k ∈ m.live
  pub first : ¬ Wrote k x m.held
  pub early : (beneath m x k).mark ≤ k
  pub place : length m.held < max_versions
  pub fits : m.used + 12 ≤ room

-- k may end, with a record of n bytes
pub record CanEnd (room : ℕ) (m : Model) (k n : ℕ) : Type 0 where
  pub positive : 1 ≤ k
  pub among : k ∈ m.live
  pub fits : m.used + n ≤ room

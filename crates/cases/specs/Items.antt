-- The logs of the page's cases over any two items: 0 and 1 stand for x and y.
-- Assumes nothing.
use Rattle.std.specs.Prelude.{ℕ, zero, suc, ◌≤◌, List, [], ◌∷◌, map, cond, ◌≢◌, ltb}
use Rattle.log_format.specs.Events.{Event, begins, reads, writes, commits, aborts}
use Rattle.history_rules.specs.WellFormed.{most_item}
use Rattle.order_rules.specs.Fields.{Field, field}

-- x and y are two items
pub record Items (x y : ℕ) : Type 0 where
  pub first : x ≤ most_item
  pub second : y ≤ most_item
  pub apart : x ≢ y

-- 0 is x, 1 is y
abbrev pub item_over : ℕ → ℕ → ℕ → ℕ
item_over x y zero = x
item_over x y (suc i) = y

abbrev pub event_over : ℕ → ℕ → Event → Event
event_over x y (begins t) = begins t
event_over x y (reads t i j v) = reads t (item_over x y i) j v
event_over x y (writes t i v) = writes t (item_over x y i) v
event_over x y (commits t) = commits t
event_over x y (aborts t c) = aborts t c

-- a log over x and y
abbrev pub over : ℕ → ℕ → List Event → List Event
over x y log = map (event_over x y) log

-- a field for each of them, the smaller item first
abbrev pub fields_for : (x : ℕ) → List ℕ → (y : ℕ) → List ℕ → List Field
fields_for x xs y ys = cond (ltb x y) (field x xs ∷ field y ys ∷ []) (field y ys ∷ field x xs ∷ [])

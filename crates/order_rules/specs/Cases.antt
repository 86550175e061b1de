-- Small version orders of one log, and whether each is right: one for each fault that the page names.
-- Assumes nothing.
use Rattle.std.specs.Prelude.{ℕ, ◌≡◌, List, [], ◌∷◌, ◌++◌, true, false}
use Rattle.log_format.specs.Events.{Event, begins, writes, commits, aborts}
use Rattle.order_rules.specs.Fields.{field, order_of}
use Rattle.order_rules.specs.Right.{right_order}
use Rattle.order_rules.specs.Timestamps.{timestamp_order}

-- 1 and 2 write item 5, 2 writes item 6, and both commit; 3, which aborts, and 4, which does not end, write item 5 too
abbrev pub four : List Event
four =
    begins 1 ∷ begins 2 ∷ begins 3 ∷ begins 4 ∷ writes 2 5 8 ∷ writes 1 5 7 ∷ writes 2 6 9 ∷ writes 3 5 1 ∷ writes 4 5 2 ∷ commits 2 ∷ commits 1
    ∷ aborts 3 0 ∷ []

-- these bytes are a right order of that log
abbrev pub Right : List ℕ → Type 0
Right s = right_order four s ≡ true

-- they are not: code 28
abbrev pub Wrong : List ℕ → Type 0
Wrong s = right_order four s ≡ false

-- each order, and what it is
pub record Cases : Type 0 where
  -- either way round; the first is the timestamp order
  pub rising : Right (order_of (field 5 (1 ∷ 2 ∷ []) ∷ field 6 (2 ∷ []) ∷ []))
  pub falling : Right (order_of (field 5 (2 ∷ 1 ∷ []) ∷ field 6 (2 ∷ []) ∷ []))
  pub timestamp : timestamp_order four ≡ order_of (field 5 (1 ∷ 2 ∷ []) ∷ field 6 (2 ∷ []) ∷ [])
  -- a stamp that is 0, aborted, unfinished, foreign, doubled
  pub initial : Wrong (order_of (field 5 (0 ∷ 1 ∷ 2 ∷ []) ∷ field 6 (2 ∷ []) ∷ []))
  pub aborted : Wrong (order_of (field 5 (1 ∷ 2 ∷ 3 ∷ []) ∷ field 6 (2 ∷ []) ∷ []))
  pub unfinished : Wrong (order_of (field 5 (1 ∷ 2 ∷ 4 ∷ []) ∷ field 6 (2 ∷ []) ∷ []))
  pub foreign : Wrong (order_of (field 5 (1 ∷ 2 ∷ []) ∷ field 6 (1 ∷ 2 ∷ []) ∷ []))
  pub doubled : Wrong (order_of (field 5 (1 ∷ 2 ∷ 1 ∷ []) ∷ field 6 (2 ∷ []) ∷ []))
  -- a committed version left out, with its item or alone
  pub left_out_lem : Wrong (order_of (field 5 (1 ∷ []) ∷ field 6 (2 ∷ []) ∷ []))
  pub item_left_out : Wrong (order_of (field 5 (1 ∷ 2 ∷ []) ∷ []))
  pub nothing : Wrong []
  pub last_item_left_out : right_order (begins 1 ∷ writes 1 63 7 ∷ commits 1 ∷ []) [] ≡ false
  -- items that fall; that are equal; a field for an item without a version; an item over 63
  pub items_fall : Wrong (order_of (field 6 (2 ∷ []) ∷ field 5 (1 ∷ 2 ∷ []) ∷ []))
  pub items_equal : Wrong (order_of (field 5 (1 ∷ 2 ∷ []) ∷ field 5 (2 ∷ 1 ∷ []) ∷ field 6 (2 ∷ []) ∷ []))
  pub item_in_parts : Wrong (order_of (field 5 (1 ∷ []) ∷ field 5 (2 ∷ []) ∷ field 6 (2 ∷ []) ∷ []))
  pub empty_field : Wrong (order_of (field 5 (1 ∷ 2 ∷ []) ∷ field 6 (2 ∷ []) ∷ field 7 [] ∷ []))
  pub item_64 : Wrong (order_of (field 5 (1 ∷ 2 ∷ []) ∷ field 6 (2 ∷ []) ∷ field 64 (2 ∷ []) ∷ []))
  -- another tag; a byte too many; the last field cut
  pub other_tag : Wrong (31 ∷ 0 ∷ 9 ∷ 5 ∷ 0 ∷ 0 ∷ 0 ∷ 1 ∷ 0 ∷ 0 ∷ 0 ∷ 2 ∷ 32 ∷ 0 ∷ 5 ∷ 6 ∷ 0 ∷ 0 ∷ 0 ∷ 2 ∷ [])
  pub byte_more : Wrong (order_of (field 5 (1 ∷ 2 ∷ []) ∷ field 6 (2 ∷ []) ∷ []) ++ 0 ∷ [])
  pub cut : Wrong (32 ∷ 0 ∷ 9 ∷ 5 ∷ 0 ∷ 0 ∷ 0 ∷ 1 ∷ 0 ∷ 0 ∷ 0 ∷ 2 ∷ 32 ∷ 0 ∷ 5 ∷ 6 ∷ 0 ∷ 0 ∷ 0 ∷ [])
  -- where no version is committed, the empty order alone is right
  pub none_committed : right_order (begins 1 ∷ writes 1 5 7 ∷ []) [] ≡ true

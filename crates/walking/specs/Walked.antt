-- What the walk leaves: the closed path stands in a part of a list, along its edges.
-- Assumes nothing.
use Rattle.std.specs.Prelude.{ℕ, ◌≤◌, ◌≡◌, List, [], Bool, drop, length, slice_range, Option, Some, None, IfSome}
use Rattle.std.specs.declared.ops.Range.{Range}
use Rattle.graph_theory.specs.Walking.{walk, walked}
use Rattle.taking.specs.Nodes.{left_of}

-- a part of a list, from a place to before a place; nothing where there is no part
unfoldable pub part_of : Option (Range ℕ) → List ℕ → List ℕ
part_of None l = []
part_of (Some r) l = slice_range l r.start r.end

-- a part, if there is one, stands within the first m places
abbrev pub IsWithin : ℕ → Option (Range ℕ) → Type 0
IsWithin m s = IfSome s (λ r. (r.start ≤ r.end) × (r.end ≤ m))

-- the walk from `at`, with the nodes passed in `path` from `top` on, finds the closed path in a part of `after`, or finds none
pub record Stepped (E : ℕ → ℕ → Bool) (n top at : ℕ) (d path after : List ℕ) (s : Option (Range ℕ)) : Type 0 where
  pub within : IsWithin (length path) s
  pub is : part_of s after ≡ walk E top (left_of n d) at (drop top path)

-- the walk from the first node left finds the closed path in a part of `after`, within its first m places, or finds none
pub record Walked (E : ℕ → ℕ → Bool) (m : ℕ) (left after : List ℕ) (s : Option (Range ℕ)) : Type 0 where
  pub within : IsWithin m s
  pub is : part_of s after ≡ walked E left

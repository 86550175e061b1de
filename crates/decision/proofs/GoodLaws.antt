-- The largest item and value that an operation may have, by its kind.
-- Assumes nothing.
use Prim.Native.Nat.{ℕ, ◌≤◌}
use native.Mathlib.Omega.{arith}
use native.Mathlib.Decide.{ℕ_discrete}
use Rattle.lists.specs.Choice.{either}
use Rattle.lists.proofs.ChoiceLaws.{pick_by}
use Rattle.scheduler_rules.specs.Model.{max_item}
use Rattle.scheduler_rules.specs.Table.{Good}
use Rattle.scheduler_rules.specs.declared.Op.{Op}

-- a good operation's item is one of 64
pub item_low : (op : Op) → Good op → op.item ≤ max_item
item_low op g = pick_by (λ (n : ℕ). op.item ≤ n → op.item ≤ max_item) (either (ℕ_discrete op.kind 2) (ℕ_discrete op.kind 3)) (λ _ h. h) (λ _ h. omega arith) g.item

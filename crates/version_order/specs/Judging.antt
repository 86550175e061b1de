-- What the parts of the judging of a version order answer and leave. A cell is the place of a node's rank for an item: 64 cells a node.
-- Assumes nothing.
use mathlib.Core.HLevel.{×_prop, Unit-prop}
use native.Mathlib.Bridge.{le_prop}
use Rattle.std.specs.Prelude.{ℕ, suc, ◌-◌, ◌/◌, ◌%◌, ◌≤◌, ◌<◌, ◌≡◌, ◌≢◌, List, [], ◌∷◌, Bool, true, false, cond, ◌&&◌, eqb, length, get_or, set, Result, Ok, Err, ⊤}
use Rattle.numbers.specs.Numbers.{items}
use Rattle.lists.specs.Member.{Rising}
use Rattle.history_rules.specs.WellFormed.{most_item}
use Rattle.history_rules.specs.Faults.{differ}
use Rattle.order_rules.specs.Fields.{vs_of}
use Rattle.order_rules.specs.Reading.{fields_of}
use Rattle.order_rules.specs.Right.{is_version, each_once, right_by}
use Rattle.order_rules.specs.Ranks.{rank_in, rank_at, Ranks}
use Rattle.order_rules.specs.declared.BadOrder.{BadOrder}

-- that stamps rise is a fact, which nothing else hangs on
pub Rising-prop : (n : ℕ) (l : List ℕ) → IsProp (Rising n l)
Rising-prop n [] = Unit-prop
Rising-prop n (k ∷ l) = ×_prop le_prop (Rising-prop (suc k) l)

-- whether an order, or a part of one, is not refused
abbrev pub passes : Result ⊤ BadOrder → Bool
passes (Ok u) = true
passes (Err e) = false

-- no node has a rank for the item
abbrev pub Clear : List ℕ → ℕ → List ℕ → Type 0
Clear nodes x rank = (p : ℕ) → p < length nodes → get_or rank (rank_at p x) 0 ≡ 0

-- the cell of stamp k, one of the nodes, and item x
abbrev pub cell_of : List ℕ → ℕ → ℕ → ℕ
cell_of nodes x k = rank_at (rank_in k nodes - 1) x

-- one stamp noted: a committed version without a rank gets this one; any other is refused, and nothing changes
pub record Noted (wr : ℕ → ℕ → ℕ) (nodes : List ℕ) (x k place : ℕ) (rank : List ℕ) (r : Bool) (rank' : List ℕ) : Type 0 where
  pub answer : r ≡ (is_version wr nodes x k && eqb (get_or rank (cell_of nodes x k) 0) 0)
  pub cells : rank' ≡ cond r (set rank (cell_of nodes x k) place) rank

-- the stamps of a field noted: the answer is the test; if it passes the item's cells have their ranks; no other item's cell changes
pub record FieldRanked (wr : ℕ → ℕ → ℕ) (nodes : List ℕ) (x : ℕ) (ks rank : List ℕ) (r : Bool) (rank' : List ℕ) : Type 0 where
  pub answer : r ≡ each_once wr nodes x [] ks
  pub own : r ≡ true → (p : ℕ) → p < length nodes → get_or rank' (rank_at p x) 0 ≡ rank_in (get_or nodes p 0) ks
  pub others : (p y : ℕ) → p < length nodes → y ≤ most_item → y ≢ x → get_or rank' (rank_at p y) 0 ≡ get_or rank (rank_at p y) 0

-- a committed version whose cell has no rank
abbrev pub gap_at : (ℕ → ℕ → ℕ) → List ℕ → List ℕ → ℕ → Bool
gap_at wr nodes rank q = eqb (get_or rank q 0) 0 && differ (wr (get_or nodes (q / items) 0) (q % items)) 0

-- the whole order judged: the answer is the test of code 28; if it passes, each cell has its rank
pub record Ranked (wr : ℕ → ℕ → ℕ) (nodes s : List ℕ) (r : Bool) (rank' : List ℕ) : Type 0 where
  pub answer : r ≡ right_by wr nodes s
  pub ranks : r ≡ true → Ranks nodes (vs_of (fields_of s)) rank'

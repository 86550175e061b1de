-- A model that is not damaged: the page's list of damage, over lists without padding.
-- Assumes nothing.
use Rattle.std.specs.Prelude.{ℕ, ◌≤◌, ◌≡◌, List, [], ◌∷◌, length, get_or}
use Rattle.lists.specs.Member.{◌∈◌, Rising}
use Rattle.scheduler_rules.specs.Model.{Version, Model, Before, max_open, max_versions, max_item}

-- versions rise strictly by item, then stamp
abbrev pub Sorted : List Version → Type 0
Sorted [] = Unit {0}
Sorted (u ∷ l) = ((w : Version) → w ∈ l → Before u w) × Sorted l

-- a version's item is at most 63, its stamp is not 0, and neither its stamp nor its mark is above the last begun one
pub record Proper (last : ℕ) (u : Version) : Type 0 where
  pub item : u.item ≤ max_item
  pub positive : 1 ≤ u.stamp
  pub stamp : u.stamp ≤ last
  pub mark : u.mark ≤ last

-- no count passes its limit, open stamps and versions rise strictly, stamps and marks are within the last begun one, and so on
pub record Sound (m : Model) : Type 0 where
  pub opens : length m.live ≤ max_open
  pub rising : Rising 1 m.live
  pub opened : (k : ℕ) → k ∈ m.live → k ≤ m.last
  pub holds : length m.held ≤ max_versions
  pub sorted : Sorted m.held
  pub proper : (u : Version) → u ∈ m.held → Proper m.last u
  pub wide : length m.marks ≡ 64
  pub marked : (x : ℕ) → get_or m.marks x 0 ≤ m.last
  pub header : 4 ≤ m.used
  pub short : m.used ≤ 65536

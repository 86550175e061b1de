-- Stamps that rise: where one stands, and what a slice is after one is added to its first places.
-- Assumes nothing.
use Rattle.std.specs.Prelude.{ℕ, ◌<◌, ◌≡◌, List, Option, MatchOption, length, take, drop, get_or}
use Rattle.lists.specs.Member.{◌∈◌}
use Rattle.lists.specs.Order.{insert}

-- k stands in the list at the place p
pub record StandsAt (a : List ℕ) (k p : ℕ) : Type 0 where
  pub within : p < length a
  pub here : get_or a p 0 ≡ k

-- r is the place of k in the list, or none where k is none of its stamps
abbrev pub Located : (a : List ℕ) (k : ℕ) (r : Option ℕ) → Type 0
Located a k r = MatchOption r (¬ (k ∈ a)) (StandsAt a k)

-- the first m of b are the first n of a and k, and past them b is as a was
pub record Added (a : List ℕ) (n k : ℕ) (b : List ℕ) (m : ℕ) : Type 0 where
  pub first : take m b ≡ insert k (take n a)
  pub count : m ≡ length (insert k (take n a))
  pub rest : drop m b ≡ drop m a

-- Which of two versions comes first, by numbers: a version's rank is its place in its item's list, counted from 1. Version 0 has rank 0.
-- Assumes nothing.
use Rattle.std.specs.Prelude.{ℕ, suc, ◌+◌, ◌*◌, ◌≤◌, ◌<◌, ◌≡◌, List, [], ◌∷◌, cond, eqb, length, get_or}
use Rattle.history_rules.specs.WellFormed.{most_item}

-- the place of k, where the list's first has the place i; 0 where k does not stand there
unfoldable pub rank_from : ℕ → ℕ → List ℕ → ℕ
rank_from i k [] = 0
rank_from i k (a ∷ l) = cond (eqb k a) i (rank_from (suc i) k l)

-- one more than the place of k, or 0
abbrev pub rank_in : ℕ → List ℕ → ℕ
rank_in k l = rank_from 1 k l

-- where the rank of node p's version of x stands
abbrev pub rank_at : ℕ → ℕ → ℕ
rank_at p x = p * 64 + x

-- rank holds, for each node and item, the rank of the node's version of the item, 0 where it has none
abbrev pub Ranks : List ℕ → (ℕ → List ℕ) → List ℕ → Type 0
Ranks nodes vs rank = (p x : ℕ) → p < length nodes → x ≤ most_item → get_or rank (rank_at p x) 0 ≡ rank_in (get_or nodes p 0) (vs x)

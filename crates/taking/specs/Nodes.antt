-- The nodes by their numbers, and which of them are left: each has a number, which is 0 once it is taken.
-- Assumes nothing.
use Rattle.std.specs.Prelude.{ℕ, zero, suc, ◌+◌, ◌<◌, ◌≡◌, List, [], ◌∷◌, filter, Bool, true, false, not, eqb, get_or, Option, MatchOption}

-- i, i + 1, ..: m numbers
abbrev pub up_from : ℕ → ℕ → List ℕ
up_from i zero = []
up_from i (suc m) = i ∷ up_from (suc i) m

-- the nodes: 0, 1, .. below n
abbrev pub indices : ℕ → List ℕ
indices n = up_from 0 n

-- 1 where the test passes, else 0
abbrev pub bit : Bool → ℕ
bit true = 1
bit false = 0

-- how many of the list pass the test
abbrev pub tally : (ℕ → Bool) → List ℕ → ℕ
tally p [] = 0
tally p (a ∷ l) = bit (p a) + tally p l

-- a node is left while its number is not 0
abbrev pub is_left : List ℕ → ℕ → Bool
is_left d k = not (eqb (get_or d k 0) 0)

-- the nodes left, rising
unfoldable pub left_of : ℕ → List ℕ → List ℕ
left_of n d = filter (is_left d) (indices n)

-- none below n passes the test
abbrev pub NoneOf : (p : ℕ → Bool) (n : ℕ) → Type 0
NoneOf p n = (j : ℕ) → j < n → p j ≡ false

-- r is the first below n that passes the test
pub record IsFirst (p : ℕ → Bool) (n r : ℕ) : Type 0 where
  pub within : r < n
  pub here : p r ≡ true
  pub before : (j : ℕ) → j < r → p j ≡ false

-- r is the first below n that passes the test, or none where none does
abbrev pub FirstOf : (p : ℕ → Bool) (n : ℕ) (r : Option ℕ) → Type 0
FirstOf p n r = MatchOption r (NoneOf p n) (IsFirst p n)

-- Tests that compute, over the elements of a list.
-- Assumes nothing.
use Rattle.std.specs.Prelude.{List, [], ◌∷◌, Bool, true, false, cond}
use Rattle.std.proofs.Math.Option.{Option, some, none}

-- whether one of l passes the test
abbrev pub any : {A : Type 0} → (A → Bool) → List A → Bool
any p [] = false
any p (a ∷ l) = cond (p a) true (any p l)

-- the first of l that passes the test
abbrev pub first : {A : Type 0} → (A → Bool) → List A → Option A
first p [] = none
first p (a ∷ l) = cond (p a) (some a) (first p l)

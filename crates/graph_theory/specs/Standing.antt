-- Nodes that stand for others, as places in a rising list stand for its stamps: f keeps the order and the edges of the nodes below n.
-- Assumes nothing.
use Rattle.std.specs.Prelude.{ℕ, ◌<◌, ◌≡◌, map, Bool, eqb, ltb}
use Rattle.graph_theory.specs.Verdict.{Verdict, accepted, cycle}

-- f x has an edge of D to f y exactly where x has one of E to y; f x is below f y, or equal to it, exactly where x is
pub record Stands (E D : ℕ → ℕ → Bool) (f : ℕ → ℕ) (n : ℕ) : Type 0 where
  pub edges : (x y : ℕ) → x < n → y < n → D (f x) (f y) ≡ E x y
  pub order : (x y : ℕ) → x < n → y < n → ltb (f x) (f y) ≡ ltb x y
  pub same : (x y : ℕ) → x < n → y < n → eqb (f x) (f y) ≡ eqb x y

-- the verdict over the nodes that are stood for
abbrev pub renamed : (ℕ → ℕ) → Verdict → Verdict
renamed f (accepted o) = accepted (map f o)
renamed f (cycle c) = cycle (map f c)

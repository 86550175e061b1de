-- What the parts of drawing a read leave in the matrix, as relations.
-- Assumes nothing.
use Rattle.std.specs.Prelude.{ℕ, ◌+◌, ◌*◌, ◌<◌, ◌≡◌, List, ◌⊎◌, ◌≢◌, true, length, get_or}
use Rattle.edges.specs.Matrix.{most_nodes, edge_at}

-- the matrix e has the edges of m and those of R, and no others
pub record Adds (R : ℕ → ℕ → Type 0) (m e : List ℕ) : Type 0 where
  pub size : length e ≡ length m
  pub kept : (a b : ℕ) → a < most_nodes → b < most_nodes → edge_at m a b ≡ true → edge_at e a b ≡ true
  pub sets : (a b : ℕ) → a < most_nodes → b < most_nodes → R a b → edge_at e a b ≡ true
  pub only : (a b : ℕ) → a < most_nodes → b < most_nodes → edge_at e a b ≡ true → (edge_at m a b ≡ true) ⊎ R a b

-- the edge for the version of node i, of rank p, beside k's read from j, whose version has rank r
pub data One (i p k j r : ℕ) : ℕ → ℕ → Type 0 where
  comes_before : i ≢ k → 0 < p → p < r → One i p k j r i j
  comes_after : i ≢ k → 0 < p → r < p → One i p k j r k i

-- the edges for the versions of x of the nodes below t
abbrev pub Others : (rank : List ℕ) (x k j r t : ℕ) → ℕ → ℕ → Type 0
Others rank x k j r t a b = (i : ℕ) × (i < t) × One i (get_or rank (i * 64 + x) 0) k j r a b

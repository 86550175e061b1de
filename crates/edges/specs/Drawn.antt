-- The edges that one read draws, over nodes and ranks: the page's rule as a test on the numbers that a program keeps.
-- Assumes nothing.
use Rattle.std.specs.Prelude.{ℕ, ◌+◌, ◌*◌, ◌<◌, ◌≡◌, List, Bool, cond, not, ◌&&◌, ◌||◌, eqb, ltb, length, get_or}
use Rattle.edges.specs.Matrix.{most_nodes, edge_at}

-- the rank of node i's version of x: one more than its place among x's versions, 0 where it has none. Version 0 is of no node, so it stands for a
-- number past the nodes; its rank is 0, as it comes first
abbrev pub rank_at : (rank : List ℕ) (count x i : ℕ) → ℕ
rank_at rank count x i = cond (ltb i count) (get_or rank (i * 64 + x) 0) 0

-- k reads x from j; of the nodes below count
module _ (rank : List ℕ) (count k x j : ℕ) where
  -- whether node i, other than j and k, has a version of x
  abbrev pub is_writer : ℕ → Bool
  is_writer i = not (eqb i j) && (not (eqb i k) && ltb 0 (rank_at rank count x i))

  -- if j is not version 0, an edge from j to k
  abbrev pub from_read : ℕ → ℕ → Bool
  from_read a b = ltb j count && (eqb a j && eqb b k)

  -- for each other writer: if its version comes before version j, an edge from it to j
  abbrev pub from_before : ℕ → ℕ → Bool
  from_before a b = is_writer a && (ltb (rank_at rank count x a) (rank_at rank count x j) && eqb b j)

  -- if after, an edge from k to it
  abbrev pub from_after : ℕ → ℕ → Bool
  from_after a b = is_writer b && (ltb (rank_at rank count x j) (rank_at rank count x b) && eqb a k)

  -- whether the read draws an edge from a to b; a read of one's own version draws none
  unfoldable pub drawn : ℕ → ℕ → Bool
  drawn a b = not (eqb j k) && (from_read a b || (from_before a b || from_after a b))

  -- the matrix e has the edges of m and those that the read draws, and no others
  pub record Drew (m e : List ℕ) : Type 0 where
    pub size : length e ≡ length m
    pub edges : (a b : ℕ) → a < most_nodes → b < most_nodes → edge_at e a b ≡ (edge_at m a b || drawn a b)

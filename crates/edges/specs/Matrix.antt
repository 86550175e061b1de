-- The edges between nodes as a matrix of bytes: at most 256 nodes, named by their numbers 0, 1, ..; a row for the node that an edge leads from, a
-- column for the one that it leads to.
-- Assumes nothing.
use Rattle.std.specs.Prelude.{ℕ, ◌+◌, ◌*◌, List, Bool, eqb, get_or, set}

-- how many nodes a matrix has room for, and how many bytes it takes
abbrev pub most_nodes : ℕ
most_nodes = 256

abbrev pub matrix_size : ℕ
matrix_size = 65536

-- whether there is an edge from a to b: the byte of row a and column b is 1
abbrev pub edge_at : List ℕ → ℕ → ℕ → Bool
edge_at m a b = eqb (get_or m (a * 256 + b) 0) 1

-- m with the edge from a to b
abbrev pub with_edge : List ℕ → ℕ → ℕ → List ℕ
with_edge m a b = set m (a * 256 + b) 1

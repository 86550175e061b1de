-- What drawing a log's reads takes and leaves: nodes, ranks, and a matrix with the log's edges.
-- Assumes nothing.
use Rattle.std.specs.Prelude.{ℕ, ◌*◌, ◌≤◌, ◌≡◌, List, ◌∷◌, length, take, replicate}
use Rattle.numbers.specs.Numbers.{items}
use Rattle.lists.specs.Member.{◌∈◌, Rising}
use Rattle.log_format.specs.Events.{Event}
use Rattle.history_rules.specs.History.{passed, history_of}
use Rattle.serial_theory.specs.Edges.{Regular, VersionOrder}
use Rattle.edges.specs.Matrix.{most_nodes, matrix_size}
use Rattle.edges.specs.Ranked.{Ranked, EdgesOf}

-- at most 256 nodes, rising, and 64 ranks for each
pub record Tables (nodes rank : List ℕ) (count : ℕ) : Type 0 where
  pub few : count ≤ most_nodes
  pub within : count ≤ length nodes
  pub rising : Rising 0 (take count nodes)
  pub ranks : count * items ≤ length rank

-- an event of a log drawn: where m has the edges of a part of the log, m' has those of the event and the part
pub record DrewEvent (nodes rank : List ℕ) (count : ℕ) (e : Event) (m m' : List ℕ) : Type 0 where
  pub size : length m' ≡ length m
  pub edges : (log : List Event) (vs : ℕ → List ℕ) (part : List Event) → Regular log → VersionOrder log vs → Ranked log vs nodes rank count → e ∈ log
      → EdgesOf log vs nodes count part m → EdgesOf log vs nodes count (e ∷ part) m'

-- the tables, and a matrix of zeros
pub record Drawable (nodes rank : List ℕ) (count : ℕ) (m : List ℕ) : Type 0 where
  pub tables : Tables nodes rank count
  pub blank : m ≡ replicate matrix_size 0

-- if the log s passes, and the tables are those of it and of a version order, the matrix has its edges, and no others
pub record DrewAll (s nodes rank : List ℕ) (count : ℕ) (m : List ℕ) : Type 0 where
  pub size : length m ≡ matrix_size
  pub edges : (log : List Event) (vs : ℕ → List ℕ) → history_of s ≡ passed log → VersionOrder log vs → Ranked log vs nodes rank count
      → EdgesOf log vs nodes count log m

-- The multiversion graph: the edges that a log and a version order draw between committed transactions. A log is its events, first to last.
-- Assumes nothing.
use Rattle.std.specs.Prelude.{ℕ, List, [], ◌∷◌, ◌≢◌}
use Rattle.lists.specs.Order.{Before, Lists}
use Rattle.log_format.specs.Events.{Event}
use Rattle.log_format.specs.Told.{Got, Puts, Done}
use Rattle.history_rules.specs.WellFormed.{AllRight}

-- none of 23, 24, 25 and 27 applies, however many transactions commit
pub record Regular (log : List Event) : Type 0 where
  pub right : AllRight [] log
  pub from : (t x j v : ℕ) → Done t log → Got t x j v log → j ≢ 0 → Done j log

-- i has a committed version of x
abbrev pub Version : List Event → ℕ → ℕ → Type 0
Version log x i = Done i log × Puts i x log

-- vs x lists the committed versions of x by their stamps, each once, oldest first
abbrev pub VersionOrder : List Event → (ℕ → List ℕ) → Type 0
VersionOrder log vs = (x : ℕ) → Lists (Version log x) (vs x)

-- version 0 comes first
abbrev pub versions : (ℕ → List ℕ) → ℕ → List ℕ
versions vs x = 0 ∷ vs x

-- committed k reads x from j, with j not k
pub record ReadsFrom (log : List Event) (k x j : ℕ) : Type 0 where
  pub value : ℕ
  pub done : Done k log
  pub got : Got k x j value log
  pub other : j ≢ k

-- committed i other than j and k wrote x
pub record Wrote (log : List Event) (i x j k : ℕ) : Type 0 where
  pub done : Done i log
  pub put : Puts i x log
  pub not_j : i ≢ j
  pub not_k : i ≢ k

-- the edges that k's read of x from j draws
pub data Draws (log : List Event) (vs : ℕ → List ℕ) (k x j : ℕ) : ℕ → ℕ → Type 0 where
  -- if j is not 0, an edge from j to k
  reads_from : j ≢ 0 → Draws log vs k x j j k
  -- for each committed i other than j and k that wrote x: if x's version i comes before version j, an edge from i to j
  comes_before : {i : ℕ} → Wrote log i x j k → Before (versions vs x) i j → Draws log vs k x j i j
  -- if after, an edge from k to i
  comes_after : {i : ℕ} → Wrote log i x j k → Before (versions vs x) j i → Draws log vs k x j k i

-- for each committed k reading x from j, with j not k
pub data Edge (log : List Event) (vs : ℕ → List ℕ) (a b : ℕ) : Type 0 where
  drawn : {k x j : ℕ} → ReadsFrom log k x j → Draws log vs k x j a b → Edge log vs a b

-- What the numbers that a program keeps say of a log and its version order, and which edges a matrix then has.
-- Assumes nothing.
use Rattle.std.specs.Prelude.{ℕ, suc, ◌+◌, ◌*◌, ◌≤◌, ◌<◌, ◌≡◌, List, cond, ltb, length, get_or, take}
use Rattle.lists.specs.Member.{◌∈◌}
use Rattle.lists.specs.Tests.{any}
use Rattle.log_format.specs.Events.{Event}
use Rattle.history_rules.specs.WellFormed.{most_item}
use Rattle.serial_theory.specs.EdgeTest.{by_read}
use Rattle.serial_theory.specs.Judged.{committed}
use Rattle.edges.specs.Matrix.{edge_at}

-- r is the rank of t in l: one more than a place where t stands, or 0 where t does not stand in it
pub record IsRank (t : ℕ) (l : List ℕ) (r : ℕ) : Type 0 where
  pub none : r ≡ 0 → ¬ (t ∈ l)
  pub place : (p : ℕ) → r ≡ suc p → (p < length l) × (get_or l p 0 ≡ t)

-- the first `count` of `nodes` are the committed transactions, rising; `rank` has the rank of each node among the versions of each item
pub record Ranked (log : List Event) (vs : ℕ → List ℕ) (nodes rank : List ℕ) (count : ℕ) : Type 0 where
  pub room : count ≤ length nodes
  pub all : take count nodes ≡ committed log
  pub ranks : (i x : ℕ) → i < count → x ≤ most_item → IsRank (get_or nodes i 0) (vs x) (get_or rank (i * 64 + x) 0)

-- the stamp that a number stands for: a node's, or 0 for one past the nodes
abbrev pub stamp_at : (nodes : List ℕ) (count i : ℕ) → ℕ
stamp_at nodes count i = cond (ltb i count) (get_or nodes i 0) 0

-- between the nodes, the matrix has the edges that the reads of a part of the log draw, and no others
abbrev pub EdgesOf : (log : List Event) (vs : ℕ → List ℕ) (nodes : List ℕ) (count : ℕ) (part : List Event) (m : List ℕ) → Type 0
EdgesOf log vs nodes count part m =
    (a b : ℕ) → a < count → b < count → edge_at m a b ≡ any (by_read log vs (get_or nodes a 0) (get_or nodes b 0)) part

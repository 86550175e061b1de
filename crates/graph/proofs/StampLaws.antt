-- From nodes to stamps: the nodes below `count` stand for the stamps, which rise, so the verdict over the matrix is the verdict over the stamps, and
-- where the matrix has the edges of a log under a version order it is the log's.
-- Assumes nothing.
use Prim.Native.Nat.{ℕ, zero, suc, ◌+◌, ◌≤◌, ◌<◌}
use native.Mathlib.Omega.{arith}
use mathlib.Core.Path.{◌≡◌, refl, sym, ◌∙◌, ap}
use mathlib.Core.Logic.{◌↔◌}
use mathlib.Core.List.{List, ◌∷◌, map}
use mathlib.Core.Bool.{Bool, true}
use lib.ListN.{length, take, drop, get_or}
use lib.Seq.{drop-cons, length-take-le, get_or-take}
use Rattle.lists.specs.Member.{Rising}
use Rattle.lists.proofs.TestLaws.{same_test}
use Rattle.log_format.specs.Events.{Event}
use Rattle.graph_theory.specs.Verdict.{verdict_of}
use Rattle.graph_theory.specs.Standing.{Stands, renamed}
use Rattle.graph_theory.proofs.StandingLaws.{verdict-map, places_stand}
use Rattle.serial_theory.specs.Edges.{Edge}
use Rattle.serial_theory.specs.EdgeTest.{edge}
use Rattle.serial_theory.specs.Judged.{committed, verdict}
use Rattle.serial_theory.proofs.CommittedLaws.{committed_rising}
use Rattle.serial_theory.proofs.EdgeLaws.{edge_true, true_edge}
use Rattle.edges.specs.Matrix.{edge_at}
use Rattle.edges.specs.Ranked.{EdgesOf}
use Rattle.edges.proofs.DrawingLaws.{edges_all}
use Rattle.taking.specs.Nodes.{up_from, indices}
use Rattle.graph.specs.Answer.{verdict_at}
use Rattle.taking.proofs.NodesLaws.{index_below}

module _ (nodes : List ℕ) where
  abbrev node : ℕ → ℕ
  node k = get_or nodes k 0

  map-up_from : (m i : ℕ) → i + m ≤ length nodes → map node (up_from i m) ≡ take m (drop i nodes)
  map-up_from zero i h = refl
  map-up_from (suc m) i h = rw (drop-cons nodes i 0 (omega arith)) (ap (λ (t : List ℕ). node i ∷ t) (map-up_from m (suc i) (omega arith)))

  module _ (count : ℕ) (room : count ≤ length nodes) (rises : Rising 0 (take count nodes)) where
    same_at : (i : ℕ) → i < count → get_or (take count nodes) i 0 ≡ node i
    same_at i h = get_or-take count nodes i 0 h

    size : length (take count nodes) ≡ count
    size = length-take-le count nodes room

    stands : (E D : ℕ → ℕ → Bool) → ((x y : ℕ) → x < count → y < count → D (node x) (node y) ≡ E x y) → Stands E D node count
    stands E D edges =
        let s = places_stand (take count nodes) 0 rises E D
        (λ x y u v. rw (same_at x (omega (arith, size)), same_at y (omega (arith, size))) (edges x y (omega (arith, size)) (omega (arith, size)))) in
        record {
          edges = edges;
          order = λ x y u v. rw (same_at x u, same_at y v) at (s.order x y (omega (arith, size)) (omega (arith, size)));
          same = λ x y u v. rw (same_at x u, same_at y v) at (s.same x y (omega (arith, size)) (omega (arith, size)));
        }

    -- the verdict over the nodes, with their stamps, is the verdict over the stamps
    pub stamps_verdict : (E D : ℕ → ℕ → Bool) → ((x y : ℕ) → x < count → y < count → D (node x) (node y) ≡ E x y)
        → renamed node (verdict_of E (indices count)) ≡ verdict_of D (take count nodes)
    stamps_verdict E D edges =
        sym (ap (verdict_of D) (sym (map-up_from count 0 (omega arith)))
        ∙ verdict-map E D node count (stands E D edges) (indices count) (λ x m. index_below count x m))

module _ (log : List Event) (vs : ℕ → List ℕ) (nodes : List ℕ) (count : ℕ) (room : count ≤ length nodes) (all : take count nodes ≡ committed log)
    (m : List ℕ) where
  -- where the matrix is the test of the log's edges, its verdict is the log's
  pub matrix_verdict : ((a b : ℕ) → a < count → b < count → edge log vs (get_or nodes a 0) (get_or nodes b 0) ≡ edge_at m a b)
      → verdict_at m count nodes ≡ verdict log vs
  unfolding verdict_at verdict
  matrix_verdict edges =
      stamps_verdict nodes count room (rw all (committed_rising log)) (edge_at m) (edge log vs) edges ∙ ap (verdict_of (edge log vs)) all

  -- where the matrix has exactly the edges of the log between committed transactions
  pub matrix_edges : ((a b : ℕ) → a < count → b < count → (edge_at m a b ≡ true) ↔ Edge log vs (get_or nodes a 0) (get_or nodes b 0))
      → verdict_at m count nodes ≡ verdict log vs
  matrix_edges edges = matrix_verdict (λ a b u v. same_test (edge log vs (get_or nodes a 0) (get_or nodes b 0)) (edge_at m a b)
      (λ e. (edges a b u v).1 (edge_true log vs (get_or nodes a 0) (get_or nodes b 0) e))
      (λ e. true_edge log vs ((edges a b u v).0 e)))

  -- where all reads of the log are drawn
  pub drawn_verdict : EdgesOf log vs nodes count log m → verdict_at m count nodes ≡ verdict log vs
  drawn_verdict h = matrix_verdict (edges_all log vs nodes count m h)

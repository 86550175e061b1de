-- The reads of a log drawn one after the other, in any order: what one more event adds to the edges of a part of the log, and that the edges of the
-- whole log are the theory's.
-- Assumes nothing.
use Prim.Native.Nat.{ℕ, ◌≤◌, ◌<◌}
use native.Mathlib.Omega.{arith}
use mathlib.Core.Path.{◌≡◌, refl, sym, ◌∙◌, ap}
use mathlib.Core.Logic.{◌↔◌}
use mathlib.Core.List.{List, [], ◌∷◌}
use mathlib.Core.Bool.{Bool, true, false, cond, ◌||◌}
use lib.ListN.{get_or, replicate}
use Rattle.lists.specs.Member.{◌∈◌}
use Rattle.lists.specs.Tests.{any}
use Rattle.lists.proofs.TestLaws.{same_test, not_passed, any_true, any-holds}
use Rattle.log_format.specs.Events.{Event, reads}
use Rattle.log_format.specs.Told.{Done}
use Rattle.log_format.proofs.ToldLaws.{got_is}
use Rattle.serial_theory.specs.Edges.{Regular, VersionOrder}
use Rattle.serial_theory.specs.EdgeTest.{by_read, edge}
use Rattle.serial_theory.proofs.RegularLaws.{read_item}
use Rattle.serial_theory.proofs.EdgeLaws.{read_true}
use Rattle.edges.specs.Matrix.{most_nodes, matrix_size, edge_at}
use Rattle.edges.specs.Drawn.{Drew}
use Rattle.edges.specs.Ranked.{Ranked, stamp_at, EdgesOf}
use Rattle.edges.proofs.MatrixLaws.{no_edge}
use Rattle.edges.proofs.RankedLaws.{drawn_read}

or_cond : (a b : Bool) → (a || b) ≡ cond b true a
or_cond true true = refl
or_cond true false = refl
or_cond false true = refl
or_cond false false = refl

-- a read whose reader never commits draws no edge
pub unfinished-read : (log : List Event) (vs : ℕ → List ℕ) (k x j v : ℕ) → ¬ Done k log → (a b : ℕ) → by_read log vs a b (reads k x j v) ≡ false
unfinished-read log vs k x j v n a b = not_passed (by_read log vs a b (reads k x j v)) (λ e. n (read_true log vs a b k x j v e).0)

module _ (log : List Event) (vs : ℕ → List ℕ) (nodes : List ℕ) (count : ℕ) where
  -- no read is drawn in a matrix of zeros
  pub edges_none : count ≤ most_nodes → EdgesOf log vs nodes count [] (replicate matrix_size 0)
  edges_none h a b u v = no_edge a b (omega arith) (omega arith)

  -- an event that draws no edge
  pub edges_skip : (e : Event) (part : List Event) (m : List ℕ) → ((a b : ℕ) → by_read log vs a b e ≡ false) → EdgesOf log vs nodes count part m
      → EdgesOf log vs nodes count (e ∷ part) m
  edges_skip e part m f h a b u v = rw (f (get_or nodes a 0) (get_or nodes b 0)) (h a b u v)

  -- a committed transaction's read
  pub edges_read : (rank : List ℕ) → Ranked log vs nodes rank count → Regular log → VersionOrder log vs → count ≤ most_nodes
      → (k x j v : ℕ) → k < count → reads (get_or nodes k 0) x (stamp_at nodes count j) v ∈ log
      → (part : List Event) (m e : List ℕ) → Drew rank count k x j m e → EdgesOf log vs nodes count part m
      → EdgesOf log vs nodes count (reads (get_or nodes k 0) x (stamp_at nodes count j) v ∷ part) e
  edges_read rank r g vo few k x j v c i part m e d h a b u w =
      let item = read_item log g (get_or nodes k 0) x (stamp_at nodes count j) v ((got_is (get_or nodes k 0) x (stamp_at nodes count j) v log).1 i) in
      d.edges a b (omega arith) (omega arith)
      ∙ or_cond (edge_at m a b) _
      ∙ ap (λ (t : Bool). cond t true (edge_at m a b)) (drawn_read log vs nodes rank count r g vo x item k j v c i a b u w)
      ∙ ap (λ (t : Bool). cond (by_read log vs (get_or nodes a 0) (get_or nodes b 0) (reads (get_or nodes k 0) x (stamp_at nodes count j) v)) true t)
      (h a b u w)

  -- the order of the events does not matter
  pub edges_same : (part more : List Event) (m : List ℕ) → ((e : Event) → (e ∈ part) ↔ (e ∈ more)) → EdgesOf log vs nodes count part m
      → EdgesOf log vs nodes count more m
  edges_same part more m s h a b u v =
      let p : Event → Bool = by_read log vs (get_or nodes a 0) (get_or nodes b 0) in
      h a b u v
      ∙ same_test (any p part) (any p more)
      (λ t. let q = any_true p part t in any-holds p more q.0 ((s q.0).0 q.1) q.2)
      (λ t. let q = any_true p more t in any-holds p part q.0 ((s q.0).1 q.1) q.2)

  -- with all its events, the matrix has the edges of the log
  pub edges_all : (m : List ℕ) → EdgesOf log vs nodes count log m → (a b : ℕ) → a < count → b < count
      → edge log vs (get_or nodes a 0) (get_or nodes b 0) ≡ edge_at m a b
  unfolding edge
  edges_all m h a b u v = sym (h a b u v)

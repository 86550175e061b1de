-- The verdict on a log. Edges only join committed transactions, so a closed path along edges is a cycle among the nodes; the rest is the theory
-- of any graph (graph_theory) and of topological orders (SerialLaws).
-- Assumes nothing.
use Prim.Native.Nat.{ℕ, ◌<◌}
use native.Mathlib.Omega.{arith}
use mathlib.Core.Path.{◌≡◌}
use mathlib.Core.Logic.{inl, inr, ◌↔◌}
use mathlib.Core.List.{List, []}
use Rattle.lists.specs.Member.{◌∈◌}
use Rattle.lists.proofs.OrderLaws.{before_right}
use Rattle.log_format.specs.Events.{Event}
use Rattle.log_format.specs.Told.{Done}
use Rattle.history_rules.specs.WellFormed.{WellFormed}
use Rattle.graph_theory.specs.Graph.{Cycle}
use Rattle.graph_theory.specs.Verdict.{Verdict, accepted, cycle, Accepts, Rule, Says}
use Rattle.graph_theory.proofs.GraphLaws.{edge_into, topological_no_cycle}
use Rattle.graph_theory.proofs.VerdictLaws.{verdict_rule, rule_unique, verdict_says, upward_accepted}
use Rattle.serial_theory.specs.Edges.{Regular, VersionOrder, Edge, drawn, reads_from, comes_before, comes_after}
use Rattle.serial_theory.specs.EdgeTest.{edge}
use Rattle.serial_theory.specs.Judged.{committed, verdict, CycleOf, Judged}
use Rattle.serial_theory.proofs.RegularLaws.{regular}
use Rattle.serial_theory.proofs.CommittedLaws.{committed_rising, committed_is, committed-number}
use Rattle.serial_theory.proofs.EdgeLaws.{edge_decides}
use Rattle.serial_theory.proofs.SerialLaws.{one_serializable, one_serializable_versions}

module _ (log : List Event) (vs : ℕ → List ℕ) where
  -- what computes the verdict follows the page's rule, whatever the log
  pub verdict_follows : Rule (Edge log vs) (committed log) (verdict log vs)
  unfolding verdict
  verdict_follows = verdict_rule (edge log vs) (Edge log vs) (edge_decides log vs) 0 (committed log) (committed_rising log)

  -- and the rule has one answer
  pub verdict_unique : (u v : Verdict) → Rule (Edge log vs) (committed log) u → Rule (Edge log vs) (committed log) v → u ≡ v
  verdict_unique = rule_unique (edge log vs) (Edge log vs) (edge_decides log vs) 0 (committed log) (committed_rising log)

  -- where each edge leads from a smaller stamp to a larger, the log is accepted with its stamps rising
  pub rising_accepted : ((a b : ℕ) → Edge log vs a b → a < b) → verdict log vs ≡ accepted (committed log)
  unfolding verdict
  rising_accepted h =
      upward_accepted (edge log vs) (Edge log vs) (edge_decides log vs) 0 (committed log) (committed_rising log) (λ a b m n e. h a b e)

  module _ (g : Regular log) (vo : VersionOrder log vs) where
    -- edges join committed transactions; nothing leads into stamp 0, or from it
    pub edge_ends : (a b : ℕ) → Edge log vs a b → Done a log × Done b log
    edge_ends a b (drawn {k} {x} {j} f (reads_from nz)) = (g.from k x j f.value f.done f.got nz, f.done)
    edge_ends a b (drawn {k} {x} {j} f (comes_before {i} w o)) =
        (w.done, ((vo x).only j (elim o [ inl p ↦ p.1 | inr q ↦ before_right i j (vs x) q ])).0)
    edge_ends a b (drawn f (comes_after w o)) = (f.done, w.done)

    closed_done : (c : List ℕ) → CycleOf log vs c → (t : ℕ) → t ∈ c → Done t log
    closed_done c y t m = let r = edge_into (Edge log vs) c y t m in (edge_ends r.0 t r.2).1

    -- a closed path along edges is a cycle among the nodes
    pub closed_cycle : (c : List ℕ) → CycleOf log vs c → Cycle (Edge log vs) (committed log) c
    closed_cycle c y = record { nodes = λ t m. (committed_is log t).1 (closed_done c y t m); closed = y }

    judged : (v : Verdict) → Says (Edge log vs) (committed log) v → Judged log vs v
    judged (accepted o) s =
        let n = committed-number [] log g.right in
        record {
          acyclic = λ c y. topological_no_cycle (Edge log vs) (committed log) o c s.topological (closed_cycle c y);
          topological = s.topological;
          serial = one_serializable log g vs vo o s.topological;
          versions = one_serializable_versions log g vs vo o s.topological;
          smallest = s.smallest;
          number = omega (arith, s.number);
        }
    judged (cycle c) s =
        let n = committed-number [] log g.right in
        record {
          cycle = s.cycle.closed;
          nodes = λ t m. (committed_is log t).0 (s.cycle.nodes t m);
          once = s.once;
          smallest = s.smallest;
          number = omega (arith, s.number);
        }

    -- what the verdict says: accepted, the stamps are a serial order, smallest first, as many as are committed; otherwise they are a cycle
    -- along its edges, smallest first
    pub verdict-judged : Judged log vs (verdict log vs)
    unfolding verdict
    verdict-judged =
        judged (verdict log vs) (verdict_says (edge log vs) (Edge log vs) (edge_decides log vs) 0 (committed log) (committed_rising log))

    -- accepted exactly when there is no cycle
    pub accepted_iff_no_cycle : Accepts (verdict log vs) ↔ ((c : List ℕ) → ¬ CycleOf log vs c)
    accepted_iff_no_cycle = (forth (verdict log vs) verdict-judged, back (verdict log vs) verdict-judged)
      where
        forth : (v : Verdict) → Judged log vs v → Accepts v → (c : List ℕ) → ¬ CycleOf log vs c
        forth (accepted o) s a = s.acyclic
        forth (cycle c) s a = absurd a

        back : (v : Verdict) → Judged log vs v → ((c : List ℕ) → ¬ CycleOf log vs c) → Accepts v
        back (accepted o) s h = tt
        back (cycle c) s h = h c s.cycle

-- for a log that none of 23 to 27 refuses
pub checked_verdict : (log : List Event) (vs : ℕ → List ℕ) → WellFormed log → VersionOrder log vs
    → Judged log vs (verdict log vs) × (Accepts (verdict log vs) ↔ ((c : List ℕ) → ¬ CycleOf log vs c))
checked_verdict log vs w vo = (verdict-judged log vs (regular log w) vo, accepted_iff_no_cycle log vs (regular log w) vo)

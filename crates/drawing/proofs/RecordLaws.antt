-- What one record draws. Only a read draws edges, and only where its reader commits; then reader and source are nodes, or the source is version 0, which
-- stands for a number past the nodes.
-- Assumes nothing.
use Prim.Native.Nat.{ℕ, ◌≤◌, ◌<◌}
use native.Mathlib.Omega.{arith}
use mathlib.Core.Path.{◌≡◌, refl, sym, ◌∙◌, subst}
use mathlib.Core.List.{List, ◌∷◌}
use mathlib.Core.Bool.{Bool, true, false}
use lib.Dec.{eqb}
use lib.ListN.{length, get_or, take}
use lib.Seq.{get_or-take, length-take-le}
use borrow.Author.Tests.{eqb-true, eqb-false}
use Rattle.numbers.specs.Numbers.{max_item}
use Rattle.lists.specs.Member.{◌∈◌}
use Rattle.log_format.specs.Events.{Event, reads}
use Rattle.log_format.specs.Told.{Done}
use Rattle.log_format.proofs.ToldLaws.{got_is}
use Rattle.serial_theory.specs.Edges.{Regular, VersionOrder}
use Rattle.serial_theory.proofs.CommittedLaws.{committed_is}
use Rattle.serial_theory.proofs.RegularLaws.{read_item}
use Rattle.edges.specs.Matrix.{most_nodes}
use Rattle.edges.specs.Drawn.{Drew}
use Rattle.edges.specs.Ranked.{Ranked, stamp_at, EdgesOf}
use Rattle.edges.proofs.RankedLaws.{node_done, stamp_node, stamp_past}
use Rattle.edges.proofs.DrawingLaws.{unfinished-read, edges_skip, edges_read}
use Rattle.sorted.specs.Sorted.{Located, StandsAt}
use Rattle.std.specs.Prelude.{Option, Some, None, unwrap_or}
use Rattle.drawing.specs.Drawing.{DrewEvent}

-- a stamp that is none of the nodes is not committed
not_done : (log : List Event) (vs : ℕ → List ℕ) (nodes rank : List ℕ) (count : ℕ) → Ranked log vs nodes rank count → (t : ℕ)
    → ¬ (t ∈ take count nodes) → ¬ Done t log
not_done log vs nodes rank count r t n d = n (subst (λ (l : List ℕ). t ∈ l) (sym r.all) ((committed_is log t).1 d))

module _ (nodes rank : List ℕ) (count : ℕ) (m : List ℕ) where
  module _ (k x j v : ℕ) where
    -- a read whose reader is none of the nodes
    pub unfinished_drawn : ¬ (k ∈ take count nodes) → DrewEvent nodes rank count (reads k x j v) m m
    unfinished_drawn u = record {
      size = refl;
      edges = λ log vs part g vo rk i h. edges_skip log vs nodes count (reads k x j v) part m
          (unfinished-read log vs k x j v (not_done log vs nodes rank count rk k u)) h;
    }

    -- a log that passes has no read of another item
    pub no_item_drawn : max_item < x → DrewEvent nodes rank count (reads k x j v) m m
    no_item_drawn l = record {
      size = refl;
      edges = λ log vs part g vo rk i h. absurd (let z = read_item log g k x j v ((got_is k x j v log).1 i) in omega arith);
    }

    module _ (n : ℕ) (r : Option ℕ) (few : count ≤ most_nodes) (room : count ≤ length nodes) (u : StandsAt (take count nodes) k n)
        (w : Located (take count nodes) j r) where
      -- the number of the version that is read, one past the nodes where it is no node's
      abbrev i : ℕ
      i = unwrap_or r count

      placed : {t p : ℕ} → StandsAt (take count nodes) t p → (p < count) × (get_or nodes p 0 ≡ t)
      placed {t} {p} s =
          let h : p < count = omega (arith, s.within, length-take-le count nodes room) in
          (h, sym (get_or-take count nodes p 0 h) ∙ s.here)

      -- the number stands for the version that is read
      source : (log : List Event) (vs : ℕ → List ℕ) → Regular log → Ranked log vs nodes rank count → reads k x j v ∈ log → stamp_at nodes count i ≡ j
      source log vs g rk o = go r w (eqb j 0) refl
        where
          go : (q : Option ℕ) → Located (take count nodes) j q → (c : Bool) → eqb j 0 ≡ c → stamp_at nodes count (unwrap_or q count) ≡ j
          go (Some p) s c f = let h = placed s in stamp_node log vs nodes rank count rk p h.0 ∙ h.1
          go None s true f = stamp_past log vs nodes rank count rk count (omega arith) ∙ sym (eqb-true j 0 f)
          go None s false f =
              let d : Done k log = subst (λ (t : ℕ). Done t log) (placed u).1 (node_done log vs nodes rank count rk n (placed u).0) in
              absurd (not_done log vs nodes rank count rk j s (g.from k x j v d ((got_is k x j v log).1 o) (eqb-false j 0 f)))

      -- a read whose reader is node n
      pub read_drawn : (m' : List ℕ) → Drew rank count n x i m m' → DrewEvent nodes rank count (reads k x j v) m m'
      read_drawn m' d = record {
        size = d.size;
        edges = λ log vs part g vo rk o h. of_names log vs part (placed u).1 (source log vs g rk o) g vo rk o h;
      }
        where
          of_names : (log : List Event) (vs : ℕ → List ℕ) (part : List Event) {a b : ℕ} → get_or nodes n 0 ≡ a → stamp_at nodes count i ≡ b
              → Regular log → VersionOrder log vs → Ranked log vs nodes rank count → reads a x b v ∈ log → EdgesOf log vs nodes count part m
              → EdgesOf log vs nodes count (reads a x b v ∷ part) m'
          of_names log vs part {a} {b} e f g vo rk o h =
              let q : reads (get_or nodes n 0) x (stamp_at nodes count i) v ≡ reads a x b v = cc in
              subst (λ (y : Event). EdgesOf log vs nodes count (y ∷ part) m') q
              (edges_read log vs nodes count rank rk g vo few n x i v (placed u).0 (subst (λ (y : Event). y ∈ log) (sym q) o) part m m' d h)

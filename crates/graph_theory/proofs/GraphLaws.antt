-- Paths can be cut and joined, so a closed path may start anywhere; each of its nodes has an edge from one of them. So where edges only lead
-- forward in a list there is none: the list's first node has no edge from any of them.
-- Assumes nothing.
use Prim.Native.Nat.{ℕ}
use mathlib.Core.Path.{refl, sym, subst}
use mathlib.Core.Logic.{inl, inr}
use mathlib.Core.List.Memᴰ
use mathlib.Core.List.{List, [], ◌∷◌, ◌++◌, append-nil}
use Rattle.lists.specs.Member.{◌∈◌}
use Rattle.lists.specs.Order.{Distinct, Before}
use Rattle.lists.proofs.OrderLaws.{in_nil, in_tail, before_right}
use Rattle.graph_theory.specs.Graph.{Path, Closed, Cycle, Topological}

module _ (R : ℕ → ℕ → Type 0) where
  pub path_join : (a : ℕ) (l : List ℕ) (y : ℕ) (m : List ℕ) (z : ℕ) → Path R (a ∷ l) y → Path R (y ∷ m) z → Path R ((a ∷ l) ++ (y ∷ m)) z
  path_join a [] y m z v w = (v, w)
  path_join a (b ∷ l) y m z v w = (v.0, path_join b l y m z v.1 w)

  pub path_cut : (a : ℕ) (l : List ℕ) (y : ℕ) (m : List ℕ) (z : ℕ) → Path R ((a ∷ l) ++ (y ∷ m)) z → Path R (a ∷ l) y × Path R (y ∷ m) z
  path_cut a [] y m z w = w
  path_cut a (b ∷ l) y m z w = let r = path_cut b l y m z w.1 in ((w.0, r.0), r.1)

  -- a closed path may start anywhere
  pub closed_turned : (xs ys : List ℕ) → Closed R (xs ++ ys) → Closed R (ys ++ xs)
  closed_turned [] ys w = subst (λ (t : List ℕ). Closed R t) (sym (append-nil ys)) w
  closed_turned (a ∷ xs) [] w = subst (λ (t : List ℕ). Closed R t) (append-nil (a ∷ xs)) w
  closed_turned (a ∷ xs) (y ∷ ys) w = let r = path_cut a xs y ys a w in path_join y ys a xs y r.1 r.0

  edge_to_end : (a : ℕ) (l : List ℕ) (z : ℕ) → Path R (a ∷ l) z → (p : ℕ) × (p ∈ a ∷ l) × R p z
  edge_to_end a [] z w = (a, Memᴰ.head refl, w)
  edge_to_end a (b ∷ l) z w = let r = edge_to_end b l z w.1 in (r.0, Memᴰ.tail r.1, r.2)

  edge_inside : (a : ℕ) (l : List ℕ) (z : ℕ) → Path R (a ∷ l) z → (k : ℕ) → k ∈ l → (p : ℕ) × (p ∈ a ∷ l) × R p k
  edge_inside a [] z w k m = in_nil m
  edge_inside a (b ∷ l) z w k (Memᴰ.head e) = (a, Memᴰ.head refl, rw e w.0)
  edge_inside a (b ∷ l) z w k (Memᴰ.tail m) = let r = edge_inside b l z w.1 k m in (r.0, Memᴰ.tail r.1, r.2)

  -- each node of a closed path has an edge from a node of it
  pub edge_into : (c : List ℕ) → Closed R c → (k : ℕ) → k ∈ c → (p : ℕ) × (p ∈ c) × R p k
  edge_into [] w k m = in_nil m
  edge_into (a ∷ l) w k (Memᴰ.head e) = rw e (edge_to_end a l a w)
  edge_into (a ∷ l) w k (Memᴰ.tail m) = edge_inside a l a w k m

  -- edges only lead forward: none has an edge from itself or a later one
  abbrev pub Forward : List ℕ → Type 0
  Forward [] = Unit {0}
  Forward (k ∷ l) = ((j : ℕ) → j ∈ k ∷ l → ¬ R j k) × Forward l

  pub forward_before : (o : List ℕ) → Forward o → (a b : ℕ) → a ∈ o → b ∈ o → R a b → Before o a b
  forward_before [] f a b m n e = in_nil m
  forward_before (k ∷ l) f a b m (Memᴰ.head q) e = absurd (f.0 a m (subst (λ (t : ℕ). R a t) q e))
  forward_before (k ∷ l) f a b (Memᴰ.head q) (Memᴰ.tail n) e = inl (q, n)
  forward_before (k ∷ l) f a b (Memᴰ.tail m) (Memᴰ.tail n) e = inr (forward_before l f.1 a b m n e)

  pub before_forward : (o : List ℕ) → Distinct o → ((a b : ℕ) → a ∈ o → b ∈ o → R a b → Before o a b) → Forward o
  before_forward [] d h = tt
  before_forward (k ∷ l) d h = (
    λ j m e. elim (h j k m (Memᴰ.head refl) e) [ inl p ↦ d.0 p.1 | inr b ↦ d.0 (before_right j k l b) ],
    before_forward l d.1 (λ a b m n e. elim (h a b (Memᴰ.tail m) (Memᴰ.tail n) e) [
      | inl p ↦ absurd (d.0 (subst (λ (t : ℕ). t ∈ l) p.0 m))
      | inr q ↦ q
    ]),
  )

  -- no cycle where edges only lead forward
  pub forward_no_cycle : (o c : List ℕ) → Forward o → Closed R c → ((x : ℕ) → x ∈ c → x ∈ o) → ⊥
  forward_no_cycle [] [] f w h = w
  forward_no_cycle [] (a ∷ c) f w h = in_nil (h a (Memᴰ.head refl))
  forward_no_cycle (k ∷ l) c f w h = forward_no_cycle l c f.1 w (λ x m. in_tail (h x m) (λ q.
      (let r = edge_into c w x m in f.0 r.0 (h r.0 r.1) (subst (λ (t : ℕ). R r.0 t) q r.2))))

  pub topological_no_cycle : (ns o c : List ℕ) → Topological R ns o → ¬ Cycle R ns c
  topological_no_cycle ns o c t y =
      forward_no_cycle o c (before_forward o t.lists.once t.forward) y.closed (λ x m. t.lists.all x (y.nodes x m))

-- The predecessor walk. What was seen, newest first, is a path along edges; where the predecessor p of its first node stands in it, the front
-- up to p is closed. Among nodes of which none can be taken each has a predecessor, and what is not yet seen falls with each step, so the walk
-- closes.
-- Assumes nothing.
use Prim.Native.Nat.{ℕ, zero, suc, ◌<◌}
use native.Mathlib.Nat.{le_refl}
use native.Mathlib.Omega.{arith}
use mathlib.Core.Path.{◌≡◌, refl, sym, ◌∙◌, ap, subst}
use mathlib.Core.Logic.{◌⊎◌, inl, inr}
use mathlib.Core.List.Memᴰ
use mathlib.Core.List.{List, [], ◌∷◌}
use mathlib.Core.Bool.{Bool, true, false, cond}
use mathlib.Core.Option.{Option, some, none}
use lib.Dec.{eqb}
use lib.ListN.{length}
use borrow.Author.Tests.{eqb-true, eqb-false}
use Rattle.lists.specs.Member.{◌∈◌, Rising}
use Rattle.lists.specs.Order.{Distinct, without}
use Rattle.lists.specs.Tests.{any}
use Rattle.lists.proofs.TestLaws.{false_true, first_some, first_none, any_in, any_not}
use Rattle.lists.proofs.OrderLaws.{in_nil, in_tail, length_without, of_without}
use Rattle.lists.proofs.RisingLaws.{first-least}
use Rattle.graph_theory.specs.Graph.{Decides, Path, Closed, Cycle}
use Rattle.graph_theory.specs.Taking.{NoneClear}
use Rattle.graph_theory.specs.Walking.{up_to, Turned, Predecessor, Walks, repeats, steps, smallest_first, predecessor, step, walk, walked, cycle_of}
use Rattle.graph_theory.proofs.TakingLaws.{stuck_edge}
use Rattle.graph_theory.proofs.TurningLaws.{smallest_first_turned}

-- ---- the front of a list

pub up_to_in_lem : (k : ℕ) (l : List ℕ) (x : ℕ) → x ∈ up_to k l → x ∈ l
up_to_in_lem k [] x m = m
up_to_in_lem k (a ∷ l) x m = go (eqb k a) m (up_to_in_lem k l x)
  where
    go : (b : Bool) → x ∈ cond b (a ∷ []) (a ∷ up_to k l) → (x ∈ up_to k l → x ∈ l) → x ∈ a ∷ l
    go true (Memᴰ.head e) ih = Memᴰ.head e
    go true (Memᴰ.tail n) ih = in_nil n
    go false (Memᴰ.head e) ih = Memᴰ.head e
    go false (Memᴰ.tail n) ih = Memᴰ.tail (ih n)

up_to_distinct : (k : ℕ) (l : List ℕ) → Distinct l → Distinct (up_to k l)
up_to_distinct k [] d = tt
up_to_distinct k (a ∷ l) d = go (eqb k a) (up_to_distinct k l d.1)
  where
    go : (b : Bool) → Distinct (up_to k l) → Distinct (cond b (a ∷ []) (a ∷ up_to k l))
    go true ih = (in_nil, tt)
    go false ih = (λ m. d.0 (up_to_in_lem k l a m), ih)

-- ---- from the relation to a cycle

module _ (R : ℕ → ℕ → Type 0) where
  -- each of the list has an edge to the next
  abbrev Chain : List ℕ → Type 0
  Chain [] = Unit {0}
  Chain (a ∷ []) = Unit {0}
  Chain (a ∷ b ∷ l) = R a b × Chain (b ∷ l)

  -- the front of a chain up to p, which has an edge to z
  up_to_path : (p a : ℕ) (l : List ℕ) (z : ℕ) → Chain (a ∷ l) → p ∈ a ∷ l → R p z → Path R (up_to p (a ∷ l)) z
  up_to_path p a [] z h m e = go (eqb p a) refl
    where
      go : (b : Bool) → eqb p a ≡ b → Path R (cond b (a ∷ []) (a ∷ [])) z
      go true f = rw (eqb-true p a f) at e
      go false f = in_nil (in_tail m (eqb-false p a f))
  up_to_path p a (b ∷ l) z h m e = go (eqb p a) refl (eqb p b) (λ n. up_to_path p b l z h.1 n e)
    where
      go : (t : Bool) → eqb p a ≡ t → (s : Bool) → (p ∈ b ∷ l → Path R (cond s (b ∷ []) (b ∷ up_to p l)) z) → Path R (cond t (a ∷ []) (a ∷ cond s (b ∷ []) (b ∷ up_to p l))) z
      go true f s ih = rw (eqb-true p a f) at e
      go false f true ih = (h.0, ih (in_tail m (eqb-false p a f)))
      go false f false ih = (h.0, ih (in_tail m (eqb-false p a f)))

  up_to_closed : (p a : ℕ) (l : List ℕ) → Chain (a ∷ l) → p ∈ a ∷ l → R p a → Closed R (up_to p (a ∷ l))
  up_to_closed p a l h m e = go (eqb p a) (up_to_path p a l a h m e)
    where
      go : (b : Bool) → Path R (cond b (a ∷ []) (a ∷ up_to p l)) a → Closed R (cond b (a ∷ []) (a ∷ up_to p l))
      go true w = w
      go false w = w

  walks_closed : {l : List ℕ} {at : ℕ} {seen c : List ℕ} → Walks R l at seen c → Chain (at ∷ seen) → Closed R c
  walks_closed (repeats {at} {p} {seen} q m) h = up_to_closed p at seen h m q.edge
  walks_closed (steps q n w) h = walks_closed w (q.edge, h)

  walks_in : {l : List ℕ} {at : ℕ} {seen c : List ℕ} → Walks R l at seen c → ((x : ℕ) → x ∈ at ∷ seen → x ∈ l) → (x : ℕ) → x ∈ c → x ∈ l
  walks_in (repeats {at} {p} {seen} q m) h x i = h x (up_to_in_lem p (at ∷ seen) x i)
  walks_in (steps q n w) h x i = walks_in w (λ y j. elim (Memᴰ.cases_cons j) [ inl e ↦ Memᴰ.cast e q.left | inr k ↦ h y k ]) x i

  pub walks_distinct : {l : List ℕ} {at : ℕ} {seen c : List ℕ} → Walks R l at seen c → Distinct (at ∷ seen) → Distinct c
  walks_distinct (repeats {at} {p} {seen} q m) d = up_to_distinct p (at ∷ seen) d
  walks_distinct (steps q n w) d = walks_distinct w (n, d)

  one_in : {a : ℕ} {l : List ℕ} → a ∈ l → (x : ℕ) → x ∈ a ∷ [] → x ∈ l
  one_in m x (Memᴰ.head e) = Memᴰ.cast e m
  one_in m x (Memᴰ.tail n) = in_nil n

  -- the walk from a node ends with a cycle
  pub walks_cycle : (l : List ℕ) (a : ℕ) (c : List ℕ) → a ∈ l → Walks R l a [] c → Cycle R l c
  walks_cycle l a c m w = record { nodes = walks_in w (one_in m); closed = walks_closed w tt }

  same_predecessor : {l : List ℕ} {k p q : ℕ} → Predecessor R l k p → Predecessor R l k q → p ≡ q
  same_predecessor {l} {k} {p} {q} u v = omega (arith, u.least q v.left v.edge, v.least p u.left u.edge)

  -- and has one end
  pub walks_unique : {l : List ℕ} {at : ℕ} {seen c e : List ℕ} → Walks R l at seen c → Walks R l at seen e → c ≡ e
  walks_unique {l} {at} {seen} (repeats u m) (repeats v n) = ap (λ (t : ℕ). up_to t (at ∷ seen)) (same_predecessor u v)
  walks_unique (repeats u m) (steps v n w) = absurd (n (Memᴰ.cast (sym (same_predecessor u v)) m))
  walks_unique (steps u n w) (repeats v m) = absurd (n (Memᴰ.cast (same_predecessor u v) m))
  walks_unique {l} {at} {seen} {c} {e} (steps u n w) (steps v m z) =
      walks_unique w (subst (λ (t : ℕ). Walks R l t (at ∷ seen) e) (sym (same_predecessor u v)) z)

-- ---- from what computes to the relation

module _ (E : ℕ → ℕ → Bool) (R : ℕ → ℕ → Type 0) (d : Decides E R) (n : ℕ) (l : List ℕ) (rises : Rising n l) where
  predecessor_is : (k p : ℕ) → predecessor E l k ≡ some p → Predecessor R l k p
  predecessor_is k p e =
      let s = first_some (λ (j : ℕ). E j k) l p e in
      record { left = s.0; edge = d.sound p k s.1; least = λ i m f. first-least (λ (j : ℕ). E j k) n l p rises e i m (d.whole i k f) }

  -- `unseen` stands only here: the nodes of l that were not seen
  walk_rule : (m at : ℕ) (seen unseen : List ℕ) → NoneClear R l → length unseen < m → at ∈ l → ((x : ℕ) → x ∈ l → (x ∈ at ∷ seen) ⊎ (x ∈ unseen))
      → Walks R l at seen (walk E m l at seen)
  walk_rule zero at seen unseen st lt i all = absurd (omega arith)
  walk_rule (suc m) at seen unseen st lt i all = go (predecessor E l at) refl (λ p u. walk_rule m p (at ∷ seen) u st)
    where
      go : (o : Option ℕ) → predecessor E l at ≡ o
          → ((p : ℕ) (u : List ℕ) → length u < m → p ∈ l → ((x : ℕ) → x ∈ l → (x ∈ p ∷ at ∷ seen) ⊎ (x ∈ u)) → Walks R l p (at ∷ seen) (walk E m l p (at ∷ seen)))
          → Walks R l at seen (step E (at ∷ seen) (λ (p : ℕ). walk E m l p (at ∷ seen)) o)
      go none e ih =
          let r = stuck_edge E R d l st at i in
          false_true (sym (first_none (λ (j : ℕ). E j at) l e r.0 r.1) ∙ d.whole r.0 at r.2)
      go (some p) e ih = split (any (eqb p) (at ∷ seen)) refl
        where
          q : Predecessor R l at p
          q = predecessor_is at p e

          split : (b : Bool) → any (eqb p) (at ∷ seen) ≡ b → Walks R l at seen (cond b (up_to p (at ∷ seen)) (walk E m l p (at ∷ seen)))
          split true f = repeats q (any_in p (at ∷ seen) f)
          split false f = steps q new (ih p (without p unseen) (omega (arith, length_without p unseen fresh)) q.left cover)
            where
              new : ¬ (p ∈ at ∷ seen)
              new = any_not p (at ∷ seen) f

              fresh : p ∈ unseen
              fresh = elim (all p q.left) [ inl k ↦ absurd (new k) | inr k ↦ k ]

              cover : (x : ℕ) → x ∈ l → (x ∈ p ∷ at ∷ seen) ⊎ (x ∈ without p unseen)
              cover x k = elim (all x k) [
                | inl s ↦ inl (Memᴰ.tail s)
                | inr u ↦ elim (of_without p unseen u) [ inl z ↦ inl (Memᴰ.head z) | inr v ↦ inr v ]
              ]

module _ (E : ℕ → ℕ → Bool) (R : ℕ → ℕ → Type 0) (d : Decides E R) (n a : ℕ) (l : List ℕ) (rises : Rising n (a ∷ l)) (st : NoneClear R (a ∷ l)) where
  -- what computes the walk follows the rule, from nodes of which none can be taken
  pub walked_rule : Walks R (a ∷ l) a [] (walked E (a ∷ l))
  walked_rule = walk_rule E R d n (a ∷ l) rises (suc (length l)) a [] l st (le_refl (suc (length l))) (Memᴰ.head refl)
      (λ x m. elim (Memᴰ.cases_cons m) [ inl q ↦ inl (Memᴰ.head q) | inr k ↦ inr k ])

  turned_of : (w : List ℕ) → Closed R w → Turned w (smallest_first w)
  turned_of [] c = absurd c
  turned_of (b ∷ w) c = smallest_first_turned b w

  pub cycle_of_turned : Turned (walked E (a ∷ l)) (cycle_of E (a ∷ l))
  cycle_of_turned = turned_of (walked E (a ∷ l)) (walks_cycle R (a ∷ l) a (walked E (a ∷ l)) (Memᴰ.head refl) walked_rule).closed

-- Taking nodes away. The laws go by recursion on the nodes taken: each had no edge from one left, so edges only lead forward among them; nodes
-- of which each has an edge from one of them are never taken, so what is left does not depend on the order of taking.
-- Assumes nothing.
use Prim.Native.Nat.{ℕ, zero, suc, ◌+◌, ◌≤◌}
use native.Mathlib.Nat.{le_refl}
use native.Mathlib.Omega.{arith}
use mathlib.Core.Path.{◌≡◌, refl, sym, ◌∙◌, ap, ap₂, subst}
use mathlib.Core.Logic.{◌⊎◌, inl, inr}
use mathlib.Core.List.Memᴰ
use mathlib.Core.List.{List, [], ◌∷◌}
use mathlib.Core.Bool.{Bool, true, false, not}
use mathlib.Core.Option.{Option, some, none}
use lib.ListN.{length}
use borrow.Author.Tests.{not-true}
use Rattle.lists.specs.Member.{◌∈◌, Rising}
use Rattle.lists.specs.Order.{Distinct, without}
use Rattle.lists.specs.Tests.{any}
use Rattle.lists.proofs.TestLaws.{false_true, any_true, any_false, first_some, first_none}
use Rattle.lists.proofs.OrderLaws.{in_nil, length_without, in_without, of_without, distinct_without}
use Rattle.lists.proofs.RisingLaws.{rising_without, rising_same, first-least}
use Rattle.graph_theory.specs.Graph.{Decides, Topological}
use Rattle.graph_theory.specs.Taking.{Clear, NoneClear, Takes, TakesAny, Taking, free, next, take_next, takes, take_all}
use Rattle.graph_theory.proofs.GraphLaws.{Forward, forward_before}

module _ (R : ℕ → ℕ → Type 0) where
  -- smallest first is one way of taking
  pub takes_any : (o l r : List ℕ) → Takes R l o r → TakesAny R l o r
  takes_any [] l r t = t
  takes_any (k ∷ o) l r t = (t.0.left, t.0.clear, takes_any o (without k l) r t.1)

  -- and has one outcome
  pub takes_unique : (o p l r q : List ℕ) → Takes R l o r → Takes R l p q → (o ≡ p) × (r ≡ q)
  takes_unique [] [] l r q t u = (refl, sym t.0 ∙ u.0)
  takes_unique [] (k ∷ p) l r q t u = absurd (t.1 k u.0.left u.0.clear)
  takes_unique (k ∷ o) [] l r q t u = absurd (u.1 k t.0.left t.0.clear)
  takes_unique (k ∷ o) (j ∷ p) l r q t u =
      let same : k ≡ j = omega (arith, t.0.least j u.0.left u.0.clear, u.0.least k t.0.left t.0.clear) in
      let ih = takes_unique o p (without k l) r q t.1 (subst (λ (a : ℕ). Takes R (without a l) p q) (sym same) u.1) in
      (ap₂ (λ (a : ℕ) (s : List ℕ). a ∷ s) same ih.0, ih.1)

  -- nodes taken and nodes left were there before
  pub taken_in : (o l r : List ℕ) → TakesAny R l o r → (x : ℕ) → x ∈ o → x ∈ l
  taken_in [] l r t x m = in_nil m
  taken_in (k ∷ o) l r t x (Memᴰ.head q) = Memᴰ.cast q t.0
  taken_in (k ∷ o) l r t x (Memᴰ.tail m) = in_without k l (taken_in o (without k l) r t.2 x m)

  pub left_in : (o l r : List ℕ) → TakesAny R l o r → (x : ℕ) → x ∈ r → x ∈ l
  left_in [] l r t x m = subst (λ (u : List ℕ). x ∈ u) (sym t.0) m
  left_in (k ∷ o) l r t x m = in_without k l (left_in o (without k l) r t.2 x m)

  -- and each is taken or left
  pub taken_or_left : (o l r : List ℕ) → TakesAny R l o r → (x : ℕ) → x ∈ l → (x ∈ o) ⊎ (x ∈ r)
  taken_or_left [] l r t x m = inr (subst (λ (u : List ℕ). x ∈ u) t.0 m)
  taken_or_left (k ∷ o) l r t x m = elim (of_without k l m) [
    | inl q ↦ inl (Memᴰ.head q)
    | inr n ↦ elim (taken_or_left o (without k l) r t.2 x n) [ inl a ↦ inl (Memᴰ.tail a) | inr b ↦ inr b ]
  ]

  pub taken_number : (o l r : List ℕ) → TakesAny R l o r → length o + length r ≡ length l
  taken_number [] l r t = omega (arith, ap length t.0)
  taken_number (k ∷ o) l r t = omega (arith, taken_number o (without k l) r t.2, length_without k l t.0)

  pub taken_distinct : (o l r : List ℕ) → TakesAny R l o r → Distinct l → Distinct o
  taken_distinct [] l r t d = tt
  taken_distinct (k ∷ o) l r t d =
      let w = distinct_without k l d in
      (λ m. w.1 (taken_in o (without k l) r t.2 k m), taken_distinct o (without k l) r t.2 w.0)

  pub taken_forward : (o l r : List ℕ) → TakesAny R l o r → Forward R o
  taken_forward [] l r t = tt
  taken_forward (k ∷ o) l r t = (λ j m. t.1 j (taken_in (k ∷ o) l r t j m), taken_forward o (without k l) r t.2)

  -- none of those left can be taken
  pub left_stuck : (o l r : List ℕ) → TakesAny R l o r → NoneClear R r
  left_stuck [] l r t = subst (λ (u : List ℕ). NoneClear R u) t.0 t.1
  left_stuck (k ∷ o) l r t = left_stuck o (without k l) r t.2

  pub left_rising : (n : ℕ) (o l r : List ℕ) → TakesAny R l o r → Rising n l → Rising n r
  left_rising n [] l r t s = subst (λ (u : List ℕ). Rising n u) t.0 s
  left_rising n (k ∷ o) l r t s = left_rising n o (without k l) r t.2 (rising_without k n l s)

  -- if all are taken, their order is topological
  pub all_taken : (o ns : List ℕ) → Distinct ns → TakesAny R ns o [] → Topological R ns o
  all_taken o ns d t = record {
    lists = record {
      once = taken_distinct o ns [] t d;
      all = λ x m. elim (taken_or_left o ns [] t x m) [ inl a ↦ a | inr b ↦ in_nil b ];
      only = taken_in o ns [] t;
    };
    forward = forward_before R o (taken_forward o ns [] t);
  }

  -- nodes of which each has an edge from one of them are never taken
  pub stays : (o l r s : List ℕ) → TakesAny R l o r → ((k : ℕ) → k ∈ s → (j : ℕ) × (j ∈ s) × R j k) → ((x : ℕ) → x ∈ s → x ∈ l) → (x : ℕ) → x ∈ s → x ∈ r
  stays [] l r s t st sub x m = subst (λ (u : List ℕ). x ∈ u) t.0 (sub x m)
  stays (k ∷ o) l r s t st sub x m = stays o (without k l) r s t.2 st (λ y n. elim (of_without k l (sub y n)) [
    | inl q ↦ (let p = st y n in absurd (t.1 p.0 (sub p.0 p.1) (subst (λ (u : ℕ). R p.0 u) q p.2)))
    | inr w ↦ w
  ]) x m

module _ (E : ℕ → ℕ → Bool) (R : ℕ → ℕ → Type 0) (d : Decides E R) where
  -- none can be taken: each has an edge from one of them
  pub stuck_edge : (r : List ℕ) → NoneClear R r → (k : ℕ) → k ∈ r → (j : ℕ) × (j ∈ r) × R j k
  stuck_edge r h k m = go (any (λ (j : ℕ). E j k) r) refl
    where
      go : (b : Bool) → any (λ (j : ℕ). E j k) r ≡ b → (j : ℕ) × (j ∈ r) × R j k
      go true e = let a = any_true (λ (j : ℕ). E j k) r e in (a.0, a.1, d.sound a.0 k a.2)
      go false e = absurd (h k m (λ j n f. false_true (sym (any_false (λ (i : ℕ). E i k) r e j n) ∙ d.whole j k f)))

  -- any two ways of taking leave the same nodes; in a rising list, the same list
  pub same_left : (n : ℕ) (o p l r q : List ℕ) → Rising n l → TakesAny R l o r → TakesAny R l p q → r ≡ q
  same_left n o p l r q s t u = rising_same n n r q (left_rising R n o l r t s) (left_rising R n p l q u s) (λ x. (
    stays R p l q r u (stuck_edge r (left_stuck R o l r t)) (left_in R o l r t) x,
    stays R o l r q t (stuck_edge q (left_stuck R p l q u)) (left_in R p l q u) x,
  ))

  free_clear : (l : List ℕ) (k : ℕ) → free E l k ≡ true → Clear R l k
  free_clear l k e j m f = false_true (sym (any_false (λ (i : ℕ). E i k) l (not-true _ e) j m) ∙ d.whole j k f)

  clear_free : (l : List ℕ) (k : ℕ) → Clear R l k → free E l k ≡ true
  clear_free l k c = go (any (λ (j : ℕ). E j k) l) refl
    where
      go : (b : Bool) → any (λ (j : ℕ). E j k) l ≡ b → not b ≡ true
      go true e = let r = any_true (λ (j : ℕ). E j k) l e in absurd (c r.0 r.1 (d.sound r.0 k r.2))
      go false e = refl

  -- what computes the taking follows the rule
  takes_rule : (m n : ℕ) (l : List ℕ) → length l ≤ m → Rising n l → Takes R l (takes E m l).taken (takes E m l).left
  takes_rule zero n [] h r = (refl, λ k m. in_nil m)
  takes_rule zero n (a ∷ l) h r = absurd (omega arith)
  takes_rule (suc m) n l h r = go (next E l) refl (λ k h. takes_rule m n (without k l) h (rising_without k n l r))
    where
      at : Option ℕ → Taking
      at o = take_next E l (λ (k : ℕ). takes E m (without k l)) o

      go : (o : Option ℕ) → next E l ≡ o
          → ((k : ℕ) → length (without k l) ≤ m → Takes R (without k l) (takes E m (without k l)).taken (takes E m (without k l)).left)
          → Takes R l (at o).taken (at o).left
      go none e ih = (refl, λ k m c. false_true (sym (first_none (free E l) l e k m) ∙ clear_free l k c))
      go (some k) e ih =
          let s = first_some (free E l) l k e in (
            record { left = s.0; clear = free_clear l k s.1; least = λ i m c. first-least (free E l) n l k r e i m (clear_free l i c) },
            ih k (omega (arith, length_without k l s.0)),
          )

  pub take_all_rule : (n : ℕ) (ns : List ℕ) → Rising n ns → Takes R ns (take_all E ns).taken (take_all E ns).left
  take_all_rule n ns r = takes_rule (length ns) n ns (le_refl (length ns)) r

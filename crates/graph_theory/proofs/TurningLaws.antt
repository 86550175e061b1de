-- A list turned, as one turns a ring, so that its smallest node is first: it has the same members, a closed path stays closed, and there is one
-- way to turn a list without doubles.
-- Assumes nothing.
use Prim.Native.Nat.{ℕ, ◌≤◌}
use native.Mathlib.Omega.{arith}
use mathlib.Core.Path.{◌≡◌, refl, sym, ◌∙◌, ap, ap₂, subst}
use mathlib.Core.Logic.{◌⊎◌, inl, inr}
use mathlib.Core.List.Memᴰ
use mathlib.Core.List.{List, [], ◌∷◌, ◌++◌}
use mathlib.Core.Bool.{Bool, true, false, cond}
use lib.Dec.{eqb, ltb}
use borrow.Author.Tests.{eqb-true, eqb-false, ltb-true, ltb-false}
use Rattle.lists.specs.Member.{◌∈◌}
use Rattle.lists.specs.Order.{Distinct}
use Rattle.lists.proofs.OrderLaws.{in_nil, in_tail, split_once}
use Rattle.graph_theory.specs.Graph.{Closed, Cycle, SmallestFirst}
use Rattle.graph_theory.specs.Walking.{before, from, Turned, least, smallest_first}
use Rattle.graph_theory.proofs.GraphLaws.{closed_turned}

before-from : (k : ℕ) (l : List ℕ) → k ∈ l → (ys : List ℕ) × (from k l ≡ k ∷ ys) × (l ≡ before k l ++ from k l)
before-from k [] m = in_nil m
before-from k (a ∷ l) m = go (eqb k a) refl (before-from k l)
  where
    go : (b : Bool) → eqb k a ≡ b → (k ∈ l → (ys : List ℕ) × (from k l ≡ k ∷ ys) × (l ≡ before k l ++ from k l))
        → (ys : List ℕ) × (cond b (a ∷ l) (from k l) ≡ k ∷ ys) × (a ∷ l ≡ cond b [] (a ∷ before k l) ++ cond b (a ∷ l) (from k l))
    go true e ih = (l, rw (eqb-true k a e), refl)
    go false e ih = let r = ih (in_tail m (eqb-false k a e)) in (r.0, r.1, ap (λ (t : List ℕ). a ∷ t) r.2)

pub least_in : (a : ℕ) (l : List ℕ) → least a l ∈ a ∷ l
least_in a [] = Memᴰ.head refl
least_in a (b ∷ l) = go (ltb b a) (least_in (cond (ltb b a) b a) l)
  where
    go : (t : Bool) → least (cond t b a) l ∈ cond t b a ∷ l → least (cond t b a) l ∈ a ∷ b ∷ l
    go true m = Memᴰ.tail m
    go false (Memᴰ.head e) = Memᴰ.head e
    go false (Memᴰ.tail m) = Memᴰ.tail (Memᴰ.tail m)

pub least_le : (a : ℕ) (l : List ℕ) (x : ℕ) → x ∈ a ∷ l → least a l ≤ x
least_le a [] x (Memᴰ.head e) = omega arith
least_le a [] x (Memᴰ.tail m) = in_nil m
least_le a (b ∷ l) x m = go (ltb b a) refl (Memᴰ.cases_cons m) (least_le (cond (ltb b a) b a) l)
  where
    go : (t : Bool) → ltb b a ≡ t → (x ≡ a) ⊎ (x ∈ b ∷ l) → ((y : ℕ) → y ∈ cond t b a ∷ l → least (cond t b a) l ≤ y) → least (cond t b a) l ≤ x
    go true e (inl q) ih = omega (arith, ih b (Memᴰ.head refl), ltb-true b a e)
    go true e (inr n) ih = ih x n
    go false e (inl q) ih = ih x (Memᴰ.head q)
    go false e (inr (Memᴰ.head q)) ih = omega (arith, ih a (Memᴰ.head refl), ltb-false b a e)
    go false e (inr (Memᴰ.tail n)) ih = ih x (Memᴰ.tail n)

-- members of a turned list
swap_in : (xs ys : List ℕ) (x : ℕ) → x ∈ xs ++ ys → x ∈ ys ++ xs
swap_in xs ys x m = elim (Memᴰ.append_cases xs m) [ inl a ↦ Memᴰ.append_right ys a | inr b ↦ Memᴰ.append_left xs b ]

distinct_append : (xs ys : List ℕ) → Distinct xs → Distinct ys → ((x : ℕ) → x ∈ xs → ¬ (x ∈ ys)) → Distinct (xs ++ ys)
distinct_append [] ys d e h = e
distinct_append (a ∷ xs) ys d e h = (
  λ m. elim (Memᴰ.append_cases xs m) [ inl n ↦ d.0 n | inr n ↦ h a (Memᴰ.head refl) n ],
  distinct_append xs ys d.1 e (λ x n. h x (Memᴰ.tail n)),
)

distinct_parts : (xs ys : List ℕ) → Distinct (xs ++ ys) → Distinct xs × Distinct ys × ((x : ℕ) → x ∈ xs → ¬ (x ∈ ys))
distinct_parts [] ys d = (tt, d, λ x m. in_nil m)
distinct_parts (a ∷ xs) ys d =
    let r = distinct_parts xs ys d.1 in (
      (λ m. d.0 (Memᴰ.append_left ys m), r.0),
      r.1,
      λ x m n. elim (Memᴰ.cases_cons m) [ inl q ↦ d.0 (Memᴰ.append_right xs (Memᴰ.cast (sym q) n)) | inr k ↦ r.2 x k n ],
    )

module _ {w c : List ℕ} (t : Turned w c) where
  turned_in : (x : ℕ) → x ∈ c → x ∈ w
  turned_in x m =
      subst (λ (l : List ℕ). x ∈ l) (sym t.split) (swap_in (t.smallest ∷ t.back) t.front x (subst (λ (l : List ℕ). x ∈ l) t.joined m))

  pub turned_smallest : SmallestFirst c
  turned_smallest = subst (λ (l : List ℕ). SmallestFirst l) (sym t.joined) (λ x m. t.least x (turned_in x (subst (λ (l : List ℕ). x ∈ l) (sym t.joined) m)))

  pub turned_cycle : (R : ℕ → ℕ → Type 0) (ns : List ℕ) → Cycle R ns w → Cycle R ns c
  turned_cycle R ns y = record {
    nodes = λ x m. y.nodes x (turned_in x m);
    closed = subst (λ (l : List ℕ). Closed R l) (sym t.joined) (closed_turned R t.front (t.smallest ∷ t.back) (subst (λ (l : List ℕ). Closed R l) t.split y.closed));
  }

  pub turned_distinct : Distinct w → Distinct c
  turned_distinct d =
      let r = distinct_parts t.front (t.smallest ∷ t.back) (subst (λ (l : List ℕ). Distinct l) t.split d) in
      subst (λ (l : List ℕ). Distinct l) (sym t.joined) (distinct_append (t.smallest ∷ t.back) t.front r.1 r.0 (λ x m n. r.2 x n m))

-- there is one way to turn a list without doubles
pub turned_unique : {w c e : List ℕ} → Distinct w → Turned w c → Turned w e → c ≡ e
turned_unique {w} {c} {e} d t u =
    let m : t.smallest ∈ w = subst (λ (l : List ℕ). t.smallest ∈ l) (sym t.split) (Memᴰ.append_right t.front (Memᴰ.head refl)) in
    let n : u.smallest ∈ w = subst (λ (l : List ℕ). u.smallest ∈ l) (sym u.split) (Memᴰ.append_right u.front (Memᴰ.head refl)) in
    let q : u.smallest ≡ t.smallest = omega (arith, t.least u.smallest n, u.least t.smallest m) in
    let s : w ≡ u.front ++ (t.smallest ∷ u.back) = subst (λ (k : ℕ). w ≡ u.front ++ (k ∷ u.back)) q u.split in
    let r = split_once t.front t.back u.front u.back t.smallest (subst (λ (l : List ℕ). Distinct l) t.split d) (sym t.split ∙ s) in
    t.joined ∙ ap₂ (λ (f b : List ℕ). (t.smallest ∷ b) ++ f) r.0 r.1 ∙ ap (λ (k : ℕ). (k ∷ u.back) ++ u.front) (sym q) ∙ sym u.joined

-- what computes the turning turns
pub smallest_first_turned : (a : ℕ) (l : List ℕ) → Turned (a ∷ l) (smallest_first (a ∷ l))
smallest_first_turned a l =
    let r = before-from (least a l) (a ∷ l) (least_in a l) in
    record {
      front = before (least a l) (a ∷ l);
      smallest = least a l;
      back = r.0;
      split = r.2 ∙ ap (λ (t : List ℕ). before (least a l) (a ∷ l) ++ t) r.1;
      joined = ap (λ (t : List ℕ). t ++ before (least a l) (a ∷ l)) r.1;
      least = least_le a l;
    }

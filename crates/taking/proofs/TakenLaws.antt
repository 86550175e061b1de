-- Taking by numbers is the theory's taking. The invariant: each node left has its number of edges from nodes left, and one. So a number is 1 exactly
-- where the node can be taken, and taking one lowers those that it has an edge to.
-- Assumes nothing.
use Prim.Native.Nat.{ℕ, suc, ◌+◌, ◌-◌, ◌≤◌, ◌<◌}
use native.Mathlib.Numerals.{add-one}
use native.Mathlib.Omega.{arith}
use mathlib.Core.Path.{◌≡◌, refl, sym, ◌∙◌, ap}
use mathlib.Core.Logic.{◌≢◌}
use mathlib.Core.List.{List, [], ◌∷◌, ◌++◌, append-nil, append_assoc}
use mathlib.Core.Bool.{Bool, true, false, not}
use mathlib.Core.Option.{some, none}
use lib.Dec.{eqb}
use lib.ListN.{length, take, get_or, set, length-set}
use lib.Seq.{take-suc-set}
use borrow.Author.Tests.{eqb-true, eqb-false, eq-eqb, ne_eqb}
use Rattle.lists.specs.Member.{◌∈◌}
use Rattle.lists.specs.Order.{without}
use Rattle.lists.specs.Tests.{any}
use Rattle.lists.proofs.OrderLaws.{length_without}
use Rattle.graph_theory.specs.Taking.{free, next, take_all}
use Rattle.taking.specs.Nodes.{indices, bit, tally, is_left, left_of, NoneOf, IsFirst}
use Rattle.taking.specs.Taken.{Counted, Tallied, Lowered, Taken}
use Rattle.taking.proofs.NodesLaws.{
  length-up_from,
  tally-without,
  tally_none,
  tally_some,
  first_is,
  first_not,
  left_in,
  in_left,
  left_rising,
  all_left,
  left_true,
  left_false,
  left_not,
  left_without,
}

-- ---- counting

-- the nodes below k have their numbers
pub record Count (E : ℕ → ℕ → Bool) (n : ℕ) (d : List ℕ) (k : ℕ) (e : List ℕ) : Type 0 where
  pub within : k ≤ n
  pub room : n ≤ length e
  pub size : length e ≡ length d
  pub done : (i : ℕ) → i < k → get_or e i 0 ≡ suc (tally (λ (j : ℕ). E j i) (indices n))

-- ---- taking one node

-- the numbers of the nodes below j are less by their edges from k, and the others are as they were
pub record Lower (E : ℕ → ℕ → Bool) (n k : ℕ) (d : List ℕ) (j : ℕ) (e : List ℕ) : Type 0 where
  pub within : j ≤ n
  pub room : n ≤ length e
  pub size : length e ≡ length d
  pub done : (i : ℕ) → i < j → get_or e i 0 ≡ get_or d i 0 - bit (E k i)
  pub rest : (i : ℕ) → j ≤ i → get_or e i 0 ≡ get_or d i 0

-- ---- the theory's step

module _ (E : ℕ → ℕ → Bool) where
  take_step : (l : List ℕ) (k : ℕ) → k ∈ l → next E l ≡ some k
      → ((take_all E l).taken ≡ k ∷ (take_all E (without k l)).taken) × ((take_all E l).left ≡ (take_all E (without k l)).left)
  take_step l k m e =
      let s : length l ≡ suc (length (without k l)) = sym (length_without k l m) in
      (rw s (rw e refl), rw s (rw e refl))

  take_end : (l : List ℕ) → next E l ≡ none → ((take_all E l).taken ≡ []) × ((take_all E l).left ≡ l)
  take_end [] e = (refl, refl)
  take_end (a ∷ l) e = (rw e refl, rw e refl)

-- the test of `first_free`
abbrev pub is_one : List ℕ → ℕ → Bool
is_one d k = eqb (get_or d k 0) 1

module _ (E : ℕ → ℕ → Bool) (n : ℕ) (d : List ℕ) (t : Tallied E n d) where
  -- a node left can be taken exactly if its number is 1
  one_free : (k : ℕ) → k ∈ left_of n d → is_one d k ≡ free E (left_of n d) k
  one_free k m =
      let r = left_in n d k m in
      go (any (λ (j : ℕ). E j k) (left_of n d)) refl (t k r.0 (left_not d k r.1))
    where
      go : (b : Bool) → any (λ (j : ℕ). E j k) (left_of n d) ≡ b → get_or d k 0 ≡ suc (tally (λ (j : ℕ). E j k) (left_of n d)) → is_one d k ≡ not b
      go true e f = let z = tally_some (λ (j : ℕ). E j k) (left_of n d) e in ne_eqb (get_or d k 0) 1 (λ q. omega arith)
      go false e f = let z = tally_none (λ (j : ℕ). E j k) (left_of n d) e in eq-eqb (get_or d k 0) 1 (omega arith)

  next_is : (k : ℕ) → IsFirst (is_one d) n k → (k ∈ left_of n d) × (next E (left_of n d) ≡ some k)
  next_is k s =
      let q = eqb-true (get_or d k 0) 1 s.here in
      let m = in_left n d k s.within (left_true d k (λ z. omega arith)) in
      (m, first_is (free E (left_of n d)) 0 (left_of n d) k (left_rising n d) m (sym (one_free k m) ∙ s.here) (λ j i g. sym (one_free j i) ∙ s.before j g))

  no_next : NoneOf (is_one d) n → next E (left_of n d) ≡ none
  no_next s = first_not (free E (left_of n d)) (left_of n d) (λ j i. sym (one_free j i) ∙ s j (left_in n d j i).0)

  module _ (k : ℕ) (m : k ∈ left_of n d) (e : List ℕ) (l : Lowered E n k d e) where
    -- a node's number, with its edge from k apart
    with_edge_lem : (j : ℕ) → j < n → get_or d j 0 ≢ 0 → get_or d j 0 ≡ suc (bit (E k j) + tally (λ (i : ℕ). E i j) (without k (left_of n d)))
    with_edge_lem j h z = t j h z ∙ ap suc (sym (tally-without (λ (i : ℕ). E i j) k (left_of n d) m))

    same_left : (j : ℕ) → j < n → j ≢ k → is_left e j ≡ is_left d j
    same_left j h ne = go (eqb (get_or d j 0) 0) refl
      where
        go : (b : Bool) → eqb (get_or d j 0) 0 ≡ b → is_left e j ≡ not b
        go true f = let z = eqb-true (get_or d j 0) 0 f in left_false e j (omega (arith, l.others j h ne))
        go false f = let z = with_edge_lem j h (eqb-false (get_or d j 0) 0 f) in left_true e j (λ q. omega (arith, l.others j h ne))

    next_left : left_of n e ≡ without k (left_of n d)
    next_left = left_without n k d e (left_false e k l.gone) same_left

    next_tallied : Tallied E n e
    next_tallied j h nz =
        let ne : j ≢ k = λ q. nz (ap (λ (i : ℕ). get_or e i 0) q ∙ l.gone) in
        let o = l.others j h ne in
        let z = with_edge_lem j h (λ q. nz (omega arith)) in
        rw next_left (omega arith)

-- ---- taking, node by node

-- c nodes are taken, and what the theory takes from all is those and what it takes from the nodes left
pub record Taking (E : ℕ → ℕ → Bool) (n : ℕ) (d₀ o₀ d o : List ℕ) (c : ℕ) : Type 0 where
  pub within : c ≤ n
  pub room : n ≤ length d
  pub place : n ≤ length o
  pub size : length d ≡ length d₀
  pub wide : length o ≡ length o₀
  pub tallied : Tallied E n d
  pub count : length (left_of n d) + c ≡ n
  pub taken : (take_all E (indices n)).taken ≡ take c o ++ (take_all E (left_of n d)).taken
  pub left : (take_all E (indices n)).left ≡ (take_all E (left_of n d)).left

pub empty : (l : List ℕ) → length l ≤ 0 → l ≡ []
empty [] h = refl
empty (a ∷ l) h = absurd (omega arith)

module _ (E : ℕ → ℕ → Bool) (n : ℕ) where
  pub taking_none : (d o : List ℕ) → n ≤ length d → n ≤ length o → Counted E n d → Taking E n d o d o 0
  taking_none d o h g s =
      let all : left_of n d ≡ indices n = all_left n d (λ k f. left_true d k (λ z. let q = s k f in omega arith)) in
      record {
        within = omega arith;
        room = h;
        place = g;
        size = refl;
        wide = refl;
        tallied = λ k f z. rw all (s k f);
        count = rw all (omega (arith, length-up_from 0 n));
        taken = rw all refl;
        left = rw all refl;
      }

  module _ (d₀ o₀ d o : List ℕ) (c : ℕ) (v : Taking E n d₀ o₀ d o c) where
    pub taking_next : (k : ℕ) (e : List ℕ) → c < n → IsFirst (is_one d) n k → Lowered E n k d e → length e ≡ length d
        → Taking E n d₀ o₀ e (set o c k) (c + 1)
    taking_next k e h s l z =
        let f = next_is E n d v.tallied k s in
        let q = next_left E n d v.tallied k f.0 e l in
        let st = take_step E (left_of n d) k f.0 f.1 in
        record {
          within = omega arith;
          room = omega arith;
          place = simp length-set v.place;
          size = z ∙ v.size;
          wide = simp length-set v.wide;
          tallied = next_tallied E n d v.tallied k f.0 e l;
          count = rw q (omega (arith, length_without k (left_of n d) f.0, v.count));
          taken = v.taken ∙ rw (st.0, q, add-one c, take-suc-set o c k (omega (arith, v.place)), append_assoc) refl;
          left = v.left ∙ rw (st.1, q) refl;
        }

    pub taking_stop : NoneOf (is_one d) n → Taken E n o d c
    taking_stop s =
        let z = take_end E (left_of n d) (no_next E n d v.tallied s) in
        record { count = omega (arith, v.count); taken = sym (v.taken ∙ rw z.0 (append-nil (take c o))); left = sym (v.left ∙ z.1) }

-- The test `drawn` says what drawing a read adds: no edge for an own read; else the edge from j to k and those of the nodes' versions. A node's
-- number stands in its edge, so no test over all nodes is needed.
-- Assumes nothing.
use Prim.Native.Nat.{ℕ, ◌+◌, ◌*◌, ◌≤◌, ◌<◌}
use native.Mathlib.Omega.{arith}
use mathlib.Core.Path.{◌≡◌, refl, sym, ap}
use mathlib.Core.Logic.{◌⊎◌, inl, inr, ◌≢◌}
use mathlib.Core.List.{List}
use mathlib.Core.Bool.{Bool, true, false, not, ◌||◌}
use lib.Dec.{eqb, ltb}
use lib.ListN.{length, get_or}
use borrow.Author.Tests.{eqb-true, eq-eqb, lt-ltb, le-ltb, ltb-true, ltb-false}
use Rattle.lists.proofs.TestLaws.{both_true, one_true, true_left, true_right, differ, differs, same_test}
use Rattle.edges.specs.Matrix.{most_nodes, matrix_size, edge_at, with_edge}
use Rattle.edges.specs.Drawn.{rank_at, is_writer, from_read, from_before, from_after, drawn, Drew}
use Rattle.edges.specs.Adding.{Adds, comes_before, comes_after, Others}
use Rattle.edges.proofs.MatrixLaws.{one_more}
use Rattle.edges.proofs.AddingLaws.{adds_join}

-- a matrix with the edges of a relation has those of the test that computes it
pub adds_drew : (rank : List ℕ) (count k x j : ℕ) (R : ℕ → ℕ → Type 0) (m e : List ℕ) → ((a b : ℕ) → R a b → drawn rank count k x j a b ≡ true)
    → ((a b : ℕ) → drawn rank count k x j a b ≡ true → R a b) → Adds R m e → Drew rank count k x j m e
adds_drew rank count k x j R m e f g y = record {
  size = y.size;
  edges = λ a b u v. same_test (edge_at e a b) (edge_at m a b || drawn rank count k x j a b)
      (λ t. elim (y.only a b u v t) [ inl o ↦ true_left (edge_at m a b) _ o | inr r ↦ true_right (edge_at m a b) _ (f a b r) ])
      (λ t. elim (one_true (edge_at m a b) _ t) [ inl o ↦ y.kept a b u v o | inr r ↦ y.sets a b u v (g a b r) ]);
}

module _ (rank : List ℕ) (count x : ℕ) where
  pub rank_node : (i : ℕ) → i < count → rank_at rank count x i ≡ get_or rank (i * 64 + x) 0
  rank_node i h = rw (lt-ltb i count h)

  pub rank_past : (i : ℕ) → count ≤ i → rank_at rank count x i ≡ 0
  rank_past i h = rw (le-ltb i count h)

  -- what has a rank is a node
  pub ranked_node : (i : ℕ) → 0 < rank_at rank count x i → i < count
  ranked_node i h = go (ltb i count) refl
    where
      go : (b : Bool) → ltb i count ≡ b → i < count
      go true e = ltb-true i count e
      go false e = let z = rank_past i (ltb-false i count e) in absurd (omega arith)

-- an own read draws no edge
pub drawn_own : (rank : List ℕ) (count k x j : ℕ) → j ≡ k → (a b : ℕ) → drawn rank count k x j a b ≡ false
unfolding drawn
drawn_own rank count k x j e a b = rw (eq-eqb j k e)

or_false : (b : Bool) → b ≡ (b || false)
or_false true = refl
or_false false = refl

pub drew_own : (rank : List ℕ) (count k x j : ℕ) (m : List ℕ) → j ≡ k → Drew rank count k x j m m
drew_own rank count k x j m e = record { size = refl; edges = λ a b u v. rw (drawn_own rank count k x j e a b) (or_false (edge_at m a b)) }

-- the edges of a read that is no own read, as a relation
pub data Draws (rank : List ℕ) (count k x j : ℕ) : ℕ → ℕ → Type 0 where
  reads : j < count → Draws rank count k x j j k
  before : {i : ℕ} → i ≢ k → 0 < rank_at rank count x i → rank_at rank count x i < rank_at rank count x j → Draws rank count k x j i j
  after : {i : ℕ} → i ≢ k → 0 < rank_at rank count x i → rank_at rank count x j < rank_at rank count x i → Draws rank count k x j k i

module _ (rank : List ℕ) (count k x j : ℕ) where
  abbrev rank_of : ℕ → ℕ
  rank_of i = rank_at rank count x i

  writer : (i : ℕ) → is_writer rank count k x j i ≡ true → (i ≢ k) × (0 < rank_of i)
  writer i e =
      let p = both_true (not (eqb i j)) _ e in
      let q = both_true (not (eqb i k)) _ p.1 in
      (differ i k q.0, ltb-true 0 (rank_of i) q.1)

  is_writer_lem : (i : ℕ) → i ≢ j → i ≢ k → 0 < rank_of i → is_writer rank count k x j i ≡ true
  is_writer_lem i n o h = rw (differs i j n, differs i k o, lt-ltb 0 (rank_of i) h)

  pub drawn_draws : (a b : ℕ) → drawn rank count k x j a b ≡ true → (j ≢ k) × Draws rank count k x j a b
  unfolding drawn
  drawn_draws a b e =
      let p = both_true (not (eqb j k)) _ e in (
        differ j k p.0,
        elim (one_true (from_read rank count k x j a b) _ p.1) [
          | inl f ↦ from_read_draws f
          | inr f ↦ elim (one_true (from_before rank count k x j a b) _ f) [ inl g ↦ from_before_draws g | inr g ↦ from_after_draws g ]
        ],
      )
    where
      from_read_draws : from_read rank count k x j a b ≡ true → Draws rank count k x j a b
      from_read_draws f =
          let p = both_true (ltb j count) _ f in
          let q = both_true (eqb a j) _ p.1 in
          rw (eqb-true a j q.0, eqb-true b k q.1) (reads (ltb-true j count p.0))

      from_before_draws : from_before rank count k x j a b ≡ true → Draws rank count k x j a b
      from_before_draws f =
          let p = both_true (is_writer rank count k x j a) _ f in
          let q = both_true (ltb (rank_of a) (rank_of j)) _ p.1 in
          let w = writer a p.0 in
          rw (eqb-true b j q.1) (before w.0 w.1 (ltb-true (rank_of a) (rank_of j) q.0))

      from_after_draws : from_after rank count k x j a b ≡ true → Draws rank count k x j a b
      from_after_draws f =
          let p = both_true (is_writer rank count k x j b) _ f in
          let q = both_true (ltb (rank_of j) (rank_of b)) _ p.1 in
          let w = writer b p.0 in
          rw (eqb-true a k q.1) (after w.0 w.1 (ltb-true (rank_of j) (rank_of b) q.0))

  pub draws_drawn : (a b : ℕ) → j ≢ k → Draws rank count k x j a b → drawn rank count k x j a b ≡ true
  unfolding drawn
  draws_drawn a b n (reads h) = rw (differs j k n) (true_left (from_read rank count k x j j k) _ (rw (lt-ltb j count h, eq-eqb j j refl, eq-eqb k k refl)))
  draws_drawn a b n (before {i} o p h) = rw (differs j k n) (true_right (from_read rank count k x j i j) _ (true_left (from_before rank count k x j i j) _
      (rw (
        is_writer_lem i (λ e. absurd (let z : rank_of i ≡ rank_of j = ap rank_of e in omega arith)) o p,
        lt-ltb (rank_of i) (rank_of j) h,
        eq-eqb j j refl,
      ))))
  draws_drawn a b n (after {i} o p h) = rw (differs j k n) (true_right (from_read rank count k x j k i) _ (true_right (from_before rank count k x j k i) _
      (rw (
        is_writer_lem i (λ e. absurd (let z : rank_of i ≡ rank_of j = ap rank_of e in omega arith)) o p,
        lt-ltb (rank_of j) (rank_of i) h,
        eq-eqb k k refl,
      ))))

  -- ---- what the code adds

  others_draws : (r : ℕ) → r ≡ rank_of j → (a b : ℕ) → Others rank x k j r count a b → Draws rank count k x j a b
  others_draws r e a b (i, h, comes_before n p q) = let z = rank_node rank count x i h in before n (omega arith) (omega arith)
  others_draws r e a b (i, h, comes_after n p q) = let z = rank_node rank count x i h in after n (omega arith) (omega arith)

  draws_others : (r : ℕ) → r ≡ rank_of j → (a b : ℕ) → Draws rank count k x j a b → ((j < count) × (a ≡ j) × (b ≡ k)) ⊎ Others rank x k j r count a b
  draws_others r e a b (reads h) = inl (h, refl, refl)
  draws_others r e a b (before {i} n p q) = let h = ranked_node rank count x i p in let z = rank_node rank count x i h in
      inr (i, h, comes_before n (omega arith) (omega arith))
  draws_others r e a b (after {i} n p q) = let h = ranked_node rank count x i p in let z = rank_node rank count x i h in
      inr (i, h, comes_after n (omega arith) (omega arith))

  module _ (n : j ≢ k) (m e : List ℕ) where
    -- a read from version 0
    pub drew_initial : count ≤ j → Adds (Others rank x k j 0 count) m e → Drew rank count k x j m e
    drew_initial h y = adds_drew rank count k x j (Others rank x k j 0 count) m e
        (λ a b o. draws_drawn a b n (others_draws 0 zero_rank a b o))
        (λ a b t. elim (draws_others 0 zero_rank a b (drawn_draws a b t).1) [ inl q ↦ absurd (let z = q.0 in omega arith) | inr o ↦ o ])
        y
      where
        zero_rank : 0 ≡ rank_of j
        zero_rank = sym (rank_past rank count x j h)

    -- a read from another node
    pub drew_other : j < count → k < count → count ≤ most_nodes → matrix_size ≤ length m
        → Adds (Others rank x k j (get_or rank (j * 64 + x) 0) count) (with_edge m j k) e → Drew rank count k x j m e
    drew_other h l w s y = adds_drew rank count k x j (λ (a b : ℕ). ((a ≡ j) × (b ≡ k)) ⊎ Others rank x k j (get_or rank (j * 64 + x) 0) count a b) m e
        (λ a b o. draws_drawn a b n (elim o [ inl q ↦ from-read a b q.0 q.1 | inr p ↦ others_draws _ same_rank a b p ]))
        (λ a b t. elim (draws_others _ same_rank a b (drawn_draws a b t).1) [ inl q ↦ inl (q.1, q.2) | inr o ↦ inr o ])
        (adds_join (λ (a b : ℕ). (a ≡ j) × (b ≡ k)) (Others rank x k j (get_or rank (j * 64 + x) 0) count) m (with_edge m j k) e
        (one_more m j k s (omega arith) (omega arith) (λ (a b : ℕ). (a ≡ j) × (b ≡ k)) (λ a b q. q) (refl, refl)) y)
      where
        same_rank : get_or rank (j * 64 + x) 0 ≡ rank_of j
        same_rank = sym (rank_node rank count x j h)

        from-read : (a b : ℕ) → a ≡ j → b ≡ k → Draws rank count k x j a b
        from-read a b p q = rw (p, q) (reads h)

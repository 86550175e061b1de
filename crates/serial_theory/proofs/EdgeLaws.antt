-- The test computes the edges: each test that passes is taken apart into the facts of `Edge`, and each case of `Edge` passes the test at its
-- read and, for the second and third, at the write.
-- Assumes nothing.
use Prim.Native.Nat.{ℕ}
use mathlib.Core.Path.{◌≡◌, refl, ap, subst}
use mathlib.Core.Logic.{inl, inr, ◌↔◌, ◌≢◌}
use mathlib.Core.List.Memᴰ
use mathlib.Core.List.{List, [], ◌∷◌}
use mathlib.Core.Bool.{true, not, ◌&&◌, ◌||◌}
use lib.Dec.{eqb}
use borrow.Author.Tests.{eqb-true, eq-eqb}
use Rattle.lists.specs.Member.{◌∈◌}
use Rattle.lists.specs.Order.{Before}
use Rattle.lists.specs.Tests.{any}
use Rattle.lists.proofs.TestLaws.{false_true, any_true, any-holds, both_true, one_true, true_left, true_right, differ, differs, any_in, in_any}
use Rattle.log_format.specs.Events.{Event, begins, reads, writes, commits, aborts}
use Rattle.log_format.specs.Told.{Done}
use Rattle.log_format.proofs.ToldLaws.{done_is, got_is, put_is}
use Rattle.graph_theory.specs.Graph.{Decides}
use Rattle.serial_theory.specs.Edges.{versions, Wrote, Draws, Edge, drawn, reads_from, comes_before, comes_after}
use Rattle.serial_theory.specs.EdgeTest.{commit_of, done, before, draws, by_write, by_read, edge}

pub done_true : (log : List Event) (t : ℕ) → done log t ≡ true → Done t log
done_true log t e = let r = any_true (commit_of t) log e in (done_is t log).1 (Memᴰ.cast (is r.0 r.2) r.1)
  where
    is : (e : Event) → commit_of t e ≡ true → commits t ≡ e
    is (begins u) e = false_true e
    is (reads u x j v) e = false_true e
    is (writes u x v) e = false_true e
    is (commits u) e = ap commits (eqb-true t u e)
    is (aborts u c) e = false_true e

pub true_done : (log : List Event) (t : ℕ) → Done t log → done log t ≡ true
true_done log t d = any-holds (commit_of t) log (commits t) ((done_is t log).0 d) (eq-eqb t t refl)

before_true : (l : List ℕ) (i j : ℕ) → before l i j ≡ true → Before l i j
before_true [] i j e = false_true e
before_true (a ∷ l) i j e = elim (one_true (eqb i a && any (eqb j) l) (before l i j) e) [
  | inl f ↦ (let p = both_true (eqb i a) (any (eqb j) l) f in inl (eqb-true i a p.0, any_in j l p.1))
  | inr f ↦ inr (before_true l i j f)
]

true_before : (l : List ℕ) (i j : ℕ) → Before l i j → before l i j ≡ true
true_before [] i j b = absurd b
true_before (a ∷ l) i j (inl p) = true_left (eqb i a && any (eqb j) l) (before l i j) (rw (eq-eqb i a p.0, in_any j l p.1))
true_before (a ∷ l) i j (inr b) = true_right (eqb i a && any (eqb j) l) (before l i j) (true_before l i j b)

-- ---- what passes is an edge

module _ (log : List Event) (vs : ℕ → List ℕ) (a b : ℕ) where
  -- the edge drawn from i to h is the one from a to b
  placed : (k x j i h : ℕ) → (eqb a i && eqb b h) ≡ true → Draws log vs k x j i h → Draws log vs k x j a b
  placed k x j i h e d = let p = both_true (eqb a i) (eqb b h) e in rw (eqb-true a i p.0, eqb-true b h p.1) d

  version_drawn : (k x j i : ℕ) → Wrote log i x j k → draws log vs a b k x j i ≡ true → Draws log vs k x j a b
  version_drawn k x j i w e = elim (one_true (before (versions vs x) i j && (eqb a i && eqb b j)) (before (versions vs x) j i && (eqb a k && eqb b i)) e) [
    | inl h ↦ (let p = both_true (before (versions vs x) i j) _ h in placed k x j i j p.1 (comes_before w (before_true (versions vs x) i j p.0)))
    | inr h ↦ (let p = both_true (before (versions vs x) j i) _ h in placed k x j k i p.1 (comes_after w (before_true (versions vs x) j i p.0)))
  ]

  write_drawn : (k x j : ℕ) (e : Event) → e ∈ log → by_write log vs a b k x j e ≡ true → Draws log vs k x j a b
  write_drawn k x j (begins u) m e = false_true e
  write_drawn k x j (reads u y h v) m e = false_true e
  write_drawn k x j (writes i y v) m e =
      let p = both_true (eqb y x) _ e in
      let q = both_true (done log i) _ p.1 in
      let r = both_true (not (eqb i j)) _ q.1 in
      let s = both_true (not (eqb i k)) _ r.1 in
      version_drawn k x j i
      (record {
        done = done_true log i q.0;
        put = (v, (put_is i x v log).1 (subst (λ (z : ℕ). writes i z v ∈ log) (eqb-true y x p.0) m));
        not_j = differ i j r.0;
        not_k = differ i k s.0;
      })
      s.1
  write_drawn k x j (commits u) m e = false_true e
  write_drawn k x j (aborts u c) m e = false_true e

  -- what passes at a read is drawn by it
  pub read_true : (k x j v : ℕ) → by_read log vs a b (reads k x j v) ≡ true → Done k log × (j ≢ k) × Draws log vs k x j a b
  read_true k x j v e =
      let p = both_true (done log k) _ e in
      let q = both_true (not (eqb j k)) _ p.1 in (
        done_true log k p.0,
        differ j k q.0,
        elim (one_true (not (eqb j 0) && (eqb a j && eqb b k)) (any (by_write log vs a b k x j) log) q.1) [
          | inl h ↦ (let r = both_true (not (eqb j 0)) _ h in placed k x j j k r.1 (reads_from (differ j 0 r.0)))
          | inr h ↦ (let r = any_true (by_write log vs a b k x j) log h in write_drawn k x j r.0 r.1 r.2)
        ],
      )

  read_edge : (e : Event) → e ∈ log → by_read log vs a b e ≡ true → Edge log vs a b
  read_edge (begins u) m e = false_true e
  read_edge (reads k x j v) m e =
      let r = read_true k x j v e in drawn (record { value = v; done = r.0; got = (got_is k x j v log).1 m; other = r.1 }) r.2
  read_edge (writes i y v) m e = false_true e
  read_edge (commits u) m e = false_true e
  read_edge (aborts u c) m e = false_true e

  pub edge_true : edge log vs a b ≡ true → Edge log vs a b
  unfolding edge
  edge_true e = let r = any_true (by_read log vs a b) log e in read_edge r.0 r.1 r.2

-- ---- an edge passes

module _ (log : List Event) (vs : ℕ → List ℕ) where
  by_write_lem : (a b k x j i : ℕ) (w : Wrote log i x j k) → draws log vs a b k x j i ≡ true → any (by_write log vs a b k x j) log ≡ true
  by_write_lem a b k x j i w e = any-holds (by_write log vs a b k x j) log (writes i x w.put.0) ((put_is i x w.put.0 log).0 w.put.1)
      (rw (eq-eqb x x refl, true_done log i w.done, differs i j w.not_j, differs i k w.not_k) e)

  drawn_passes : (k x j : ℕ) {a b : ℕ} → Draws log vs k x j a b → ((not (eqb j 0) && (eqb a j && eqb b k)) || any (by_write log vs a b k x j) log) ≡ true
  drawn_passes k x j (reads_from nz) = true_left (not (eqb j 0) && (eqb j j && eqb k k)) _ (rw (differs j 0 nz, eq-eqb j j refl, eq-eqb k k refl))
  drawn_passes k x j (comes_before {i} w o) = true_right (not (eqb j 0) && (eqb i j && eqb j k)) _ (by_write_lem i j k x j i w
      (true_left (before (versions vs x) i j && (eqb i i && eqb j j)) _ (rw (true_before (versions vs x) i j o, eq-eqb i i refl, eq-eqb j j refl))))
  drawn_passes k x j (comes_after {i} w o) = true_right (not (eqb j 0) && (eqb k j && eqb i k)) _ (by_write_lem k i k x j i w
      (true_right (before (versions vs x) i j && (eqb k i && eqb i j)) _ (rw (true_before (versions vs x) j i o, eq-eqb k k refl, eq-eqb i i refl))))

  -- what a read draws passes at it
  pub true_read : (a b k x j v : ℕ) → Done k log → j ≢ k → Draws log vs k x j a b → by_read log vs a b (reads k x j v) ≡ true
  true_read a b k x j v h n d = rw (true_done log k h, differs j k n) (drawn_passes k x j d)

  pub true_edge : {a b : ℕ} → Edge log vs a b → edge log vs a b ≡ true
  unfolding edge
  true_edge {a} {b} (drawn {k} {x} {j} f d) =
      any-holds (by_read log vs a b) log (reads k x j f.value) ((got_is k x j f.value log).0 f.got)
      (true_read a b k x j f.value f.done f.other d)

  -- the test computes the edges
  pub edge_decides : Decides (edge log vs) (Edge log vs)
  edge_decides = record { sound = edge_true log vs; whole = λ a b. true_edge }

  pub edge_iff : (a b : ℕ) → (edge log vs a b ≡ true) ↔ Edge log vs a b
  edge_iff a b = (edge_true log vs a b, true_edge)

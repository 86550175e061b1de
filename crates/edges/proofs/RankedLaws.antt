-- A read drawn over nodes and ranks is the read drawn over stamps and the version order. Version 0, of rank 0, and then x's versions are one list
-- without doubles, in which a version stands at its rank; so a smaller rank is an earlier place, and the other way round.
-- Assumes nothing.
use Prim.Native.Nat.{ℕ, zero, suc, ◌≤◌, ◌<◌}
use native.Mathlib.Omega.{arith}
use mathlib.Core.Path.{◌≡◌, refl, sym, ◌∙◌, ap, subst}
use mathlib.Core.Logic.{◌↔◌, ◌≢◌}
use mathlib.Core.List.{List}
use mathlib.Core.Bool.{Bool, true, false}
use lib.Dec.{ltb}
use lib.ListN.{length, get_or}
use lib.Seq.{length-take-le, get_or-take}
use borrow.Author.Tests.{lt-ltb, le-ltb, ltb-true, ltb-false}
use Rattle.lists.specs.Member.{◌∈◌}
use Rattle.lists.specs.Order.{Distinct, Before}
use Rattle.lists.proofs.TestLaws.{same_test}
use Rattle.lists.proofs.PlaceLaws.{at_in, before_at, at_before, distinct_at}
use Rattle.lists.proofs.RisingLaws.{rising_distinct}
use Rattle.log_format.specs.Events.{Event, reads}
use Rattle.log_format.specs.Told.{Put, Puts, Done}
use Rattle.log_format.proofs.ToldLaws.{got_is}
use Rattle.history_rules.specs.WellFormed.{most_item}
use Rattle.serial_theory.specs.Edges.{Regular, Version, VersionOrder, versions, Wrote, Draws, reads_from, comes_before, comes_after}
use Rattle.serial_theory.specs.EdgeTest.{by_read}
use Rattle.serial_theory.specs.Judged.{committed}
use Rattle.serial_theory.proofs.CommittedLaws.{committed_rising, committed_is}
use Rattle.serial_theory.proofs.RegularLaws.{done-stamp, read-written}
use Rattle.serial_theory.proofs.EdgeLaws.{read_true, true_read}
use Rattle.edges.specs.Drawn.{rank_at, drawn}
use Rattle.edges.specs.Ranked.{IsRank, Ranked, stamp_at}
use Rattle.edges.proofs.DrawnLaws.{rank_past, ranked_node, drawn_draws, draws_drawn}
use Rattle.edges.proofs.DrawnLaws as nodes

module _ (log : List Event) (vs : ℕ → List ℕ) (ss rank : List ℕ) (count : ℕ) (r : Ranked log vs ss rank count) where
  abbrev node : ℕ → ℕ
  node i = get_or ss i 0

  abbrev stamp : ℕ → ℕ
  stamp i = stamp_at ss count i

  pub committed_count : length (committed log) ≡ count
  committed_count = ap length (sym r.all) ∙ length-take-le count ss r.room

  pub node_at : (i : ℕ) → i < count → get_or (committed log) i 0 ≡ node i
  node_at i h = ap (λ (l : List ℕ). get_or l i 0) (sym r.all) ∙ get_or-take count ss i 0 h

  pub node_done : (i : ℕ) → i < count → Done (node i) log
  node_done i h =
      (committed_is log (node i)).0 (subst (λ (t : ℕ). t ∈ committed log) (node_at i h) (at_in (committed log) i (omega (arith, committed_count))))

  -- different nodes have different stamps
  pub same_node : (a b : ℕ) → a < count → b < count → node a ≡ node b → a ≡ b
  same_node a b u v e =
      distinct_at (committed log) a b (rising_distinct 0 (committed log) (committed_rising log)) (omega (arith, committed_count))
      (omega (arith, committed_count))
      (node_at a u ∙ e ∙ sym (node_at b v))

  pub stamp_node : (i : ℕ) → i < count → stamp i ≡ node i
  stamp_node i h = rw (lt-ltb i count h)

  pub stamp_past : (i : ℕ) → count ≤ i → stamp i ≡ 0
  stamp_past i h = rw (le-ltb i count h)

  module _ (g : Regular log) (vo : VersionOrder log vs) (x : ℕ) (item : x ≤ most_item) where
    abbrev all : List ℕ
    all = versions vs x

    abbrev rank_of : ℕ → ℕ
    rank_of i = rank_at rank count x i

    distinct : Distinct all
    distinct = (λ m. done-stamp log g 0 ((vo x).only 0 m).0 refl, (vo x).once)

    node_stamp : (i : ℕ) → i < count → node i ≢ 0
    node_stamp i h = done-stamp log g (node i) (node_done i h)

    is_rank : (i : ℕ) → i < count → IsRank (node i) (vs x) (rank_of i)
    is_rank i h = rw (lt-ltb i count h) (r.ranks i x h item)

    -- a version stands at its rank
    at_rank : (i : ℕ) → (i < count → rank_of i ≢ 0) → (rank_of i < length all) × (get_or all (rank_of i) 0 ≡ stamp i)
    at_rank i n = go (ltb i count) refl (rank_of i) refl
      where
        go : (b : Bool) → ltb i count ≡ b → (p : ℕ) → rank_of i ≡ p → (p < length all) × (get_or all p 0 ≡ stamp i)
        go true e zero f = absurd (n (ltb-true i count e) f)
        go true e (suc p) f = let h = ltb-true i count e in let q = (is_rank i h).place p f in (omega (arith, q.0), q.1 ∙ sym (stamp_node i h))
        go false e zero f = (omega arith, sym (stamp_past i (ltb-false i count e)))
        go false e (suc p) f = let z = rank_past rank count x i (ltb-false i count e) in absurd (omega arith)

    -- and stands nowhere else
    rank_at_lem : (i p : ℕ) → (i < count → rank_of i ≢ 0) → p < length all → get_or all p 0 ≡ stamp i → p ≡ rank_of i
    rank_at_lem i p n h e = let q = at_rank i n in distinct_at all p (rank_of i) distinct h q.0 (e ∙ sym q.1)

    -- who has a version has a rank, and the other way round
    has_rank : (i : ℕ) → i < count → Puts (node i) x log → rank_of i ≢ 0
    has_rank i h p z = (is_rank i h).none z ((vo x).all (node i) (node_done i h, p))

    rank_has : (i : ℕ) → 0 < rank_of i → Version log x (node i)
    rank_has i h =
        let q = at_rank i (λ u z. omega arith) in
        let c = ranked_node rank count x i h in
        go (rank_of i) refl h q.0 (q.1 ∙ stamp_node i c)
      where
        go : (p : ℕ) → rank_of i ≡ p → 0 < p → p < length all → get_or all p 0 ≡ node i → Version log x (node i)
        go zero f u l e = absurd (omega arith)
        go (suc p) f u l e = (vo x).only (node i) (subst (λ (t : ℕ). t ∈ vs x) e (at_in (vs x) p (omega arith)))

    module _ (k j v : ℕ) (u : k < count) (m : reads (node k) x (stamp j) v ∈ log) where
      -- the version read has a rank
      read_rank : j < count → rank_of j ≢ 0
      read_rank h =
          let e = stamp_node j h in
          has_rank j h (
            v,
            subst (λ (t : ℕ). Put t x v log) e
                (read-written log g (node k) x (stamp j) v ((got_is (node k) x (stamp j) v log).1 m) (λ z. node_stamp j h (sym e ∙ z))),
          )

      other_node : j ≢ k → stamp j ≢ node k
      other_node n e = go (ltb j count) refl
        where
          go : (b : Bool) → ltb j count ≡ b → ⊥
          go true f = let h = ltb-true j count f in n (same_node j k h u (sym (stamp_node j h) ∙ e))
          go false f = node_stamp k u (sym e ∙ stamp_past j (ltb-false j count f))

      node_other : stamp j ≢ node k → j ≢ k
      node_other n e = n (stamp_node j (omega arith) ∙ ap node e)

      wrote : (i : ℕ) → 0 < rank_of i → i ≢ k → rank_of i ≢ rank_of j → Wrote log (node i) x (stamp j) (node k)
      wrote i h n d =
          let c = ranked_node rank count x i h in
          let w = rank_has i h in
          record {
            done = w.0;
            put = w.1;
            not_j = λ e. d (rank_at_lem j (rank_of i) read_rank (at_rank i (λ _ z. omega arith)).0 ((at_rank i (λ _ z. omega arith)).1 ∙ stamp_node i c ∙ e));
            not_k = λ e. n (same_node i k c u e);
          }

      before : (i h : ℕ) → (i < count → rank_of i ≢ 0) → (h < count → rank_of h ≢ 0) → rank_of i < rank_of h → Before all (stamp i) (stamp h)
      before i h p q l =
          let s = at_rank i p in
          let t = at_rank h q in
          rw (← s.1, ← t.1) (before_at all (rank_of i) (rank_of h) l t.0)

      -- ---- what the nodes draw is drawn

      to_stamps : (a b : ℕ) → nodes.Draws rank count k x j a b → Draws log vs (node k) x (stamp j) (stamp a) (stamp b)
      to_stamps a b (nodes.reads h) =
          rw (stamp_node k u) (reads_from (λ z. node_stamp j h (sym (stamp_node j h) ∙ z)))
      to_stamps a b (nodes.before {i} n p q) =
          let c = ranked_node rank count x i p in
          rw (stamp_node i c) (comes_before (wrote i p n (λ e. omega arith)) (rw (stamp_node i c) at (before i j (λ _ z. omega arith) read_rank q)))
      to_stamps a b (nodes.after {i} n p q) =
          let c = ranked_node rank count x i p in
          rw (stamp_node i c, stamp_node k u) (comes_after (wrote i p n (λ e. omega arith))
          (rw (stamp_node i c) at (before j i read_rank (λ _ z. omega arith) q)))

      -- ---- what is drawn the nodes draw

      from_node : stamp j ≢ 0 → j < count
      from_node n = go (ltb j count) refl
        where
          go : (b : Bool) → ltb j count ≡ b → j < count
          go true e = ltb-true j count e
          go false e = absurd (n (stamp_past j (ltb-false j count e)))

      -- of two versions, the one that stands before the other has the smaller rank
      lower : (i h : ℕ) → (i < count → rank_of i ≢ 0) → (h < count → rank_of h ≢ 0) → Before all (stamp i) (stamp h) → rank_of i < rank_of h
      lower i h p q b =
          let t = at_before all (stamp i) (stamp h) b in
          let y = rank_at_lem i t.0 p (omega (arith, t.2, t.3)) t.4 in
          let z = rank_at_lem h t.1 q t.3 t.5 in
          omega (arith, t.2, y, z)

      to_nodes : (a b : ℕ) → a < count → b < count → (c d : ℕ) → c ≡ node a → d ≡ node b → Draws log vs (node k) x (stamp j) c d
          → nodes.Draws rank count k x j a b
      to_nodes a b o p c d e f (reads_from nz) =
          let h = from_node nz in
          rw (same_node a j o h (sym e ∙ stamp_node j h), same_node b k p u (sym f)) (nodes.reads h)
      to_nodes a b o p c d e f (comes_before {i} w t) =
          let h = from_node (λ z. node_stamp b p (sym f ∙ z)) in
          let n : a < count → rank_of a ≢ 0 = λ _. has_rank a o (subst (λ (y : ℕ). Puts y x log) e w.put) in
          let l = lower a j n read_rank (rw (stamp_node a o, ← e) t) in
          rw (same_node b j p h (sym f ∙ stamp_node j h)) (nodes.before (λ q. w.not_k (e ∙ ap node q)) (omega (arith, n o)) l)
      to_nodes a b o p c d e f (comes_after {i} w t) =
          let n : b < count → rank_of b ≢ 0 = λ _. has_rank b p (subst (λ (y : ℕ). Puts y x log) f w.put) in
          let l = lower j b read_rank n (rw (stamp_node b p, ← f) t) in
          rw (same_node a k o u (sym e)) (nodes.after (λ q. w.not_k (f ∙ ap node q)) (omega (arith, n p)) l)

      -- a read draws an edge between nodes exactly where it draws one between their stamps
      pub drawn_iff : (a b : ℕ) → a < count → b < count
          → (drawn rank count k x j a b ≡ true) ↔ ((stamp j ≢ node k) × Draws log vs (node k) x (stamp j) (node a) (node b))
      drawn_iff a b o p = (
        λ e. let t = drawn_draws rank count k x j a b e in (other_node t.0, rw (stamp_node a o, stamp_node b p) at (to_stamps a b t.1)),
        λ t. draws_drawn rank count k x j a b (node_other t.0) (to_nodes a b o p (node a) (node b) refl refl t.1),
      )

      -- and the two tests agree
      pub drawn_read : (a b : ℕ) → a < count → b < count → drawn rank count k x j a b ≡ by_read log vs (node a) (node b) (reads (node k) x (stamp j) v)
      drawn_read a b o p = same_test (drawn rank count k x j a b) (by_read log vs (node a) (node b) (reads (node k) x (stamp j) v))
          (λ e. let t = (drawn_iff a b o p).0 e in true_read log vs (node a) (node b) (node k) x (stamp j) v (node_done k u) t.0 t.1)
          (λ e. let t = read_true log vs (node a) (node b) (node k) x (stamp j) v e in (drawn_iff a b o p).1 (t.1, t.2))

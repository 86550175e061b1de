-- Items are names. A log over two items has the nodes, the edges and the codes that it has over 0 and 1, since each asks of items only whether they are the
-- same and at most 63; so it passes 21 to 27 where that does, and has the same verdict under lists that are named alike.
-- Assumes nothing.
use Prim.Native.Nat.{ℕ, zero, suc, ◌*◌, ◌≤◌}
use native.Mathlib.Omega.{arith}
use mathlib.Core.Path.{◌≡◌, refl, sym, ap, ap₂, ◌∙◌, subst, fun_ext}
use mathlib.Core.Logic.{inl, inr}
use mathlib.Core.List.Memᴰ
use mathlib.Core.List.{List, [], ◌∷◌, map}
use mathlib.Core.Bool.{true, cond}
use lib.Dec.{eqb, ltb}
use lib.ListN.{length, length-append, length-map}
use borrow.Author.Tests.{eq-eqb, ne_eqb, le-ltb}
use Rattle.lists.specs.Member.{◌∈◌}
use Rattle.lists.specs.Order.{insert}
use Rattle.lists.specs.Tests.{any}
use Rattle.lists.proofs.OrderLaws.{in_nil}
use Rattle.log_format.specs.Bytes.{Bytes}
use Rattle.log_format.specs.Fields.{encode, Fits}
use Rattle.log_format.specs.Whole.{write_all, log_of, Good}
use Rattle.log_format.specs.Events.{Event, begins, reads, writes, commits, aborts, record_of, event_of}
use Rattle.log_format.specs.Told.{Got, Put, Done}
use Rattle.log_format.proofs.WholeLaws.{write_read}
use Rattle.scheduler_laws.proofs.FromFresh.{retold}
use Rattle.history_rules.specs.History.{passed, history_of}
use Rattle.history_rules.proofs.HistoryLaws.{well_passed}
use Rattle.end_to_end.proofs.BytesLaws.{Narrow, events-bytes}
use Rattle.history_rules.specs.WellFormed.{most_item, AllRight, WellFormed}
use Rattle.history_rules.specs.Faults as faults
use Rattle.history_rules.specs.Faults.{stage, written, fault}
use Rattle.history_rules.proofs.Stages.{Views, no_views, views_more}
use Rattle.history_rules.proofs.FaultLaws.{fault_right, right_fault}
use Rattle.graph_theory.specs.Verdict.{verdict_of}
use Rattle.serial_theory.specs.EdgeTest.{done, by_write, by_read, edge}
use Rattle.serial_theory.specs.Judged.{committed, verdict}
use Rattle.serial_theory.proofs.CommittedLaws.{committed_is, committed-number}
use Rattle.cases.specs.Items.{Items, item_over, event_over, over}

-- a log's items are 0 and 1, its causes 0 or 1
abbrev pub Uses : List Event → Type 0
Uses [] = Unit {0}
Uses (begins t ∷ log) = Uses log
Uses (reads t i j v ∷ log) = (i ≤ 1) × Uses log
Uses (writes t i v ∷ log) = (i ≤ 1) × Uses log
Uses (commits t ∷ log) = Uses log
Uses (aborts t c ∷ log) = (c ≤ 1) × Uses log

-- a record has at most 16 bytes
sixteen : (e : Event) → length (encode (record_of e)) ≤ 16
sixteen (begins t) = omega arith
sixteen (reads t i j v) = omega arith
sixteen (writes t i v) = omega arith
sixteen (commits t) = omega arith
sixteen (aborts t c) = omega arith

short : (log : List Event) → length (write_all (map record_of log)) ≤ 16 * length log
short [] = omega arith
short (e ∷ log) = omega (arith, length-append (encode (record_of e)) (write_all (map record_of log)), sixteen e, short log)

module _ (x y : ℕ) (it : Items x y) where
  abbrev name : ℕ → ℕ
  name = item_over x y

  -- ---- the two questions that are asked of items

  same : (i j : ℕ) → i ≤ 1 → j ≤ 1 → eqb (name i) (name j) ≡ eqb i j
  same zero zero h l = eq-eqb x x refl
  same zero (suc zero) h l = ne_eqb x y it.apart
  same zero (suc (suc j)) h l = absurd (omega arith)
  same (suc zero) zero h l = ne_eqb y x (λ e. it.apart (sym e))
  same (suc zero) (suc zero) h l = eq-eqb y y refl
  same (suc zero) (suc (suc j)) h l = absurd (omega arith)
  same (suc (suc i)) j h l = absurd (omega arith)

  low : (i : ℕ) → name i ≤ most_item
  low zero = it.first
  low (suc i) = it.second

  below : (i : ℕ) → i ≤ 1 → ltb most_item (name i) ≡ ltb most_item i
  below i h = le-ltb most_item (name i) (low i) ∙ sym (le-ltb most_item i (omega arith))

  -- ---- nodes

  pub committed-over : (log : List Event) → committed (over x y log) ≡ committed log
  unfolding committed
  committed-over [] = refl
  committed-over (begins t ∷ log) = committed-over log
  committed-over (reads t i j v ∷ log) = committed-over log
  committed-over (writes t i v ∷ log) = committed-over log
  committed-over (commits t ∷ log) = ap (insert t) (committed-over log)
  committed-over (aborts t c ∷ log) = committed-over log

  pub done-over : (t : ℕ) (log : List Event) → Done t log → Done t (over x y log)
  done-over t log d = (committed_is (over x y log) t).0 (subst (λ (l : List ℕ). t ∈ l) (sym (committed-over log)) ((committed_is log t).1 d))

  pub over_done : (t : ℕ) (log : List Event) → Done t (over x y log) → Done t log
  over_done t log d = (committed_is log t).0 (subst (λ (l : List ℕ). t ∈ l) (committed-over log) ((committed_is (over x y log) t).1 d))

  -- ---- edges

  done_same : (t : ℕ) (log : List Event) → done (over x y log) t ≡ done log t
  done_same t [] = refl
  done_same t (begins u ∷ log) = done_same t log
  done_same t (reads u i j v ∷ log) = done_same t log
  done_same t (writes u i v ∷ log) = done_same t log
  done_same t (commits u ∷ log) = ap (cond (eqb t u) true) (done_same t log)
  done_same t (aborts u c ∷ log) = done_same t log

  module _ (log : List Event) (vs vs' : ℕ → List ℕ) (alike : (i : ℕ) → i ≤ 1 → vs' (name i) ≡ vs i) (a b : ℕ) where
    writes_same : (k i j : ℕ) → i ≤ 1 → (l : List Event) → Uses l → any (by_write (over x y log) vs' a b k (name i) j) (over x y l) ≡ any (by_write log vs a b k i j) l
    writes_same k i j h [] u = refl
    writes_same k i j h (begins t ∷ l) u = writes_same k i j h l u
    writes_same k i j h (reads t n m v ∷ l) u = writes_same k i j h l u.1
    writes_same k i j h (writes t n v ∷ l) u = rw (same n i u.0 h, done_same t log, alike i h, writes_same k i j h l u.1)
    writes_same k i j h (commits t ∷ l) u = writes_same k i j h l u
    writes_same k i j h (aborts t c ∷ l) u = writes_same k i j h l u.1

    reads_same : (l : List Event) → Uses log → Uses l → any (by_read (over x y log) vs' a b) (over x y l) ≡ any (by_read log vs a b) l
    reads_same [] w u = refl
    reads_same (begins t ∷ l) w u = reads_same l w u
    reads_same (reads t i j v ∷ l) w u = rw (done_same t log, writes_same t i j u.0 log w, reads_same l w u.1)
    reads_same (writes t i v ∷ l) w u = reads_same l w u.1
    reads_same (commits t ∷ l) w u = reads_same l w u
    reads_same (aborts t c ∷ l) w u = reads_same l w u.1

    edge_over : Uses log → edge (over x y log) vs' a b ≡ edge log vs a b
    unfolding edge
    edge_over u = reads_same log u u

  -- the verdict is the same
  pub verdict-over : (log : List Event) (vs vs' : ℕ → List ℕ) → Uses log → ((i : ℕ) → i ≤ 1 → vs' (name i) ≡ vs i) → verdict (over x y log) vs' ≡ verdict log vs
  unfolding verdict
  verdict-over log vs vs' u alike =
      ap₂ verdict_of (fun_ext (λ (a : ℕ). fun_ext (λ (b : ℕ). edge_over log vs vs' alike a b u))) (committed-over log)

  -- ---- codes 23 to 25

  stage-over : (past : List Event) (t : ℕ) → stage (over x y past) t ≡ stage past t
  unfolding stage
  stage-over [] t = refl
  stage-over (begins u ∷ past) t = ap (cond (eqb t u) faults.running) (stage-over past t)
  stage-over (reads u i j v ∷ past) t = stage-over past t
  stage-over (writes u i v ∷ past) t = stage-over past t
  stage-over (commits u ∷ past) t = ap (cond (eqb t u) faults.committed) (stage-over past t)
  stage-over (aborts u c ∷ past) t = ap (cond (eqb t u) faults.aborted) (stage-over past t)

  written_over : (past : List Event) → Uses past → (t i : ℕ) → i ≤ 1 → written (over x y past) t (name i) ≡ written past t i
  unfolding written
  written_over [] u t i h = refl
  written_over (begins k ∷ past) u t i h = written_over past u t i h
  written_over (reads k n j v ∷ past) u t i h = written_over past u.1 t i h
  written_over (writes k n v ∷ past) u t i h = rw (same i n h u.0, written_over past u.1 t i h)
  written_over (commits k ∷ past) u t i h = written_over past u t i h
  written_over (aborts k c ∷ past) u t i h = written_over past u.1 t i h

  fault-over : (past : List Event) → Uses past → (e : Event) → Uses (e ∷ []) → fault (over x y past) (event_over x y e) ≡ fault past e
  fault-over past u (begins t) w = rw (stage-over past t)
  fault-over past u (reads t i j v) w = rw (stage-over past t, stage-over past j, below i w.0, written_over past u t i w.0, written_over past u j i w.0)
  fault-over past u (writes t i v) w = rw (stage-over past t, below i w.0, written_over past u t i w.0)
  fault-over past u (commits t) w = rw (stage-over past t)
  fault-over past u (aborts t c) w = rw (stage-over past t)

  -- an event and those after it
  uses_first : (e : Event) (log : List Event) → Uses (e ∷ log) → Uses (e ∷ []) × Uses log
  uses_first (begins t) log u = (tt, u)
  uses_first (reads t i j v) log u = ((u.0, tt), u.1)
  uses_first (writes t i v) log u = ((u.0, tt), u.1)
  uses_first (commits t) log u = (tt, u)
  uses_first (aborts t c) log u = ((u.0, tt), u.1)

  uses_more : (e : Event) (log : List Event) → Uses (e ∷ []) → Uses log → Uses (e ∷ log)
  uses_more (begins t) log w u = u
  uses_more (reads t i j v) log w u = (w.0, u)
  uses_more (writes t i v) log w u = (w.0, u)
  uses_more (commits t) log w u = u
  uses_more (aborts t c) log w u = (w.0, u)

  right_over : (past log : List Event) → Uses past → Uses log → Views past → Views (over x y past) → AllRight past log → AllRight (over x y past) (over x y log)
  right_over past [] u w g g' a = tt
  right_over past (e ∷ log) u w g g' a =
      let s = uses_first e log w in
      let r = fault_right (over x y past) g' (event_over x y e) (fault-over past u e s.0 ∙ right_fault past g e a.0) in
      (r, right_over (e ∷ past) log (uses_more e past s.0 u) s.1 (views_more past g e a.0) (views_more (over x y past) g' (event_over x y e) r) a.1)

  -- ---- what was read and written

  got-over : (t z j v : ℕ) (log : List Event) → Got t z j v (over x y log) → (i : ℕ) × Got t i j v log
  got-over t z j v [] g = absurd g
  got-over t z j v (begins u ∷ log) g = got-over t z j v log g
  got-over t z j v (reads u n m w ∷ log) (inl g) = (n, inl (g.0, refl, g.2, g.3))
  got-over t z j v (reads u n m w ∷ log) (inr g) = let r = got-over t z j v log g in (r.0, inr r.1)
  got-over t z j v (writes u n w ∷ log) g = got-over t z j v log g
  got-over t z j v (commits u ∷ log) g = got-over t z j v log g
  got-over t z j v (aborts u c ∷ log) g = got-over t z j v log g

  pub put-over : (t i v : ℕ) (log : List Event) → Put t i v log → Put t (name i) v (over x y log)
  put-over t i v [] p = absurd p
  put-over t i v (begins u ∷ log) p = put-over t i v log p
  put-over t i v (reads u n m w ∷ log) p = put-over t i v log p
  put-over t i v (writes u n w ∷ log) (inl p) = inl (p.0, ap name p.1, p.2)
  put-over t i v (writes u n w ∷ log) (inr p) = inr (put-over t i v log p)
  put-over t i v (commits u ∷ log) p = put-over t i v log p
  put-over t i v (aborts u c ∷ log) p = put-over t i v log p

  -- an item written over x and y is one of them
  pub over-put : (t z v : ℕ) (log : List Event) → Uses log → Put t z v (over x y log) → (i : ℕ) × (i ≤ 1) × (z ≡ name i) × Put t i v log
  over-put t z v [] u p = absurd p
  over-put t z v (begins k ∷ log) u p = over-put t z v log u p
  over-put t z v (reads k n m w ∷ log) u p = over-put t z v log u.1 p
  over-put t z v (writes k n w ∷ log) u (inl p) = (n, u.0, p.1, inl (p.0, refl, p.2))
  over-put t z v (writes k n w ∷ log) u (inr p) = let r = over-put t z v log u.1 p in (r.0, r.1, r.2, inr r.3)
  over-put t z v (commits k ∷ log) u p = over-put t z v log u p
  over-put t z v (aborts k c ∷ log) u p = over-put t z v log u.1 p

  -- ---- well-formed

  pub well_over : (log : List Event) → Uses log → WellFormed log → WellFormed (over x y log)
  well_over log u w =
      let r = right_over [] log tt u no_views no_views w.right in
      let a = committed-number [] log w.right in
      let b = committed-number [] (over x y log) r in
      record {
        right = r;
        few = omega (arith, w.few, a, b, ap length (committed-over log));
        from = λ t z j v d g n. done-over j log (let q = got-over t z j v log g in w.from t q.0 j v (over_done t log d) q.1 n);
      }

  -- ---- as bytes

  narrow_one : (e : Event) → Uses (e ∷ []) → Narrow (event_over x y e)
  narrow_one (begins t) u = tt
  narrow_one (reads t i j v) u = omega (arith, low i)
  narrow_one (writes t i v) u = omega (arith, low i)
  narrow_one (commits t) u = tt
  narrow_one (aborts t c) u = omega (arith, u.0)

  narrow_over : (log : List Event) → Uses log → (e : Event) → e ∈ over x y log → Narrow e
  narrow_over [] u e m = in_nil m
  narrow_over (f ∷ log) u e (Memᴰ.head q) = subst Narrow (sym q) (narrow_one f (uses_first f log u).0)
  narrow_over (f ∷ log) u e (Memᴰ.tail m) = narrow_over log (uses_first f log u).1 e m

  pub bytes-over : (log : List Event) → Uses log → Bytes (log_of (map record_of (over x y log)))
  bytes-over log u = events-bytes (over x y log) (narrow_over log u)

  good_over : (log : List Event) → Good (map record_of log) → Good (map record_of (over x y log))
  unfolding Good Fits
  good_over [] g = tt
  good_over (begins t ∷ log) g = (g.0, g.1, good_over log g.2)
  good_over (reads t i j v ∷ log) g = (g.0, g.1, good_over log g.2)
  good_over (writes t i v ∷ log) g = (g.0, g.1, good_over log g.2)
  good_over (commits t ∷ log) g = (g.0, g.1, good_over log g.2)
  good_over (aborts t c ∷ log) g = (g.0, g.1, good_over log g.2)

  -- it passes 21 to 27 where it does over 0 and 1
  pub passes_over : (log : List Event) → Uses log → Good (map record_of log) → length log ≤ 4000 → WellFormed log → history_of (log_of (map record_of (over x y log))) ≡ passed (over x y log)
  passes_over log u g few w =
      let rs = map record_of (over x y log) in
      let s = short (over x y log) in
      let l : length (over x y log) ≡ length log = length-map log (event_over x y) in
      let e : map event_of rs ≡ over x y log = retold (over x y log) in
      well_passed (log_of rs) (bytes-over log u) rs (write_read rs (good_over log g) (omega arith)) (subst WellFormed (sym e) (well_over log u w)) ∙ ap passed e

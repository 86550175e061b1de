-- Under the timestamp order each edge of a scheduler's log leads from a smaller stamp to a larger. One is read from with a stamp not above the reader's;
-- a version before another has the smaller stamp; and where i's version of x comes after the one that k read, i is not between them (TS5), so it is
-- above k. So the checker's theory accepts the log with its committed stamps rising, and that order is serial.
-- Assumes nothing.
use Prim.Native.Nat.{ℕ, suc, ◌≤◌, ◌<◌}
use native.Mathlib.Omega.{arith}
use mathlib.Core.Path.{◌≡◌, refl, subst}
use mathlib.Core.List.Memᴰ
use mathlib.Core.List.{List, [], ◌∷◌, reverse}
use mathlib.Core.Logic.{inl, inr, ◌≢◌}
use Rattle.lists.specs.Member.{◌∈◌, Rising}
use Rattle.lists.specs.Order.{Before}
use Rattle.lists.proofs.RisingLaws.{rising_above}
use Rattle.log_format.specs.Events.{Event}
use Rattle.log_format.specs.Told.{Got, Done}
use Rattle.scheduler_rules.specs.Model.{Model}
use Rattle.scheduler_rules.specs.Table.{Reached}
use Rattle.scheduler_rules.specs.Lawful.{Seen}
use Rattle.scheduler_rules.proofs.Reachable.{events_lawful, reads_are_seen, no-write_between}
use Rattle.history_rules.proofs.OrderLaws.{retells_straight}
use Rattle.graph_theory.specs.Verdict.{Verdict, accepted}
use Rattle.serial_theory.specs.Edges.{Regular, ReadsFrom, Wrote, Edge, drawn, reads_from, comes_before, comes_after}
use Rattle.serial_theory.specs.Judged.{committed, verdict, Accepted, Judged}
use Rattle.serial_theory.proofs.RegularLaws.{done-stamp}
use Rattle.serial_theory.proofs.CommittedLaws.{committed_rising, committed_is}
use Rattle.serial_theory.proofs.JudgedLaws.{rising_accepted, verdict-judged}
use Rattle.order_rules.specs.Timestamps.{timestamp_versions}
use Rattle.order_rules.proofs.TimestampLaws.{timestamps_rise, timestamp_versions_lem}
use Rattle.end_to_end.specs.Demand3.{InTimestampOrder}
use Rattle.end_to_end.proofs.RightLaws.{got_straight, lawful_regular}

-- of two in a rising list the first is the smaller
before-below : (n : ℕ) (l : List ℕ) → Rising n l → (i j : ℕ) → Before l i j → i < j
before-below n [] r i j b = absurd b
before-below n (a ∷ l) r i j (inl p) = omega (arith, p.0, rising_above (suc a) l r.1 j p.1)
before-below n (a ∷ l) r i j (inr b) = before-below (suc a) l r.1 i j b

-- a rising list without 0 rises from 1 on
from_one : (l : List ℕ) → Rising 0 l → ((t : ℕ) → t ∈ l → t ≢ 0) → Rising 1 l
from_one [] r h = tt
from_one (a ∷ l) r h = let n : a ≢ 0 = h a (Memᴰ.head refl) in (omega arith, r.1)

module _ {m : Model} {es : List Event} (r : Reached m es) where
  abbrev log : List Event
  log = reverse es

  abbrev vs : ℕ → List ℕ
  vs = timestamp_versions log

  regular : Regular log
  regular = lawful_regular es (events_lawful r)

  positive : (t : ℕ) → Done t log → 1 ≤ t
  positive t d = let n : t ≢ 0 = done-stamp log regular t d in omega arith

  -- who reads from another reads from a smaller stamp
  read_below : (k x j v : ℕ) → Got k x j v log → j ≢ k → j < k
  read_below k x j v g n = go (reads_are_seen r k x j v (got_straight k x j v es g))
    where
      go : Seen k x j v es → j < k
      go (inl p) = absurd (n p.0)
      go (inr p) = p.0

  -- where k reads x from j, another that wrote x is not between them
  not_between : (k x j i : ℕ) (f : ReadsFrom log k x j) → Wrote log i x j k → j < i → k < i
  not_between k x j i f w h =
      let back = retells_straight es in
      let p = w.put in
      let n : i ≢ k = w.not_k in
      let gap : ¬ (i < k) = λ l. no-write_between r k x j f.value i p.0 (got_straight k x j f.value es f.got) (inr (back.done k f.done))
      (back.put i x p.0 p.1) (inr (back.done i w.done)) h l in
      omega arith

  pub edges_rise : (i j : ℕ) → Edge log vs i j → i < j
  edges_rise a b (drawn {k} {x} {j} f (reads_from nz)) = read_below k x j f.value f.got f.other
  edges_rise a b (drawn {k} {x} {j} f (comes_before {i} w (inl p))) = absurd (omega (arith, p.0, positive i w.done))
  edges_rise a b (drawn {k} {x} {j} f (comes_before {i} w (inr o))) = before-below 0 (vs x) (timestamps_rise log x) i j o
  edges_rise a b (drawn {k} {x} {j} f (comes_after {i} w (inl p))) = not_between k x j i f w (omega (arith, p.0, positive i w.done))
  edges_rise a b (drawn {k} {x} {j} f (comes_after {i} w (inr o))) = not_between k x j i f w (before-below 0 (vs x) (timestamps_rise log x) j i o)

  -- so the log is accepted, with its committed stamps rising
  accepts : verdict log vs ≡ accepted (committed log)
  accepts = rising_accepted log vs edges_rise

  judged : Accepted log vs (committed log)
  judged = subst (λ (v : Verdict). Judged log vs v) accepts (verdict-judged log vs regular (timestamp_versions_lem log))

  pub in_timestamp_order : InTimestampOrder log
  in_timestamp_order = record {
    regular = regular;
    order = timestamp_versions_lem log;
    edges_rise = edges_rise;
    rising = from_one (committed log) (committed_rising log) (λ t h. done-stamp log regular t ((committed_is log t).0 h));
    serial = judged.serial;
    versions = judged.versions;
    accepts = accepts;
  }

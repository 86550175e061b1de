-- Events that the scheduler's rules allow are right by the checker's: each was allowed by those before it, which is what the checker asks of it;
-- and whoever was read from, other than the reader and the initial version, had committed.
-- Assumes nothing.
use Prim.Native.Nat.{ℕ}
use native.Mathlib.Omega.{arith}
use mathlib.Core.List.{List, [], ◌∷◌, reverse, reverse_aux}
use mathlib.Core.Logic.{inl, inr, ◌≢◌}
use Rattle.log_format.specs.Events.{Event, begins, reads, writes, commits, aborts}
use Rattle.log_format.specs.Told.{Got, Done, Active}
use Rattle.log_format.proofs.ToldLaws.{got_is}
use Rattle.scheduler_rules.specs.Lawful.{Saw, May, Lawful, Seen}
use Rattle.scheduler_rules.proofs.LawfulLaws.{begun_positive, done-begun, one_end, got_seen}
use Rattle.history_rules.specs.WellFormed.{Readable, Running, Right, AllRight}
use Rattle.history_rules.proofs.OrderLaws.{of_reverse, retells_reverse}
use Rattle.serial_theory.specs.Edges.{Regular}

-- ---- one event

-- who is active is running
runs : (k : ℕ) (es : List Event) → Lawful es → Active k es → Running es k
runs k es l a = let z = begun_positive k es l a.0 in (omega arith, a)

-- what was seen is readable
readable : (k x j v : ℕ) (es : List Event) → Lawful es → Active k es → Saw k x j v es → Readable es k x j v
readable k x j v es l a (inl (e, p)) =
    let z = begun_positive k es l a.0 in
    record {
      own = λ w q. e;
      initial = λ q. absurd (omega arith);
      wrote = λ n. rw e p;
      kept = λ n u. a.2 (rw e at u);
    }
readable k x j v es l a (inr (lt, n, inl (z, zv))) = record {
  own = λ w q. absurd (n (w, q));
  initial = λ q. zv;
  wrote = λ h. absurd (h z);
  kept = λ h. absurd (h z);
}
readable k x j v es l a (inr (lt, n, inr (d, p))) =
    let z = begun_positive j es l (done-begun j es l d) in
    record {
      own = λ w q. absurd (n (w, q));
      initial = λ q. absurd (omega arith);
      wrote = λ h. p;
      kept = λ h u. one_end j es l d u;
    }

-- what may follow is right
may_right : (e : Event) (es : List Event) → Lawful es → May e es → Right es e
may_right (begins k) es l m = let p = m.0 in (omega arith, λ b. absurd (omega (arith, m.1 k b)))
may_right (reads k x j v) es l m = (runs k es l m.0, (m.1, readable k x j v es l m.0 m.2))
may_right (writes k x v) es l m = (runs k es l m.0, (m.1, m.3))
may_right (commits k) es l m = runs k es l m
may_right (aborts k c) es l m = runs k es l m.0

-- ---- a whole log

-- the events es, newest first, and then a log that is right after them
all_right : (es log : List Event) → Lawful es → AllRight es log → AllRight [] (reverse_aux es log)
all_right [] log l a = a
all_right (e ∷ es) log l a = all_right es (e ∷ log) l.1 (may_right e es l.1 l.0, a)

-- what a log tells, its events read backwards tell too
pub got_straight : (k x j v : ℕ) (es : List Event) → Got k x j v (reverse es) → Got k x j v es
got_straight k x j v es g = (got_is k x j v es).1 (of_reverse es ((got_is k x j v (reverse es)).0 g))

pub lawful_regular : (es : List Event) → Lawful es → Regular (reverse es)
lawful_regular es l = record { right = all_right es [] l tt; from = from }
  where
    seen : (t x j v : ℕ) → Done t (reverse es) → Seen t x j v es → j ≢ 0 → Done j (reverse es)
    seen t x j v d (inl (e, p)) n = rw e d
    seen t x j v d (inr (lt, inl (z, zv))) n = absurd (n z)
    seen t x j v d (inr (lt, inr (c, p))) n = (retells_reverse es).done j c

    from : (t x j v : ℕ) → Done t (reverse es) → Got t x j v (reverse es) → j ≢ 0 → Done j (reverse es)
    from t x j v d g n = seen t x j v d (got_seen t x j v es l (got_straight t x j v es g)) n

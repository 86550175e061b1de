-- The code that the tests give an event is the lowest that applies to it, and 0 exactly where the event is right. Each test is read off the two
-- tables, which say what stands in the log; the tests' joins follow the page's words.
-- Assumes nothing.
use Prim.Native.Nat.{ℕ, ◌+◌}
use native.Mathlib.Omega.{arith}
use mathlib.Core.Path.{◌≡◌, refl, sym, subst, ◌∙◌}
use mathlib.Core.Logic.{◌⊎◌, inl, inr, ◌≢◌}
use mathlib.Core.List.{List}
use lib.Dec.{eqb}
use borrow.Author.Tests.{ne_eqb}
use Rattle.log_format.specs.Events.{Event, begins, reads, writes, commits, aborts}
use Rattle.log_format.specs.Told.{Put, Puts, Undone}
use Rattle.history_rules.specs.WellFormed.{most_item, Running, Readable, Right}
use Rattle.history_rules.specs.Wrong.{Idle, Misread, unwritten, undone, valued, differs, foreign, Lowest, none, is23, is24, is25}
use Rattle.history_rules.specs.Faults.{unbegun, running, committed, aborted, stage, written, differ, idle, unread, fault}
use Rattle.history_rules.proofs.Stages.{Stands, fresh, live, done, gone, Wrote, never, once, Views}
use Rattle.history_rules.proofs.Tells.{Tells, holds, fails, tell, said, says_or, says_and, says_if, says_eq, says_differ, says_lt}

-- ---- what a stage and a write say

module _ {B D U : Type 0} {k : ℕ} where
  says_begun : Stands B D U k → Tells B (¬ B) (differ k unbegun)
  says_begun (fresh e b d u) = rw e (fails b)
  says_begun (live e b d u) = rw e (holds b)
  says_begun (done e b d u) = rw e (holds b)
  says_begun (gone e b d u) = rw e (holds b)

  says_idle : Stands B D U k → Tells ((¬ B) ⊎ (D ⊎ U)) (B × (¬ D) × (¬ U)) (differ k running)
  says_idle (fresh e b d u) = rw e (holds (inl b))
  says_idle (live e b d u) = rw e (fails (b, d, u))
  says_idle (done e b d u) = rw e (holds (inr (inl d)))
  says_idle (gone e b d u) = rw e (holds (inr (inr u)))

  pub says_committed : Stands B D U k → Tells D (¬ D) (eqb k committed)
  says_committed (fresh e b d u) = rw e (fails d)
  says_committed (live e b d u) = rw e (fails d)
  says_committed (done e b d u) = rw e (holds d)
  says_committed (gone e b d u) = rw e (fails d)

  says_aborted : Stands B D U k → Tells U (¬ U) (eqb k aborted)
  says_aborted (fresh e b d u) = rw e (fails u)
  says_aborted (live e b d u) = rw e (fails u)
  says_aborted (done e b d u) = rw e (fails u)
  says_aborted (gone e b d u) = rw e (holds u)

module _ {P : ℕ → Type 0} {k : ℕ} where
  says_wrote : Wrote P k → Tells ((w : ℕ) × P w) (¬ ((w : ℕ) × P w)) (differ k 0)
  says_wrote (never e n) = rw e (fails n)
  says_wrote (once v e p a) = rw (ne_eqb k 0 (λ z. omega arith)) (holds (v, p))

  says_value : (v : ℕ) → Wrote P k → Tells ((¬ ((w : ℕ) × P w)) ⊎ ((w : ℕ) × P w × (v ≢ w))) (P v) (differ k (v + 1))
  says_value v (never e n) = rw (ne_eqb k (v + 1) (λ z. omega arith)) (holds (inl n))
  says_value v (once w e p a) = said (λ n. inr (w, p, λ z. n (omega arith))) (λ q. let z : w ≡ v = omega arith in subst P z p) (says_differ k (v + 1))

  one_value : Wrote P k → (v w : ℕ) → P v → P w → v ≡ w
  one_value (never e n) v w p q = absurd (n (v, p))
  one_value (once u e p a) v w q r = a v q ∙ sym (a w r)

-- ---- the tests

module _ (past : List Event) (g : Views past) where
  running_or_idle : (t : ℕ) → Tells (Idle past t) (Running past t) (idle (stage past) t)
  running_or_idle t = says_or (says_eq t 0) (says_idle (g.stages t))

  not_idle : (t : ℕ) → Running past t → ¬ Idle past t
  not_idle t r (inl z) = r.0 z
  not_idle t r (inr (inl n)) = n r.1.0
  not_idle t r (inr (inr (inl d))) = r.1.1 d
  not_idle t r (inr (inr (inr u))) = r.1.2 u

  module _ (t x j v : ℕ) where
    readable_or_not : Tells (Misread past t x j v) (Readable past t x j v) (unread (stage past) (written past) t x j v)
    readable_or_not =
        said wrong right
        (says_or
        (says_and (says_wrote (g.writes t x)) (says_differ j t))
        (says_if (says_eq j 0) (says_differ v 0) (says_or (says_value v (g.writes j x)) (says_aborted (g.stages j)))))
      where
        wrong : (Puts t x past × (j ≢ t)) ⊎ (((j ≡ 0) × (v ≢ 0))
            ⊎ ((j ≢ 0) × (((¬ Puts j x past) ⊎ ((w : ℕ) × Put j x w past × (v ≢ w))) ⊎ Undone j past))) → Misread past t x j v
        wrong (inl p) = foreign p.0 p.1
        wrong (inr (inl p)) = valued p.0 p.1
        wrong (inr (inr (n, inl (inl m)))) = unwritten n m
        wrong (inr (inr (n, inl (inr (w, p, d))))) = differs w n p d
        wrong (inr (inr (n, inr u))) = undone n u

        right : ((¬ Puts t x past) ⊎ (j ≡ t)) × (((j ≡ 0) × (v ≡ 0)) ⊎ ((j ≢ 0) × (Put j x v past × (¬ Undone j past)))) → Readable past t x j v
        right (o, inl (z, q)) = record {
          own = λ w p. elim o [ inl m ↦ absurd (m (w, p)) | inr e ↦ e ];
          initial = λ _. q;
          wrote = λ n. absurd (n z);
          kept = λ n. absurd (n z);
        }
        right (o, inr (n, (p, k))) = record {
          own = λ w q. elim o [ inl m ↦ absurd (m (w, q)) | inr e ↦ e ];
          initial = λ z. absurd (n z);
          wrote = λ _. p;
          kept = λ _. k;
        }

    not_misread : Readable past t x j v → ¬ Misread past t x j v
    not_misread r (unwritten n m) = m (v, r.wrote n)
    not_misread r (undone n u) = r.kept n u
    not_misread r (valued z n) = n (r.initial z)
    not_misread r (differs w n p d) = d (one_value (g.writes j x) v w (r.wrote n) p)
    not_misread r (foreign p n) = n (r.own p.0 p.1)

  -- ---- the code of an event

  -- no code applies to a right event
  pub right_none : (e : Event) → Right past e → Lowest past e 0
  right_none (begins t) r = none (λ h. elim h [ inl z ↦ r.0 z | inr b ↦ r.1 b ]) (λ h. h) (λ h. h)
  right_none (reads t x j v) r = none (not_idle t r.0) (λ h. let l = r.1.0 in omega arith) (not_misread t x j v r.1.1)
  right_none (writes t x v) r = none (not_idle t r.0) (λ h. elim h [ inl o ↦ (let l = r.1.0 in omega arith) | inr p ↦ r.1.1 p ]) (λ h. h)
  right_none (commits t) r = none (not_idle t r) (λ h. h) (λ h. h)
  right_none (aborts t c) r = none (not_idle t r) (λ h. h) (λ h. h)

  -- what is found: the lowest code, and 0 only for a right event
  abbrev Found : Event → ℕ → Type 0
  Found e c = Lowest past e c × (c ≡ 0 → Right past e)

  wrong : (e : Event) (c : ℕ) → c ≢ 0 → Lowest past e c → Found e c
  wrong e c n l = (l, λ z. absurd (n z))

  right : (e : Event) → Right past e → Found e 0
  right e r = (right_none e r, λ _. r)

  found : (e : Event) → Found e (fault past e)
  found (begins t) = tell (Found _) (says_or (says_eq t 0) (says_begun (g.stages t))) (λ w. wrong _ 23 (omega arith) (is23 w)) (λ r. right _ r)
  found (reads t x j v) =
      tell (Found _) (running_or_idle t) (λ w. wrong _ 23 (omega arith) (is23 w))
      (λ r. tell (Found _) (says_lt most_item x) (λ w. wrong _ 24 (omega arith) (is24 (not_idle t r) w))
      (λ l. tell (Found _) (readable_or_not t x j v) (λ w. wrong _ 25 (omega arith) (is25 (not_idle t r) (λ h. omega arith) w))
      (λ m. right _ (r, (l, m)))))
  found (writes t x v) =
      tell (Found _) (running_or_idle t) (λ w. wrong _ 23 (omega arith) (is23 w))
      (λ r. tell (Found _) (says_or (says_lt most_item x) (says_wrote (g.writes t x))) (λ w. wrong _ 24 (omega arith) (is24 (not_idle t r) w))
      (λ m. right _ (r, m)))
  found (commits t) = tell (Found _) (running_or_idle t) (λ w. wrong _ 23 (omega arith) (is23 w)) (λ r. right _ r)
  found (aborts t c) = tell (Found _) (running_or_idle t) (λ w. wrong _ 23 (omega arith) (is23 w)) (λ r. right _ r)

  -- the code that is found is the lowest that applies
  pub fault_lowest : (e : Event) → Lowest past e (fault past e)
  fault_lowest e = (found e).0

  -- no code is found only where the event is right
  pub fault_right : (e : Event) → fault past e ≡ 0 → Right past e
  fault_right e = (found e).1

-- an event has one lowest code
pub lowest_one : {past : List Event} {e : Event} {c d : ℕ} → Lowest past e c → Lowest past e d → c ≡ d
lowest_one (none a b c) (none a' b' c') = refl
lowest_one (none a b c) (is23 x) = absurd (a x)
lowest_one (none a b c) (is24 y x) = absurd (b x)
lowest_one (none a b c) (is25 y z x) = absurd (c x)
lowest_one (is23 w) (none a b c) = absurd (a w)
lowest_one (is23 w) (is23 x) = refl
lowest_one (is23 w) (is24 y x) = absurd (y w)
lowest_one (is23 w) (is25 y z x) = absurd (y w)
lowest_one (is24 n w) (none a b c) = absurd (b w)
lowest_one (is24 n w) (is23 x) = absurd (n x)
lowest_one (is24 n w) (is24 y x) = refl
lowest_one (is24 n w) (is25 y z x) = absurd (z w)
lowest_one (is25 n m w) (none a b c) = absurd (c w)
lowest_one (is25 n m w) (is23 x) = absurd (n x)
lowest_one (is25 n m w) (is24 y x) = absurd (m x)
lowest_one (is25 n m w) (is25 y z x) = refl

module _ (past : List Event) (g : Views past) (e : Event) where
  -- the lowest code that applies is found
  pub lowest_fault : (c : ℕ) → Lowest past e c → fault past e ≡ c
  lowest_fault c l = lowest_one (fault_lowest past g e) l

  pub right_fault : Right past e → fault past e ≡ 0
  right_fault r = lowest_fault 0 (right_none past g e r)

  -- an event to which no code applies is right
  pub none_right : Lowest past e 0 → Right past e
  none_right l = fault_right past g e (lowest_fault 0 l)

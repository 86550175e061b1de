-- Case A's log is well-formed, its order is a version order, and no order of its two transactions is serial: whichever runs second reads what
-- the first has written, and the log says 0.
-- Assumes nothing.
use Prim.Native.Nat.{ℕ}
use native.Mathlib.Omega.{arith}
use borrow.Author.Rules.{rules}
use borrow.Author.Tests.{eqb-true, eqb-false}
use mathlib.Core.Path.{◌≡◌, refl, sym, ◌∙◌, subst}
use mathlib.Core.Logic.{◌⊎◌, inl, inr, ◌≢◌}
use mathlib.Core.List.Memᴰ
use mathlib.Core.List.{List, [], ◌∷◌}
use mathlib.Core.Bool.{Bool, true, false, cond}
use lib.Dec.{eqb}
use Rattle.lists.specs.Order.{Lists}
use Rattle.lists.proofs.OrderLaws.{in_nil}
use Rattle.log_format.specs.Told.{Got, Puts, Done}
use Rattle.history_rules.specs.WellFormed.{AllRight, WellFormed}
use Rattle.serial_theory.specs.Edges.{Version, VersionOrder}
use Rattle.serial_theory.specs.Serial.{zeros, Runs, SerialOrder}
use Rattle.serial_theory.specs.Cases.{log_a, order, CaseA}

none : ¬ ⊥
none e = e

neither : {P Q : Type 0} → ¬ P → ¬ Q → ¬ (P ⊎ Q)
neither n m (inl p) = n p
neither n m (inr q) = m q

apart : ¬ (◌≡◌ {A = ℕ} 2 1)
apart e = omega arith

infixr 30 ◌then◌
◌then◌ : {P Q : Type 0} → P → Q → P × Q
p then q = (p, q)

-- event by event
right : AllRight [] log_a
right =
    (search rules, none)
    then (search rules, neither apart none)
    then (
      (search rules, (inr (inl refl), none, none)),
      (
        search rules,
        record {
          own = λ w e. absurd e;
          initial = λ z. refl;
          wrote = λ n. absurd (n refl);
          kept = λ n. absurd (n refl);
        },
      ),
    )
    then ((search rules, (inr (inl refl), none, none)), (search rules, λ p. p.1))
    then (
      (search rules, (inl refl, none, none)),
      (
        search rules,
        record {
          own = λ w e. absurd (neither (λ p. apart p.0) none e);
          initial = λ z. refl;
          wrote = λ n. absurd (n refl);
          kept = λ n. absurd (n refl);
        },
      ),
    )
    then ((search rules, (inl refl, none, none)), (search rules, λ p. neither (λ q. apart q.0) none p.1))
    then (search rules, (inr (inl refl), none, none))
    then (search rules, (inl refl, neither apart none, none))
    then tt

-- both reads are from 0
sourced : (t x j v : ℕ) → Done t log_a → Got t x j v log_a → j ≢ 0 → Done j log_a
sourced t x j v d (inl p) nz = absurd (nz p.2)
sourced t x j v d (inr (inl p)) nz = absurd (nz p.2)
sourced t x j v d (inr (inr p)) nz = absurd p

formed : WellFormed log_a
formed = record { right = right; few = search rules; from = sourced }

-- 2 wrote x alone, and 1 wrote y alone
ordered : VersionOrder log_a (order (2 ∷ []) (1 ∷ []))
ordered x = go (eqb x 0) refl (eqb x 1) refl
  where
    wrote : (i : ℕ) → Puts i x log_a → ((i ≡ 1) × (x ≡ 1)) ⊎ ((i ≡ 2) × (x ≡ 0))
    wrote i (v, inl p) = inl (p.0, p.1)
    wrote i (v, inr (inl p)) = inr (p.0, p.1)
    wrote i (v, inr (inr p)) = absurd p

    go : (b : Bool) → eqb x 0 ≡ b → (c : Bool) → eqb x 1 ≡ c → Lists (Version log_a x) (cond b (2 ∷ []) (cond c (1 ∷ []) []))
    go true e c f = record {
      once = (in_nil, tt);
      all = λ i h. elim (wrote i h.1) [ inl p ↦ absurd (let z = eqb-true x 0 e in let q = p.1 in omega arith) | inr p ↦ Memᴰ.head p.0 ];
      only = λ i m. (inr (inl (Memᴰ.eq_of_singleton m)), (6, inr (inl (Memᴰ.eq_of_singleton m, eqb-true x 0 e, refl))));
    }
    go false e true f = record {
      once = (in_nil, tt);
      all = λ i h. elim (wrote i h.1) [ inl p ↦ Memᴰ.head p.0 | inr p ↦ absurd (eqb-false x 0 e p.1) ];
      only = λ i m. (inl (Memᴰ.eq_of_singleton m), (5, inl (Memᴰ.eq_of_singleton m, eqb-true x 1 f, refl)));
    }
    go false e false f = record {
      once = tt;
      all = λ i h. elim (wrote i h.1) [ inl p ↦ absurd (eqb-false x 1 f p.1) | inr p ↦ absurd (eqb-false x 0 e p.1) ];
      only = λ i m. in_nil m;
    }

abbrev runs_a : List ℕ → Type 0
runs_a o = Runs (λ (j v : ℕ). v) log_a o (zeros (λ (j v : ℕ). v))

-- after 1, the read of y by 2 gets 5
one_two : (o : List ℕ) → ¬ runs_a (1 ∷ 2 ∷ o)
one_two o r = let z : ◌≡◌ {A = ℕ} 5 0 = r.1.0.1.1.1.1.0 refl in omega arith

-- after 2, the read of x by 1 gets 6
two_one : (o : List ℕ) → ¬ runs_a (2 ∷ 1 ∷ o)
two_one o r = let z : ◌≡◌ {A = ℕ} 6 0 = r.1.0.1.1.0 refl in omega arith

unserial : (o : List ℕ) → ¬ SerialOrder log_a o
unserial [] s = in_nil (s.lists.all 1 (inl refl))
unserial (a ∷ []) s =
    let p = Memᴰ.eq_of_singleton (s.lists.all 1 (inl refl)) in
    let q = Memᴰ.eq_of_singleton (s.lists.all 2 (inr (inl refl))) in
    apart (q ∙ sym p)
unserial (a ∷ b ∷ o) s = go (s.lists.only a (Memᴰ.head refl)) (s.lists.only b (Memᴰ.tail (Memᴰ.head refl)))
  where
    differ : ¬ (a ≡ b)
    differ q = s.lists.once.0 (Memᴰ.head q)

    at : (i j : ℕ) → a ≡ i → b ≡ j → runs_a (i ∷ j ∷ o)
    at i j p q = subst (λ (u : ℕ). runs_a (u ∷ j ∷ o)) p (subst (λ (u : ℕ). runs_a (a ∷ u ∷ o)) q s.runs)

    go : Done a log_a → Done b log_a → ⊥
    go (inl p) (inl q) = differ (p ∙ sym q)
    go (inl p) (inr (inl q)) = one_two o (at 1 2 p q)
    go (inl p) (inr (inr q)) = q
    go (inr (inl p)) (inl q) = two_one o (at 2 1 p q)
    go (inr (inl p)) (inr (inl q)) = differ (p ∙ sym q)
    go (inr (inl p)) (inr (inr q)) = q
    go (inr (inr p)) d = p

pub case_a : CaseA
case_a = record { well_formed = formed; version_order = ordered; not_serial = unserial }

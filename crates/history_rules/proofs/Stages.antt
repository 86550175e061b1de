-- What the two tables say, where every event so far is right: a transaction's stage says which of its begin, commit and abort stand in the log,
-- and what it wrote is the one write that stands there. An event of another kind, or of another transaction, changes neither.
-- Assumes nothing.
use Prim.Native.Nat.{ℕ, ◌+◌}
use mathlib.Core.Path.{◌≡◌, refl, sym, subst}
use mathlib.Core.Logic.{◌⊎◌, inl, inr}
use mathlib.Core.List.{List, [], ◌∷◌, reverse_aux}
use mathlib.Core.Bool.{Bool, true, false, cond, ◌&&◌}
use lib.Dec.{eqb}
use borrow.Author.Tests.{eqb-true, eqb-false}
use Rattle.log_format.specs.Events.{Event, begins, reads, writes, commits, aborts}
use Rattle.log_format.specs.Told.{Begun, Put, Puts, Done, Undone, Active}
use Rattle.history_rules.specs.WellFormed.{Running, Right, AllRight}
use Rattle.history_rules.specs.Faults.{unbegun, running, committed, aborted, stage, written}

-- k is the stage of a transaction that has begun, committed, was aborted, where B, D, U hold
pub data Stands (B D U : Type 0) (k : ℕ) : Type 0 where
  fresh : k ≡ unbegun → ¬ B → ¬ D → ¬ U → Stands B D U k
  live : k ≡ running → B → ¬ D → ¬ U → Stands B D U k
  done : k ≡ committed → B → D → ¬ U → Stands B D U k
  gone : k ≡ aborted → B → ¬ D → U → Stands B D U k

-- k is one more than the only value that was written, or 0
pub data Wrote (P : ℕ → Type 0) (k : ℕ) : Type 0 where
  never : k ≡ 0 → ¬ ((w : ℕ) × P w) → Wrote P k
  once : (v : ℕ) → k ≡ v + 1 → P v → ((w : ℕ) → P w → w ≡ v) → Wrote P k

pub record Views (past : List Event) : Type 0 where
  pub stages : (t : ℕ) → Stands (Begun t past) (Done t past) (Undone t past) (stage past t)
  pub writes : (t x : ℕ) → Wrote (λ w. Put t x w past) (written past t x)

pub no_views : Views []
unfolding stage written
no_views = record {
  stages = λ t. fresh refl (λ m. m) (λ m. m) (λ m. m);
  writes = λ t x. never refl (λ m. m.1);
}

-- ---- an event more

same : {A : Type 0} → A → A
same a = a

-- where H does not hold, nothing is new
miss : {H A : Type 0} → ¬ H → H ⊎ A → A
miss n (inl h) = absurd (n h)
miss n (inr a) = a

moved : {B D U B' D' U' : Type 0} {k : ℕ} → (B → B') → (B' → B) → (D → D') → (D' → D) → (U → U') → (U' → U) → Stands B D U k → Stands B' D' U' k
moved b b' d d' u u' (fresh e nb nd nu) = fresh e (λ m. nb (b' m)) (λ m. nd (d' m)) (λ m. nu (u' m))
moved b b' d d' u u' (live e yb nd nu) = live e (b yb) (λ m. nd (d' m)) (λ m. nu (u' m))
moved b b' d d' u u' (done e yb yd nu) = done e (b yb) (d yd) (λ m. nu (u' m))
moved b b' d d' u u' (gone e yb nd yu) = gone e (b yb) (λ m. nd (d' m)) (u yu)

first : {H B D U : Type 0} {k : ℕ} → H → ¬ B → Stands B D U k → Stands (H ⊎ B) D U running
first h n (fresh e nb nd nu) = live refl (inl h) nd nu
first h n (live e yb nd nu) = absurd (n yb)
first h n (done e yb yd nu) = absurd (n yb)
first h n (gone e yb nd yu) = absurd (n yb)

module _ (past : List Event) (g : Views past) (u : ℕ) where
  begin_stands : ¬ Begun u past → (t : ℕ) (b : Bool) → eqb t u ≡ b
      → Stands ((t ≡ u) ⊎ Begun t past) (Done t past) (Undone t past) (cond b running (stage past t))
  begin_stands n t true e = let q = eqb-true t u e in first q (λ m. n (subst (λ (i : ℕ). Begun i past) q m)) (g.stages t)
  begin_stands n t false e = moved inr (miss (eqb-false t u e)) same same same same (g.stages t)

  commit_stands : Running past u → (t : ℕ) (b : Bool) → eqb t u ≡ b
      → Stands (Begun t past) ((t ≡ u) ⊎ Done t past) (Undone t past) (cond b committed (stage past t))
  commit_stands r t true e =
      let q = eqb-true t u e in
      let a = subst (λ (i : ℕ). Active i past) (sym q) r.1 in
      done refl a.0 (inl q) a.2
  commit_stands r t false e = moved same same inr (miss (eqb-false t u e)) same same (g.stages t)

  abort_stands : Running past u → (t : ℕ) (b : Bool) → eqb t u ≡ b
      → Stands (Begun t past) (Done t past) ((t ≡ u) ⊎ Undone t past) (cond b aborted (stage past t))
  abort_stands r t true e =
      let q = eqb-true t u e in
      let a = subst (λ (i : ℕ). Active i past) (sym q) r.1 in
      gone refl a.0 a.1 (inl q)
  abort_stands r t false e = moved same same same same inr (miss (eqb-false t u e)) (g.stages t)

  -- another write
  other : {H P : ℕ → Type 0} {k : ℕ} → ((w : ℕ) → ¬ H w) → Wrote P k → Wrote (λ w. H w ⊎ P w) k
  other n (never e a) = never e (λ m. a (m.0, miss (n m.0) m.1))
  other n (once v e p a) = once v e (inr p) (λ w m. a w (miss (n w) m))

  write_wrote : (y v : ℕ) → ¬ Puts u y past → (t x : ℕ) (a b : Bool) → eqb t u ≡ a → eqb x y ≡ b
      → Wrote (λ w. ((t ≡ u) × (x ≡ y) × (w ≡ v)) ⊎ Put t x w past) (cond (a && b) (v + 1) (written past t x))
  write_wrote y v n t x false b e f = other (λ w m. eqb-false t u e m.0) (g.writes t x)
  write_wrote y v n t x true false e f = other (λ w m. eqb-false x y f m.1) (g.writes t x)
  write_wrote y v n t x true true e f =
      let q = eqb-true t u e in
      let r = eqb-true x y f in
      once v refl (inl (q, r, refl)) (λ w m. elim m
      [ inl h ↦ h.2 | inr p ↦ absurd (n (w, subst (λ (i : ℕ). Put i y w past) q (subst (λ (i : ℕ). Put t i w past) r p))) ])

pub views_more : (past : List Event) → Views past → (e : Event) → Right past e → Views (e ∷ past)
unfolding stage written
views_more past g (begins u) r = record { stages = λ t. begin_stands past g u r.1 t (eqb t u) refl; writes = g.writes }
views_more past g (reads u y j v) r = record { stages = g.stages; writes = g.writes }
views_more past g (writes u y v) r = record { stages = g.stages; writes = λ t x. write_wrote past g u y v r.1.1 t x (eqb t u) (eqb x y) refl refl }
views_more past g (commits u) r = record { stages = λ t. commit_stands past g u r t (eqb t u) refl; writes = g.writes }
views_more past g (aborts u c) r = record { stages = λ t. abort_stands past g u r t (eqb t u) refl; writes = g.writes }

-- after a whole log of right events
pub views_all : (es past : List Event) → Views past → AllRight past es → Views (reverse_aux es past)
views_all [] past g r = g
views_all (e ∷ es) past g r = views_all es (e ∷ past) (views_more past g e r.0) r.1

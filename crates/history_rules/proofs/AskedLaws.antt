-- What the table of a log without a bad field answers, where it is asked: who committed, and what was written.
-- Assumes nothing.
use Prim.Native.Nat.{ℕ, ◌+◌, ◌≤◌}
use native.Mathlib.Omega.{arith}
use mathlib.Core.Path.{◌≡◌, sym, ap, ◌∙◌, subst}
use mathlib.Core.Logic.{◌↔◌, ◌≢◌}
use mathlib.Core.List.{List, [], reverse}
use Rattle.log_format.specs.Events.{Event}
use Rattle.log_format.specs.Told.{Put, Puts, Done}
use Rattle.history_rules.specs.WellFormed.{most_item, AllRight}
use Rattle.history_rules.specs.Faults.{committed}
use Rattle.history_rules.specs.Held.{stage_in, written_in, Holds}
use Rattle.history_rules.proofs.Stages.{Stands, fresh, live, done, gone, Wrote, never, once, Views, no_views, views_all}
use Rattle.history_rules.proofs.OrderLaws.{retells_reverse, retells_straight}

stands_done : {B D U : Type 0} {k : ℕ} → Stands B D U k → (k ≡ committed) ↔ D
stands_done (fresh e b d u) = ((λ q. absurd (omega arith)), λ h. absurd (d h))
stands_done (live e b d u) = ((λ q. absurd (omega arith)), λ h. absurd (d h))
stands_done (done e b d u) = ((λ q. d), λ h. e)
stands_done (gone e b d u) = ((λ q. absurd (omega arith)), λ h. absurd (d h))

wrote_put : {P : ℕ → Type 0} {k : ℕ} (v : ℕ) → Wrote P k → (k ≡ v + 1) ↔ P v
wrote_put v (never e n) = ((λ q. absurd (omega arith)), λ h. absurd (n (v, h)))
wrote_put {P} v (once w e p a) = ((λ q. subst P (let z : w ≡ v = omega arith in z) p), λ h. e ∙ ap (λ (i : ℕ). i + 1) (sym (a v h)))

wrote_puts : {P : ℕ → Type 0} {k : ℕ} → Wrote P k → (k ≢ 0) ↔ ((v : ℕ) × P v)
wrote_puts (never e n) = ((λ q. absurd (q e)), λ h. absurd (n h))
wrote_puts (once w e p a) = ((λ q. (w, p)), λ h z. omega arith)

module _ (log : List Event) (right : AllRight [] log) (table : ℕ → ℕ) (h : Holds (reverse log) table) where
  views : Views (reverse log)
  views = views_all log [] no_views right

  -- a transaction has committed exactly where its stage says so
  pub asked_done : (t : ℕ) → (stage_in table t ≡ committed) ↔ Done t log
  asked_done t =
      let s = stands_done (views.stages t) in (
        (λ q. (retells_straight log).done t (s.0 (sym (h.stages t) ∙ q))),
        (λ d. h.stages t ∙ s.1 ((retells_reverse log).done t d)),
      )

  -- and has written a value exactly where one more stands at the item's key
  pub asked_put : (t x v : ℕ) → x ≤ most_item → (written_in table t x ≡ v + 1) ↔ Put t x v log
  asked_put t x v l =
      let s = wrote_put v (views.writes t x) in (
        (λ q. (retells_straight log).put t x v (s.0 (sym (h.writes t x l) ∙ q))),
        (λ p. h.writes t x l ∙ s.1 ((retells_reverse log).put t x v p)),
      )

  -- it has written the item exactly where something stands there
  pub asked_puts : (t x : ℕ) → x ≤ most_item → (written_in table t x ≢ 0) ↔ Puts t x log
  asked_puts t x l =
      let s = wrote_puts (views.writes t x) in (
        (λ q. let p = s.0 (λ z. q (h.writes t x l ∙ z)) in (p.0, (retells_straight log).put t x p.0 p.1)),
        (λ p z. s.1 (p.0, (retells_reverse log).put t x p.0 p.1) (sym (h.writes t x l) ∙ z)),
      )

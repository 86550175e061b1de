-- What a lookup over ready columns answers: the row before the place if it is of the item, else the initial version.
-- Assumes nothing.
use mathlib.Core.Path.{◌≡◌, refl, sym, ap, ◌∙◌}
use mathlib.Core.Logic.{◌≢◌}
use Prim.Native.Nat.{ℕ, suc, ◌≤◌}
use native.Mathlib.Omega.{arith}
use lib.ListN.{get_or}
use Rattle.std.specs.Prelude.{Some, None}
use Rattle.scheduler_rules.specs.Model.{Version, below}
use Rattle.version_columns.specs.Columns.{versions_of}
use Rattle.version_columns.specs.declared.Versions.{Versions}
use Rattle.version_columns.specs.Lookup.{up_to, Ready, initial_of, Answers}
use Rattle.version_columns.proofs.BelowLaws.{below-first, below_held, below_other, up_to_within}
use Rattle.version_columns.proofs.RowLaws.{Wide, version_at, length-versions}

module _ (t : Versions) (w : Wide t) (r : Ready t) (x k first at : ℕ) (place : at ≡ up_to x k (versions_of t)) where
  within : at ≤ t.count
  within = omega (arith, place, up_to_within x k (versions_of t), length-versions t w r.within)

  module _ (b : ℕ) (e : at ≡ suc b) where
    here : up_to x k (versions_of t) ≡ suc b
    here = sym place ∙ e

    row : get_or (versions_of t) b (initial_of x first) ≡ record { item = get_or t.items b 0; stamp = get_or t.stamps b 0; value = get_or t.values b 0; mark = get_or t.marks b 0 }
    row = version_at t w r.within b (initial_of x first) (omega (arith, within))

    -- a held version is met
    pub answers_held : get_or t.items b 0 ≡ x
        → Answers (versions_of t) x k first
        (record { at = at; held = Some b; stamp = record { 0 = get_or t.stamps b 0 }; value = get_or t.values b 0; mark = record { 0 = get_or t.marks b 0 } })
    answers_held i =
        let met : below x (suc k) (initial_of x first) (versions_of t) ≡ get_or (versions_of t) b (initial_of x first) =
        below_held x k (initial_of x first) (initial_of x first) (versions_of t) b r.sorted refl here (ap (λ (u : Version). u.item) row ∙ i) in
        record {
          version = met ∙ row ∙ ap (λ (y : ℕ). record { item = y; stamp = get_or t.stamps b 0; value = get_or t.values b 0; mark = get_or t.marks b 0 }) i;
          at = place;
          held = λ c q. (let same : b ≡ c = cc in (rw (← same) e, rw (← same) (sym met)));
          none = λ q. cc;
        }

  -- none is
  answers_none : below x (suc k) (initial_of x first) (versions_of t) ≡ initial_of x first
      → Answers (versions_of t) x k first (record { at = at; held = None; stamp = record { 0 = 0 }; value = 0; mark = record { 0 = first } })
  answers_none met = record { version = met; at = place; held = λ c q. cc; none = λ q. met }

  pub answers_other : (b : ℕ) → at ≡ suc b → get_or t.items b 0 ≢ x
      → Answers (versions_of t) x k first (record { at = at; held = None; stamp = record { 0 = 0 }; value = 0; mark = record { 0 = first } })
  answers_other b e i =
      answers_none (below_other x k (initial_of x first) (initial_of x first) (versions_of t) b r.sorted refl (here b e) (λ j. i (sym (ap (λ (u : Version). u.item) (row b e)) ∙ j)))

  pub answers_first : at ≡ 0 → Answers (versions_of t) x k first (record { at = at; held = None; stamp = record { 0 = 0 }; value = 0; mark = record { 0 = first } })
  answers_first h = answers_none (below-first x k (initial_of x first) (versions_of t) r.sorted (sym place ∙ h))

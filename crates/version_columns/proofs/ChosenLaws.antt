-- What a lookup's answer tells a read and a write: whether the item is written already, what stands beneath, where a version goes and which mark is raised.
-- Assumes nothing.
use mathlib.Core.Path.{◌≡◌, refl, sym, ap, ◌∙◌}
use Rattle.std.specs.Prelude.{Some, None}
use mathlib.Core.Logic.{◌≢◌}
use mathlib.Core.List.{List}
use Prim.Native.Nat.{ℕ, suc, ◌≤◌, ◌<◌}
use native.Mathlib.Omega.{arith}
use lib.ListN.{length, get_or}
use Rattle.lists.specs.Member.{◌∈◌}
use Rattle.scheduler_rules.specs.Model.{Version, max_versions, Wrote, put, raise, below}
use Rattle.version_columns.specs.declared.Chosen.{Chosen}
use Rattle.version_columns.specs.Columns.{columns_of}
use Rattle.version_columns.specs.Change.{with_version, with_mark}
use Rattle.version_columns.specs.Lookup.{up_to, initial_of, Answers}
use Rattle.scheduler_rules.specs.Sound.{Sorted}
use Rattle.version_columns.proofs.BelowLaws.{up_to_within, get_d_in, beneath-chosen, wrote_own, own_wrote}
use Rattle.version_columns.proofs.Joined.{columns_put, columns_raise}

module _ (l : List Version) (x k first : ℕ) (r : Chosen) (a : Answers l x k first r) where
  -- the place is within the versions
  pub chosen_within : r.at ≤ length l
  chosen_within = omega (arith, a.at, up_to_within x k l)

  stamp_met : (below x (suc k) (initial_of x first) l).stamp ≡ r.stamp.0
  stamp_met = ap (λ (u : Version). u.stamp) a.version

  -- k has written x exactly when the version met is k's own
  pub chosen_own : 0 < k → r.stamp.0 ≡ k → Wrote k x l
  chosen_own h e = own_wrote x k (initial_of x first) l refl h (stamp_met ∙ e)

  pub chosen_other : 0 < k → r.stamp.0 ≢ k → ¬ Wrote k x l
  chosen_other h n w = n (sym stamp_met ∙ wrote_own x k (initial_of x first) l refl h w)

  -- then it is also the one beneath a write by k
  pub chosen-beneath : 0 < k → r.stamp.0 ≢ k → below x k (initial_of x first) l ≡ record { item = x; stamp = r.stamp.0; value = r.value; mark = r.mark.0 }
  chosen-beneath h n = beneath-chosen x k (initial_of x first) l (chosen_other h n) ∙ a.version

  -- a write by k goes to the place
  pub chosen-put : (w : Version) → w.item ≡ x → w.stamp ≡ k → 0 < k → r.stamp.0 ≢ k → length l < max_versions
      → with_version r.at w (columns_of l) ≡ columns_of (put w l)
  chosen-put w i s h n m =
      let none : ¬ Wrote w.stamp w.item l = rw (i, s) (chosen_other h n) in
      let at : r.at ≡ up_to w.item w.stamp l = rw (i, s) a.at in
      rw at (columns_put w l none m)

  -- the version met, if it is held, stands just before the place
  module _ (b : ℕ) (t : r.held ≡ Some b) where
    pub chosen_at : b < length l
    chosen_at = omega (arith, (a.held b t).0, chosen_within)

    pub chosen_row : get_or l b (initial_of x first) ≡ record { item = x; stamp = r.stamp.0; value = r.value; mark = r.mark.0 }
    chosen_row = (a.held b t).1 ∙ a.version

    pub chosen-raise : (m : ℕ) → Sorted l → with_mark b m (columns_of l) ≡ columns_of (raise x r.stamp.0 m l)
    chosen-raise m s = columns_raise x r.stamp.0 m (initial_of x first) l b s chosen_at (ap (λ (u : Version). u.item) chosen_row, ap (λ (u : Version). u.stamp) chosen_row)

    -- and is not the initial one
    pub chosen_positive : ((u : Version) → u ∈ l → 1 ≤ u.stamp) → 1 ≤ r.stamp.0
    chosen_positive p = omega (arith, ap (λ (u : Version). u.stamp) chosen_row, p (get_or l b (initial_of x first)) (get_d_in l b (initial_of x first) chosen_at))

  -- else it is the initial one
  pub chosen-initial : r.held ≡ None → r.stamp.0 ≡ 0
  chosen-initial f = sym stamp_met ∙ ap (λ (u : Version). u.stamp) (a.none f)

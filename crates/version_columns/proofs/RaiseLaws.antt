-- Raising a mark: among sorted versions at most one is the version read, so one place changes.
-- Assumes nothing.
use mathlib.Core.Path.{◌≡◌, refl, ap}
use mathlib.Core.Logic.{inl, inr}
use mathlib.Core.List.Memᴰ
use mathlib.Core.List.{List, [], ◌∷◌, map}
use Prim.Native.Nat.{ℕ, zero, suc, ◌≤◌, ◌<◌, max}
use native.Mathlib.Omega.{arith}
use lib.ListN.{length, get_or}
use Rattle.lists.specs.Member.{◌∈◌}
use Rattle.lists.proofs.ChoiceLaws.{pick_yes, pick_no}
use Rattle.scheduler_rules.specs.Model.{Version, Same, same?, raise1, raise, Before}
use Rattle.version_columns.specs.Change.{raised_at}
use Rattle.scheduler_rules.specs.Sound.{Sorted}
use Rattle.version_columns.proofs.BelowLaws.{get_d_in}

-- a field that raising leaves
pub raise_keeps : (f : Version → ℕ) (x j k : ℕ) → ((u : Version) → f (raise1 x j k u) ≡ f u) → (l : List Version) → map f (raise x j k l) ≡ map f l
raise_keeps f x j k same [] = refl
raise_keeps f x j k same (u ∷ l) = rw (same u, raise_keeps f x j k same l)

-- the version read is not held: nothing changes
pub raise_none : (x j k : ℕ) (l : List Version) → ((u : Version) → u ∈ l → ¬ Same x j u) → raise x j k l ≡ l
raise_none x j k [] n = refl
raise_none x j k (u ∷ l) n = rw (pick_no (same? x j u) (max u.mark k) u.mark (n u (Memᴰ.head refl)), raise_none x j k l (λ w t. n w (Memᴰ.tail t)))

-- the initial version is not held
pub raise-initial : (x k : ℕ) (l : List Version) → ((u : Version) → u ∈ l → 1 ≤ u.stamp) → raise x 0 k l ≡ l
raise-initial x k l p = raise_none x 0 k l (λ u t s. omega (arith, p u t, s.1))

once : (x j : ℕ) (u w : Version) → Before u w → Same x j u → Same x j w → ⊥
once x j u w (inl b) p q = omega arith
once x j u w (inr b) p q = omega arith

-- it stands at a place: the mark there changes
pub raise_mark : (x j k : ℕ) (d : Version) (l : List Version) (at : ℕ) → Sorted l → at < length l → Same x j (get_or l at d)
    → map (λ (u : Version). u.mark) (raise x j k l) ≡ raised_at at k (map (λ (u : Version). u.mark) l)
raise_mark x j k d [] at s h e = absurd (omega arith)
raise_mark x j k d (u ∷ l) zero s h e =
    rw (pick_yes (same? x j u) (max u.mark k) u.mark e, raise_none x j k l (λ w t q. once x j u w (s.0 w t) e q))
raise_mark x j k d (u ∷ l) (suc at) s h e =
    rw (pick_no (same? x j u) (max u.mark k) u.mark (λ q. once x j u (get_or l at d) (s.0 (get_or l at d) (get_d_in l at d (omega arith))) q e))
    (ap (λ (r : List ℕ). u.mark ∷ r) (raise_mark x j k d l at s.1 (omega arith) e))

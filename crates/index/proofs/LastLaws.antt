-- The last place below n that passes a test: it passes, none after it does, and it is found by going through the places that pass a weaker test.
-- Assumes nothing.
use mathlib.Core.Path.{◌≡◌, refl, sym, ◌∙◌}
use mathlib.Core.Bool.{Bool, true, false, false≢true, cond}
use Prim.Native.Nat.{ℕ, zero, suc, ◌-◌, ◌≤◌, ◌<◌}
use native.Mathlib.Omega.{arith}
use Rattle.index.specs.Index.{last}

pub last_le : (p : ℕ → Bool) (n : ℕ) → last p n ≤ n
unfolding last
last_le p zero = omega arith
last_le p (suc n) = go (p n) (last_le p n)
  where
    go : (b : Bool) → last p n ≤ n → cond b (suc n) (last p n) ≤ suc n
    go true h = omega arith
    go false h = omega arith

-- it passes
pub last_hit : (p : ℕ → Bool) (n : ℕ) → 0 < last p n → p (last p n - 1) ≡ true
unfolding last
last_hit p zero h = absurd (omega arith)
last_hit p (suc n) h = go (p n) refl h (last_hit p n)
  where
    go : (b : Bool) → p n ≡ b → 0 < cond b (suc n) (last p n) → (0 < last p n → p (last p n - 1) ≡ true) → p (cond b (suc n) (last p n) - 1) ≡ true
    go true e h ih = let z : suc n - 1 ≡ n = omega arith in rw z e
    go false e h ih = ih h

-- one place more
pub last_at : (p : ℕ → Bool) (n : ℕ) → p n ≡ true → last p (suc n) ≡ suc n
unfolding last
last_at p n e = rw e

pub last_not : (p : ℕ → Bool) (n : ℕ) → p n ≡ false → last p (suc n) ≡ last p n
unfolding last
last_not p n e = rw e

-- where each place that passes q passes p, the last that passes q is not after the last that passes p
pub last_through : (p q : ℕ → Bool) → ((i : ℕ) → q i ≡ true → p i ≡ true) → (n : ℕ) → last q n ≡ last q (last p n)
unfolding last
last_through p q s zero = refl
last_through p q s (suc n) = go (p n) (q n) refl refl (last_through p q s n)
  where
    go : (a b : Bool) → p n ≡ a → q n ≡ b → last q n ≡ last q (last p n) → cond b (suc n) (last q n) ≡ last q (cond a (suc n) (last p n))
    go true b e f ih = rw f
    go false true e f ih = absurd (false≢true (sym e ∙ s n f))
    go false false e f ih = ih

-- tests that agree below n have the same last place
pub last_same : (p q : ℕ → Bool) (n : ℕ) → ((i : ℕ) → i < n → p i ≡ q i) → last p n ≡ last q n
unfolding last
last_same p q zero h = refl
last_same p q (suc n) h = rw (h n (omega arith), last_same p q n (λ i l. h i (omega arith)))

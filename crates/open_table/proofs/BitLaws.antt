-- What or-ed numbers and tests of stamps say: a number that was or-ed together is 0 exactly where each of its parts is, and a comparison of stamps
-- is that of their numbers.
-- Assumes nothing.
use Prim.Native.Nat.{ℕ, zero, suc, ◌≤◌, ◌<◌}
use mathlib.Core.Path.{◌≡◌, refl, sym, ap, ◌∙◌}
use mathlib.Core.Bool.{Bool, true, false, true≢false, not, cond, ◌&&◌}
use mathlib.Core.Logic.{◌≢◌}
use native.Mathlib.Omega.{arith}
use borrow.Author.Tests.{le-leb, lt-leb, ltb-true, ltb-false, eq-eqb, ne_eqb, eqb-true, eqb-false}
use lib.Bits.{bit_or, or_add_and, and_le_r}
use lib.Dec.{eqb, leb, ltb, eqb-suc-zero}
use Rattle.std.specs.Ordering.{is_le, is_lt, nat_cmp}
use Rattle.std.specs.declared.cmp.Ordering.TheVariants.{Less, Equal, Greater}

or_least : (a b : ℕ) → a ≤ bit_or a b
or_least a b = omega (arith, or_add_and a b, and_le_r a b)

pub or_none_lem : (a b : ℕ) → eqb (bit_or a b) 0 ≡ (eqb a 0 && eqb b 0)
or_none_lem zero b = refl
or_none_lem (suc a) b =
    let h : suc a ≤ bit_or (suc a) b = or_least (suc a) b in
    rw (ne_eqb (bit_or (suc a) b) 0 (λ e. let n : ⊥ = omega arith in n), eqb-suc-zero a)

-- ---- comparisons by the order of numbers

pub is_le-cmp : (a b : ℕ) → is_le (nat_cmp a b) ≡ leb a b
is_le-cmp a b = go (ltb a b) (eqb a b) refl refl
  where
    go : (x y : Bool) → ltb a b ≡ x → eqb a b ≡ y → is_le (cond x Less (cond y Equal Greater)) ≡ leb a b
    go true y e f = let h : a < b = ltb-true a b e in sym (le-leb a b (omega arith))
    go false true e f = let h : a ≡ b = eqb-true a b f in sym (le-leb a b (omega arith))
    go false false e f = let h : b ≤ a = ltb-false a b e in let n : a ≢ b = eqb-false a b f in sym (lt-leb a b (omega arith))

pub is_lt-cmp : (a b : ℕ) → is_lt (nat_cmp a b) ≡ ltb a b
is_lt-cmp a b = go (ltb a b) (eqb a b) refl
  where
    go : (x y : Bool) → ltb a b ≡ x → is_lt (cond x Less (cond y Equal Greater)) ≡ ltb a b
    go true y e = sym e
    go false true e = sym e
    go false false e = sym e

-- ---- numbers that a test tells apart

pub not_eqb_true : (a b : ℕ) → not (eqb a b) ≡ true → a ≢ b
not_eqb_true a b h e = let t : eqb a b ≡ true = eq-eqb a b e in true≢false (sym h ∙ ap not t)

pub not_eqb_false : (a b : ℕ) → not (eqb a b) ≡ false → a ≡ b
not_eqb_false a b h = go (eqb a b) refl h
  where
    go : (x : Bool) → eqb a b ≡ x → not x ≡ false → a ≡ b
    go true e q = eqb-true a b e
    go false e q = absurd (true≢false q)

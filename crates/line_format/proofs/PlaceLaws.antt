-- The readers at a place of a line, as code goes: one law for each test made there.
-- Assumes nothing.
use Prim.Native.Nat.{ℕ, suc, ◌+◌, ◌-◌, ◌*◌, ◌≤◌, ◌<◌}
use native.Mathlib.Numerals.{add-one}
use native.Mathlib.Omega.{arith}
use mathlib.Core.Path.{◌≡◌, refl, sym, ◌∙◌}
use mathlib.Core.Bool.{Bool, true, false, cond, ◌&&◌}
use mathlib.Core.List.{List, [], ◌∷◌}
use lib.ListN.{length, drop, get_or, drop_of_length-le}
use lib.Seq.{drop-cons}
use lib.Dec.{leb, eqb}
use borrow.Author.Tests.{eqb-true, eqb-false, eq-eqb, ne_eqb}
use Rattle.std.specs.Char.{is_ascii_digit}
use Rattle.std.specs.Bool.{then_some}
use Rattle.std.specs.List.{starts_with}
use Rattle.std.specs.Prelude.{Some, None, SomeIff}
use Rattle.line_format.specs.Decimals.{most, is_digit, more_digits, decimal_at}
use Rattle.line_format.specs.Lines.{starts}
use Rattle.line_format.proofs.ReadingLaws.{more_next, more_over, more_stop, more_end, first_zero, first_more, first_none, first_end}

-- ---- a word

-- the library's test whether a line begins with a word is ours
starts_is : (s w : List ℕ) → starts_with eqb s w ≡ starts w s
unfolding starts
starts_is s [] = refl
starts_is [] (a ∷ w) = refl
starts_is (b ∷ s) (a ∷ w) = go (eqb a b) refl (starts_is s w)
  where
    go : (x : Bool) → eqb a b ≡ x → starts_with eqb s w ≡ starts w s → (x && starts_with eqb s w) ≡ cond (eqb b a) (starts w s) false
    go true e h = rw (eq-eqb b a (sym (eqb-true _ _ e))) h
    go false e h = rw (ne_eqb b a (λ q. eqb-false _ _ e (sym q))) refl

-- the place after a word that the line begins with
pub word_after : {r : Bool} (s w : List ℕ) (n : ℕ) → r ≡ starts_with eqb s w → SomeIff (then_some r n) (starts w s ≡ true) n
word_after {r = true} s w n e = (sym (starts_is s w) ∙ sym e, refl)
word_after {r = false} s w n e = λ t. let z : ◌≡◌ {A = Bool} false true = e ∙ starts_is s w ∙ t in let y : ◌≡◌ {A = ℕ} 0 1 = cc in absurd (omega arith)

-- a line that does not begin with a word
pub no_word : (s w : List ℕ) → ¬ (starts w s ≡ true) → starts w s ≡ false
no_word s w h = go (starts w s) refl
  where
    go : (b : Bool) → starts w s ≡ b → starts w s ≡ false
    go true e = absurd (h e)
    go false e = e

-- ---- a decimal

-- what the library's test of a digit answered, ours answers
pub digit_found : {r x : Bool} (b : ℕ) → r ≡ is_ascii_digit b → r ≡ x → is_digit b ≡ x
digit_found b e f = sym (go (leb 48 b) (leb b 57)) ∙ sym e ∙ f
  where
    go : (x y : Bool) → (x && y) ≡ cond x y false
    go true y = refl
    go false y = refl

module _ (s : List ℕ) (v at : ℕ) (h : at < length s) where
  pub digits_next : is_digit (get_or s at 0) ≡ true → v * 10 + (get_or s at 0 - 48) ≤ most
      → more_digits v at (drop at s) ≡ more_digits (v * 10 + (get_or s at 0 - 48)) (at + 1) (drop (at + 1) s)
  digits_next d l = rw (drop-cons s at 0 h, add-one at) (more_next v at (get_or s at 0) (drop (suc at) s) d l)

  pub digits-over : is_digit (get_or s at 0) ≡ true → most < v * 10 + (get_or s at 0 - 48) → more_digits v at (drop at s) ≡ None
  digits-over d l = rw (drop-cons s at 0 h) (more_over v at (get_or s at 0) (drop (suc at) s) d l)

  pub digits_stop : is_digit (get_or s at 0) ≡ false → more_digits v at (drop at s) ≡ Some (v, at)
  digits_stop d = rw (drop-cons s at 0 h) (more_stop v at (get_or s at 0) (drop (suc at) s) d)

pub digits_end : (s : List ℕ) (v at : ℕ) → length s ≤ at → more_digits v at (drop at s) ≡ Some (v, at)
digits_end s v at h = rw (drop_of_length-le s h) (more_end v at)

module _ (s : List ℕ) (at : ℕ) (h : at < length s) where
  pub decimal_zero : get_or s at 0 ≡ 48 → decimal_at s at ≡ Some (0, at + 1)
  decimal_zero e = rw (drop-cons s at 0 h, add-one at) (first_zero at (get_or s at 0) (drop (suc at) s) e)

  pub decimal_more : is_digit (get_or s at 0) ≡ true → ¬ (get_or s at 0 ≡ 48) → decimal_at s at ≡ more_digits (get_or s at 0 - 48) (at + 1) (drop (at + 1) s)
  decimal_more d n = rw (drop-cons s at 0 h, add-one at) (first_more at (get_or s at 0) (drop (suc at) s) d n)

  pub decimal_none : is_digit (get_or s at 0) ≡ false → decimal_at s at ≡ None
  decimal_none d = rw (drop-cons s at 0 h) (first_none at (get_or s at 0) (drop (suc at) s) d)

pub decimal_end : (s : List ℕ) (at : ℕ) → length s ≤ at → decimal_at s at ≡ None
decimal_end s at h = rw (drop_of_length-le s h) (first_end at)

-- what reading a decimal tests, case by case
pub ruleset decimal_cases = (decimal_zero, decimal_more, decimal_none, decimal_end)

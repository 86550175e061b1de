-- Reading a decimal: one law for each way a turn can go, and that reading takes back exactly what was written, both ways.
-- Assumes nothing.
use Prim.Native.Nat.{ℕ, zero, suc, ◌+◌, ◌-◌, ◌*◌, ◌≤◌, ◌<◌}
use native.Mathlib.Omega.{arith}
use mathlib.Core.Path.{◌≡◌, refl, sym, ap, ◌∙◌}
use mathlib.Core.Bool.{Bool, true, false, cond}
use mathlib.Core.List.{List, [], ◌∷◌, ◌++◌, append_assoc}
use lib.ListN.{length, drop, length-append}
use lib.Dec.{leb, eqb}
use borrow.Author.Tests.{leb-true, leb-false, eqb-true, eqb-false, le-leb, lt-leb, ne_eqb}
use Rattle.std.specs.Prelude.{Option, Some, None}
use Rattle.line_format.specs.Decimals.{most, glyph, digits, is_digit, more_digits, first_digit}
use Rattle.line_format.proofs.DecimalLaws.{by_tens, digits_one, digits_snoc}

-- ---- reading a digit

pub digit_known : (b : ℕ) → is_digit b ≡ true → (48 ≤ b) × (b ≤ 57)
digit_known b e = go (leb 48 b) refl (leb b 57) refl e
  where
    go : (x : Bool) → leb 48 b ≡ x → (y : Bool) → leb b 57 ≡ y → cond x y false ≡ true → (48 ≤ b) × (b ≤ 57)
    go true p true q e = (leb-true _ _ p, leb-true _ _ q)
    go true p false q e = let z : ◌≡◌ {A = ℕ} 0 1 = cc in absurd (omega arith)
    go false p y q e = let z : ◌≡◌ {A = ℕ} 0 1 = cc in absurd (omega arith)

pub is_digit_lem : (d : ℕ) → d < 10 → is_digit (glyph d) ≡ true
is_digit_lem d h = simp (le-leb 48 (48 + d) (omega arith), le-leb (48 + d) 57 (omega arith))

module _ (v at b : ℕ) (s : List ℕ) where
  -- a digit more
  pub more_next : is_digit b ≡ true → v * 10 + (b - 48) ≤ most → more_digits v at (b ∷ s) ≡ more_digits (v * 10 + (b - 48)) (suc at) s
  unfolding more_digits
  more_next d h = simp (d, le-leb _ _ h)

  -- a digit more than a line may have
  pub more_over : is_digit b ≡ true → most < v * 10 + (b - 48) → more_digits v at (b ∷ s) ≡ None
  unfolding more_digits
  more_over d h = simp (d, lt-leb _ _ h)

  -- no digit
  pub more_stop : is_digit b ≡ false → more_digits v at (b ∷ s) ≡ Some (v, at)
  unfolding more_digits
  more_stop d = simp d

pub more_end : (v at : ℕ) → more_digits v at [] ≡ Some (v, at)
unfolding more_digits
more_end v at = refl

module _ (at b : ℕ) (s : List ℕ) where
  pub first_zero : b ≡ 48 → first_digit at (b ∷ s) ≡ Some (0, suc at)
  unfolding first_digit
  first_zero e = rw e

  pub first_more : is_digit b ≡ true → ¬ (b ≡ 48) → first_digit at (b ∷ s) ≡ more_digits (b - 48) (suc at) s
  unfolding first_digit
  first_more d n = simp (d, ne_eqb _ _ n)

  pub first_none : is_digit b ≡ false → first_digit at (b ∷ s) ≡ None
  unfolding first_digit
  first_none d = simp d

pub first_end : (at : ℕ) → first_digit at [] ≡ None
unfolding first_digit
first_end at = refl

-- ---- what was written is read

-- what is left begins with no digit
abbrev pub Stops : List ℕ → Type 0
Stops [] = Unit {0}
Stops (b ∷ s) = is_digit b ≡ false

stops : (v at : ℕ) (s : List ℕ) → Stops s → more_digits v at s ≡ Some (v, at)
stops v at [] h = more_end v at
stops v at (b ∷ s) h = more_stop v at b s h

-- the digits of a number lead to the number
reads : (n : ℕ) → 0 < n → n ≤ most → (at : ℕ) (s : List ℕ) → first_digit at (digits n ++ s) ≡ more_digits n (at + length (digits n)) s
reads = by_tens (λ n. 0 < n → n ≤ most → (at : ℕ) (s : List ℕ) → first_digit at (digits n ++ s) ≡ more_digits n (at + length (digits n)) s)
    (λ d h p l at s.
    let q : glyph d - 48 ≡ d = omega arith in
    let z : at + 1 ≡ suc at = omega arith in
    rw (digits_one d h, z) (first_more at (glyph d) s (is_digit_lem d h) (λ e. omega arith) ∙ rw q))
    (λ n d p h r p' l at s.
    let q : n * 10 + (glyph d - 48) ≡ n * 10 + d = omega arith in
    let z : at + (length (digits n) + 1) ≡ suc (at + length (digits n)) = omega arith in
    rw (digits_snoc n d p h, append_assoc, length-append, z)
    (r p (omega arith) at (glyph d ∷ s) ∙ more_next n (at + length (digits n)) (glyph d) s (is_digit_lem d h) (omega arith) ∙ rw q))

-- a decimal is read as its number, up to the place after it
pub read_back : (n at : ℕ) (s : List ℕ) → n ≤ most → Stops s → first_digit at (digits n ++ s) ≡ Some (n, at + length (digits n))
read_back zero at s l h =
    let z : at + 1 ≡ suc at = omega arith in
    rw (digits_one 0 (omega arith), z) (first_zero at 48 s refl)
read_back (suc n) at s l h = reads (suc n) (omega arith) l at s ∙ stops (suc n) (at + length (digits (suc n))) s h

-- ---- what was read was written

-- two numbers that were read are one, with one place after them
same_read : {v at n p : ℕ} → ◌≡◌ {A = Option (ℕ × ℕ)} (Some (v, at)) (Some (n, p)) → (v ≡ n) × (at ≡ p)
same_read {v} {at} {n} {p} e =
    let q : ◌≡◌ {A = ℕ × ℕ} (v, at) (n, p) = cc in
    (ap (λ (x : ℕ × ℕ). x.0) q, ap (λ (x : ℕ × ℕ). x.1) q)

none_read : {P : Type 0} {n p : ℕ} → ◌≡◌ {A = Option (ℕ × ℕ)} None (Some (n, p)) → P
none_read e = let z : ◌≡◌ {A = ℕ} 0 1 = cc in absurd (omega arith)

-- of the bytes s at a place, past are the rest of the decimal of n that began with front
pub record Read (front s : List ℕ) (at n p : ℕ) : Type 0 where
  pub past : ℕ
  pub place : p ≡ at + past
  pub whole : front ++ s ≡ digits n ++ drop past s
  pub low : n ≤ most

more_read : (s : List ℕ) (v at n p : ℕ) → 0 < v → v ≤ most → more_digits v at s ≡ Some (n, p) → Read (digits v) s at n p
more_read [] v at n p h l e =
    let q = same_read (sym (more_end v at) ∙ e) in
    record { past = 0; place = omega (arith, q.1); whole = rw q.0; low = omega (arith, q.0) }
more_read (b ∷ s) v at n p h l e = go (is_digit b) refl (leb (v * 10 + (b - 48)) most) refl (λ w. more_read s w (suc at) n p)
  where
    go : (x : Bool) → is_digit b ≡ x → (y : Bool) → leb (v * 10 + (b - 48)) most ≡ y
        → ((w : ℕ) → 0 < w → w ≤ most → more_digits w (suc at) s ≡ Some (n, p) → Read (digits w) s (suc at) n p) → Read (digits v) (b ∷ s) at n p
    go true d true y f =
        let k = digit_known b d in
        let r = f (v * 10 + (b - 48)) (omega arith) (leb-true _ _ y) (sym (more_next v at b s d (leb-true _ _ y)) ∙ e) in
        let g : glyph (b - 48) ≡ b = omega arith in
        let w : digits (v * 10 + (b - 48)) ≡ digits v ++ b ∷ [] = digits_snoc v (b - 48) h (omega arith) ∙ rw g in
        record { past = suc r.past; place = r.place ∙ omega arith; whole = sym (append_assoc (digits v) (b ∷ []) s) ∙ rw (← w) r.whole; low = r.low }
    go true d false y f =
        none_read (sym (more_over v at b s d (leb-false _ _ y)) ∙ e)
    go false d y y' f =
        let q = same_read (sym (more_stop v at b s d) ∙ e) in
        record { past = 0; place = omega (arith, q.1); whole = rw q.0; low = omega (arith, q.0) }

-- a number that is read stands there in decimal
pub first_read : (s : List ℕ) (at n p : ℕ) → first_digit at s ≡ Some (n, p) → Read [] s at n p
first_read [] at n p e = none_read (sym (first_end at) ∙ e)
first_read (b ∷ s) at n p e = go (is_digit b) refl (eqb b 48) refl
  where
    go : (x : Bool) → is_digit b ≡ x → (y : Bool) → eqb b 48 ≡ y → Read [] (b ∷ s) at n p
    go true d true y =
        let f : b ≡ 48 = eqb-true _ _ y in
        let q = same_read (sym (first_zero at b s f) ∙ e) in
        record { past = 1; place = omega (arith, q.1); whole = rw (← q.0, digits_one 0 (omega arith), f); low = omega (arith, q.0) }
    go true d false y =
        let k = digit_known b d in
        let u : ¬ (b ≡ 48) = eqb-false _ _ y in
        let pos : 0 < b - 48 = omega arith in
        let r = more_read s (b - 48) (suc at) n p pos (omega arith) (sym (first_more at b s d u) ∙ e) in
        let g : glyph (b - 48) ≡ b = omega arith in
        let w : digits (b - 48) ≡ b ∷ [] = digits_one (b - 48) (omega arith) ∙ rw g in
        record { past = suc r.past; place = r.place ∙ omega arith; whole = rw w at r.whole; low = r.low }
    go false d y y' =
        none_read (sym (first_none at b s d) ∙ e)

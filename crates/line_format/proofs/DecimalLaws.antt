-- How `digits` unfolds, by tens, that it is the plain relation, and how long it is.
-- Assumes nothing.
use Prim.Native.Nat.{ℕ, zero, suc, ◌+◌, ◌*◌, ◌/◌, ◌%◌, ◌^◌, ◌≤◌, ◌<◌}
use native.Mathlib.Nat.{div-add-mod', pow-suc}
use native.Mathlib.Omega.{arith}
use mathlib.Core.Path.{◌≡◌, refl, sym, ap, ◌∙◌, subst}
use mathlib.Core.Bool.{Bool, true, false}
use mathlib.Core.List.{List, [], ◌∷◌, ◌++◌}
use lib.ListN.{length, length-append}
use lib.Dec.{ltb}
use borrow.Author.Tests.{ltb-true, ltb-false, lt-ltb, le-ltb}
use Rattle.std.specs.Fmt.{decimal}
use Rattle.std.proofs.lemmas.Fmt.{decimal_digit, decimal_step}
use Rattle.line_format.specs.Decimals.{most, glyph, digits_in, digits, Decimal, one, more}

-- ---- how a number is written

small_in : (k n : ℕ) → n < 10 → digits_in (suc k) n ≡ glyph n ∷ []
unfolding digits_in
small_in k n h = simp (lt-ltb _ _ h)

large_in : (k n : ℕ) → 10 ≤ n → digits_in (suc k) n ≡ digits_in k (n / 10) ++ glyph (n % 10) ∷ []
unfolding digits_in
large_in k n h = simp (le-ltb _ _ h)

-- any room that is enough gives the same digits
enough : (k j n : ℕ) → n < k → n < j → digits_in k n ≡ digits_in j n
enough zero j n h g = absurd (omega arith)
enough (suc k) zero n h g = absurd (omega arith)
enough (suc k) (suc j) n h g = go (ltb n 10) refl (enough k j (n / 10))
  where
    go : (b : Bool) → ltb n 10 ≡ b → (n / 10 < k → n / 10 < j → digits_in k (n / 10) ≡ digits_in j (n / 10)) → digits_in (suc k) n ≡ digits_in (suc j) n
    go true e f = small_in k n (ltb-true _ _ e) ∙ sym (small_in j n (ltb-true _ _ e))
    go false e f =
        let l : 10 ≤ n = ltb-false _ _ e in
        large_in k n l ∙ ap (λ (s : List ℕ). s ++ glyph (n % 10) ∷ []) (f (omega arith) (omega arith)) ∙ sym (large_in j n l)

-- a number below 10 is its digit
pub digits_one : (n : ℕ) → n < 10 → digits n ≡ glyph n ∷ []
unfolding digits
digits_one n h = small_in n n h

-- any other is the tenth of it, then the last digit
pub digits_more : (n : ℕ) → 10 ≤ n → digits n ≡ digits (n / 10) ++ glyph (n % 10) ∷ []
unfolding digits
digits_more n h = large_in n n h ∙ ap (λ (s : List ℕ). s ++ glyph (n % 10) ∷ []) (enough n (suc (n / 10)) (n / 10) (omega arith) (omega arith))

-- one digit more
pub digits_snoc : (n d : ℕ) → 0 < n → d < 10 → digits (n * 10 + d) ≡ digits n ++ glyph d ∷ []
digits_snoc n d h l =
    let q : (n * 10 + d) / 10 ≡ n = omega arith in
    let r : (n * 10 + d) % 10 ≡ d = omega arith in
    digits_more (n * 10 + d) (omega arith) ∙ rw (q, r)

-- what holds of one digit, and with a number of it and one digit more, holds of every number
pub by_tens : (P : ℕ → Type 0) → ((d : ℕ) → d < 10 → P d) → ((n d : ℕ) → 0 < n → d < 10 → P n → P (n * 10 + d)) → (n : ℕ) → P n
by_tens P f g n = below (suc n) n (omega arith)
  where
    step : (k n : ℕ) (b : Bool) → ltb n 10 ≡ b → n < suc k → ((m : ℕ) → m < k → P m) → P n
    step k n true e h i = f n (ltb-true _ _ e)
    step k n false e h i =
        let l : 10 ≤ n = ltb-false _ _ e in
        subst P (div-add-mod' n 10) (g (n / 10) (n % 10) (omega arith) (omega arith) (i (n / 10) (omega arith)))

    below : (k n : ℕ) → n < k → P n
    below zero n h = absurd (omega arith)
    below (suc k) n h = step k n (ltb n 10) refl h (below k)

pub digits_decimal : (n : ℕ) → Decimal n (digits n)
digits_decimal = by_tens (λ n. Decimal n (digits n))
    (λ d h. rw (digits_one d h) (one d h))
    (λ n d p h r. rw (digits_snoc n d p h) (more n d (digits n) p h r))

pub decimal_digits : {n : ℕ} {s : List ℕ} → Decimal n s → s ≡ digits n
decimal_digits (one d h) = sym (digits_one d h)
decimal_digits (more n d s p h r) = rw (decimal_digits r) (sym (digits_snoc n d p h))

-- a number below 10 ^ k has at most k digits
pub digits-length : (k n : ℕ) → n < 10 ^ suc k → length (digits n) ≤ suc k
digits-length zero n h = rw (digits_one n (omega arith)) (omega arith)
digits-length (suc k) n h = go (ltb n 10) refl (digits-length k (n / 10))
  where
    go : (b : Bool) → ltb n 10 ≡ b → (n / 10 < 10 ^ suc k → length (digits (n / 10)) ≤ suc k) → length (digits n) ≤ suc (suc k)
    go true e f = rw (digits_one n (ltb-true _ _ e)) (omega arith)
    go false e f =
        let p : 10 ^ suc (suc k) ≡ 10 ^ suc k * 10 = pow-suc 10 (suc k) in
        let r : length (digits (n / 10)) ≤ suc k = f (omega arith) in
        rw (digits_more n (ltb-false _ _ e), length-append) (omega arith)

-- a number that a line may have has at most ten digits
pub ten_digits : (n : ℕ) → n ≤ most → length (digits n) ≤ 10
ten_digits n h = digits-length 9 n (omega arith)

-- a number in 64 bits has at most twenty
pub twenty_digits : (n : ℕ) → n < 2 ^ 64 → length (digits n) ≤ 20
twenty_digits n h = digits-length 19 n (omega arith)

-- the library prints a number in 64 bits as its digits
pub decimal_is : (n : ℕ) → n < 2 ^ 64 → decimal n ≡ digits n
decimal_is = by_tens (λ n. n < 2 ^ 64 → decimal n ≡ digits n)
    (λ d h _. decimal_digit d h ∙ sym (digits_one d h))
    (λ n d p h r l.
    let q : (n * 10 + d) / 10 ≡ n = omega arith in
    let m : (n * 10 + d) % 10 ≡ d = omega arith in
    decimal_step (n * 10 + d) (omega arith) l ∙ rw (q, m, r (omega arith)) (sym (digits_snoc n d p h)))

-- Texts and decimal numbers as bytes: how a number is written, and what reading one at a place of a line answers.
-- Assumes nothing.
use Rattle.std.specs.Prelude.{ℕ, zero, suc, ◌+◌, ◌-◌, ◌*◌, ◌/◌, ◌%◌, ◌<◌, Bool, false, cond, List, [], ◌∷◌, ◌++◌, drop, ltb, leb, eqb, Option, Some, None}
use Prim.Native.Char.{code}
use Prim.Native.String.{String, [] as no_text, ◌∷◌ as ◌before◌}

-- a text's bytes
abbrev pub bytes : String → List ℕ
bytes no_text = []
bytes (c before s) = code c ∷ bytes s

-- the largest number that a line may have
abbrev pub most : ℕ
most = 4294967295

-- ---- writing

-- the byte of a digit
abbrev pub glyph : ℕ → ℕ
glyph d = 48 + d

-- the digits of a number that has at most k of them, high digit first
unfoldable pub digits_in : ℕ → ℕ → List ℕ
digits_in zero n = []
digits_in (suc k) n =
    let more : List ℕ = digits_in k (n / 10) ++ glyph (n % 10) ∷ [] in
    cond (ltb n 10) (glyph n ∷ []) more

-- a number in decimal
unfoldable pub digits : ℕ → List ℕ
digits n = digits_in (suc n) n

-- the same as a relation: one digit, or a decimal that is not 0 and one digit more
pub data Decimal : ℕ → List ℕ → Type 0 where
  one : (d : ℕ) → d < 10 → Decimal d (glyph d ∷ [])
  more : (n d : ℕ) (s : List ℕ) → 0 < n → d < 10 → Decimal n s → Decimal (n * 10 + d) (s ++ glyph d ∷ [])

-- ---- reading

-- a byte is a digit
abbrev pub is_digit : ℕ → Bool
is_digit b = cond (leb 48 b) (leb b 57) false

-- v is the number so far, s the line from a place on: the number with the digits that follow, and the place after them; none over 4294967295
unfoldable pub more_digits : ℕ → ℕ → List ℕ → Option (ℕ × ℕ)
more_digits v at [] = Some (v, at)
more_digits v at (b ∷ s) =
    let next : Option (ℕ × ℕ) = more_digits (v * 10 + (b - 48)) (suc at) s in
    cond (is_digit b) (cond (leb (v * 10 + (b - 48)) most) next None) (Some (v, at))

-- the decimal at the front of what stands from a place on; no digit goes on after a first 0
unfoldable pub first_digit : ℕ → List ℕ → Option (ℕ × ℕ)
first_digit at [] = None
first_digit at (b ∷ s) = cond (is_digit b) (cond (eqb b 48) (Some (0, suc at)) (more_digits (b - 48) (suc at) s)) None

-- the decimal at a place of a line
abbrev pub decimal_at : List ℕ → ℕ → Option (ℕ × ℕ)
decimal_at s at = first_digit at (drop at s)

-- A line that says an operation is read as it: each part that the line has (keyword, decimal, space, end) stands from its place on, and is read there.
-- Assumes nothing.
use Prim.Native.Nat.{ℕ, ◌+◌, ◌≤◌}
use native.Mathlib.Omega.{arith}
use mathlib.Core.Path.{◌≡◌, refl, sym, ap, ◌∙◌}
use mathlib.Core.List.{List, [], ◌∷◌, ◌++◌, append_assoc, append-nil}
use lib.ListN.{length, drop, get_or, length-append}
use lib.Seq.{drop-drop, drop-append_seam, get_or-drop}
use borrow.Author.Tests.{le-leb, eq-eqb}
use Rattle.std.specs.Prelude.{Some}
use Rattle.scheduler_rules.specs.Run.{begin, read, write, commit, abort}
use Rattle.scheduler_rules.specs.declared.Op.{Op}
use Rattle.line_format.specs.Decimals.{most, digits, decimal_at}
use Rattle.line_format.specs.Lines.{longest}
use Rattle.line_format.specs.Lines.{Says, says_begin, says_read, says_write, says_commit, says_abort}
use Rattle.line_format.specs.Lines.{starts, spaced_at, ended, one_number, two_numbers, three_numbers, by_keyword, parse_line}
use Rattle.line_format.proofs.DecimalLaws.{ten_digits}
use Rattle.line_format.proofs.ReadingLaws.{Stops, read_back}

-- u is what stands from a place of s on
record From (s : List ℕ) (at : ℕ) (u : List ℕ) : Type 0 where
  rest : drop at s ≡ u
  size : at + length u ≡ length s

module _ {s : List ℕ} {at : ℕ} where
  -- past what stands there
  past : (d u : List ℕ) → From s at (d ++ u) → From s (at + length d) u
  past d u f = record {
    rest = sym (drop-drop (length d) at s) ∙ ap (drop (length d)) f.rest ∙ drop-append_seam d u;
    size = omega (arith, length-append d u, f.size);
  }

  number_there : (n : ℕ) (u : List ℕ) → From s at (digits n ++ u) → n ≤ most → Stops u → decimal_at s at ≡ Some (n, at + length (digits n))
  number_there n u f l h = rw f.rest (read_back n at u l h)

  space_there : (u : List ℕ) → From s at (32 ∷ u) → spaced_at s at ≡ decimal_at s (at + 1)
  space_there u f =
      let e : get_or s at 0 ≡ 32 = ap (λ (i : ℕ). get_or s i 0) (omega arith) ∙ sym (get_or-drop at s 0 0) ∙ ap (λ (l : List ℕ). get_or l 0 0) f.rest in
      rw e

  end_there : (op : Op) → From s at [] → ended s at op ≡ Some op
  end_there op f = simp (eq-eqb at (length s) (omega (arith, f.size)))

module _ {s : List ℕ} {at : ℕ} where
  one_there : (f : ℕ → Op) (k : ℕ) → k ≤ most → From s at (digits k) → one_number f s at ≡ Some (f k)
  unfolding one_number
  one_there f k h g =
      let g₁ : From s at (digits k ++ []) = rw append-nil g in
      rw (number_there k [] g₁ h tt) (end_there (f k) (past (digits k) [] g₁))

  two_there : (f : ℕ → ℕ → Op) (k x : ℕ) → k ≤ most → x ≤ most → From s at (digits k ++ (32 ∷ digits x)) → two_numbers f s at ≡ Some (f k x)
  unfolding two_numbers
  two_there f k x h i g =
      let g₁ : From s (at + length (digits k)) (32 ∷ digits x) = past (digits k) (32 ∷ digits x) g in
      let g₂ : From s (at + length (digits k) + 1) (digits x ++ []) = rw append-nil (past (32 ∷ []) (digits x) g₁) in
      rw (number_there k (32 ∷ digits x) g h refl, space_there (digits x) g₁, number_there x [] g₂ i tt)
      (end_there (f k x) (past (digits x) [] g₂))

  three_there : (f : ℕ → ℕ → ℕ → Op) (k x v : ℕ) → k ≤ most → x ≤ most → v ≤ most
      → From s at (digits k ++ (32 ∷ digits x ++ (32 ∷ digits v))) → three_numbers f s at ≡ Some (f k x v)
  unfolding three_numbers
  three_there f k x v h i j g =
      let g₁ : From s (at + length (digits k)) (32 ∷ digits x ++ (32 ∷ digits v)) = past (digits k) (32 ∷ digits x ++ (32 ∷ digits v)) g in
      let g₂ : From s (at + length (digits k) + 1) (digits x ++ (32 ∷ digits v)) = past (32 ∷ []) (digits x ++ (32 ∷ digits v)) g₁ in
      let g₃ : From s (at + length (digits k) + 1 + length (digits x)) (32 ∷ digits v) = past (digits x) (32 ∷ digits v) g₂ in
      let g₄ : From s (at + length (digits k) + 1 + length (digits x) + 1) (digits v ++ []) = rw append-nil (past (32 ∷ []) (digits v) g₃) in
      rw (number_there k (32 ∷ digits x ++ (32 ∷ digits v)) g h refl, space_there (digits x ++ (32 ∷ digits v)) g₁, number_there x (32 ∷ digits v) g₂ i refl, space_there (digits v) g₃, number_there v [] g₄ j tt)
      (end_there (f k x v) (past (digits v) [] g₄))

-- a line that says an operation is short enough
pub says_short : {s : List ℕ} {op : Op} → Says s op → length s ≤ longest
says_short (says_begin k h) = omega (arith, ten_digits k h)
says_short (says_read k x h i) = simp length-append (omega (arith, ten_digits k h, ten_digits x i))
says_short (says_write k x v h i j) = simp length-append (omega (arith, ten_digits k h, ten_digits x i, ten_digits v j))
says_short (says_commit k h) = omega (arith, ten_digits k h)
says_short (says_abort k h) = omega (arith, ten_digits k h)

-- the keyword of a line of each kind is found
keyword : {s : List ℕ} {op : Op} → Says s op → by_keyword s ≡ Some op
unfolding starts
keyword (says_begin k h) = one_there begin k h (record { rest = refl; size = omega arith })
keyword (says_read k x h i) = two_there read k x h i (record { rest = append_assoc (digits k) (32 ∷ []) (digits x); size = simp length-append (omega arith) })
keyword (says_write k x v h i j) = three_there write k x v h i j (record { rest = simp append_assoc; size = simp length-append (omega arith) })
keyword (says_commit k h) = one_there commit k h (record { rest = refl; size = omega arith })
keyword (says_abort k h) = one_there abort k h (record { rest = refl; size = omega arith })

-- a line that says an operation is read as that operation
pub says_parse : {s : List ℕ} {op : Op} → Says s op → parse_line s ≡ Some op
unfolding parse_line
says_parse {s} r = simp (le-leb (length s) longest (says_short r)) (keyword r)

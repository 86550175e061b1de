-- Numbers written one after the other, each after a space: one turn of the loop adds the next stamp of the answer. A stamp takes at most 11 bytes.
-- Assumes nothing.
use Prim.Native.Nat.{ℕ, zero, suc, ◌+◌, ◌*◌, ◌^◌, ◌≤◌, ◌<◌}
use native.Mathlib.Omega.{arith}
use native.Mathlib.Nat.{add-zero}
use native.Mathlib.Numerals.{add-one}
use mathlib.Core.Path.{◌≡◌, refl, sym, ap, ◌∙◌, subst}
use mathlib.Core.List.Memᴰ
use mathlib.Core.List.{List, [], ◌∷◌, ◌++◌, append_assoc, append-nil}
use lib.ListN.{length, take, drop, length-append, take-append-drop}
use Rattle.lists.specs.Member.{◌∈◌}
use Rattle.log_format.specs.Bytes.{Bytes, num4, splice}
use Rattle.line_format.specs.Decimals.{bytes, digits}
use Rattle.line_format.proofs.DecimalLaws.{ten_digits}
use Rattle.order_rules.specs.Reading.{stamps_at}
use Rattle.order_rules.proofs.ReadingLaws.{length-stamps_at, stamps_fit}
use Rattle.reply_lines.specs.Written.{Put}
use Rattle.reply_lines.proofs.PutLaws.{put_then}
use Rattle.verdict_format.specs.Lines.{spaced, each_spaced}

-- ---- lists of numbers

each_append : (xs ys : List ℕ) → each_spaced (xs ++ ys) ≡ each_spaced xs ++ each_spaced ys
each_append [] ys = refl
each_append (x ∷ xs) ys = ap (λ (l : List ℕ). spaced x ++ l) (each_append xs ys) ∙ sym (append_assoc (spaced x) (each_spaced xs) (each_spaced ys))

stamps_more : (s : List ℕ) (at n : ℕ) → stamps_at s at (suc n) ≡ stamps_at s at n ++ num4 s (at + 4 * n) ∷ []
stamps_more s at zero = let z : at + 4 * 0 ≡ at = omega arith in rw z
stamps_more s at (suc n) =
    let z : at + 4 + 4 * n ≡ at + 4 * suc n = omega arith in
    ap (λ (l : List ℕ). num4 s at ∷ l) (stamps_more s (at + 4) n ∙ ap (λ (p : ℕ). stamps_at s (at + 4) n ++ num4 s p ∷ []) z)

-- one stamp more is one number more
each_more : (s : List ℕ) (n : ℕ) → each_spaced (stamps_at s 0 (suc n)) ≡ each_spaced (stamps_at s 0 n) ++ spaced (num4 s (4 * n))
each_more s n =
    let z : 0 + 4 * n ≡ 4 * n = omega arith in
    ap each_spaced (stamps_more s 0 n) ∙ each_append (stamps_at s 0 n) (num4 s (0 + 4 * n) ∷ [])
    ∙ ap (λ (l : List ℕ). each_spaced (stamps_at s 0 n) ++ l) (append-nil (spaced (num4 s (0 + 4 * n))) ∙ ap (λ (p : ℕ). spaced (num4 s p)) z)

-- ---- how long they are

pub spaced-length : (n : ℕ) → length (spaced n) ≡ 1 + length (digits n)
spaced-length n = length-append (bytes " ") (digits n)

pub spaced_short : (n : ℕ) → n < 2 ^ 32 → length (spaced n) ≤ 11
spaced_short n h = let d = ten_digits n (omega arith) in let l = spaced-length n in omega arith

pub each_short : (ks : List ℕ) → ((k : ℕ) → k ∈ ks → k < 2 ^ 32) → length (each_spaced ks) ≤ 11 * length ks
each_short [] f = omega arith
each_short (k ∷ ks) f =
    let h = spaced_short k (f k (Memᴰ.head refl)) in
    let r = each_short ks (λ j m. f j (Memᴰ.tail m)) in
    let l = length-append (spaced k) (each_spaced ks) in
    omega arith

-- stamps of 4 bytes each
pub stamps_short : (a : List ℕ) → Bytes a → (n : ℕ) → length (each_spaced (stamps_at a 0 n)) ≤ 11 * n
stamps_short a b n = let h = each_short (stamps_at a 0 n) (stamps_fit a b 0 n) in let l = length-stamps_at a 0 n in omega arith

-- ---- the loop

-- the first i of n stamps of a were written into b from a place on: next is the place after them, b' the buffer then
pub record Listing (a b : List ℕ) (at n i next : ℕ) (b' : List ℕ) : Type 0 where
  pub done : Put b at (each_spaced (stamps_at a 0 i)) next b'
  pub within : i ≤ n
  pub room : next ≤ at + 11 * i
  pub long : length b' ≡ length b

module _ (a b : List ℕ) (at n : ℕ) where
  pub listing_none : at ≤ length b → Listing a b at n 0 at b
  unfolding splice
  listing_none h = record {
    done = record { next = sym (add-zero at); bytes = sym (ap (λ (l : List ℕ). l ++ drop (at + 0) b) (append-nil (take at b)) ∙ ap (λ (p : ℕ). take at b ++ drop p b) (add-zero at) ∙ take-append-drop at b) };
    within = omega arith;
    room = omega arith;
    long = refl;
  }

  pub listing_next : (i next : ℕ) (b₁ b₂ : List ℕ) (r x : ℕ) → Listing a b at n i next b₁ → i < n → at + 11 * n ≤ length b → x ≡ num4 a (4 * i) → x < 2 ^ 32
      → Put b₁ next (spaced x) r b₂ → length b₂ ≡ length b₁ → Listing a b at n (i + 1) r b₂
  listing_next i next b₁ b₂ r x l h m e f p q =
      let s = spaced_short x f in
      let w = l.room in
      let v = l.long in
      let k = p.next in
      let t : Put b at (each_spaced (stamps_at a 0 i) ++ spaced x) r b₂ = put_then l.done p (omega arith) in
      let g : each_spaced (stamps_at a 0 i) ++ spaced x ≡ each_spaced (stamps_at a 0 (i + 1)) =
      ap (λ (y : ℕ). each_spaced (stamps_at a 0 i) ++ spaced y) e ∙ sym (each_more a i) ∙ ap (λ (j : ℕ). each_spaced (stamps_at a 0 j)) (sym (add-one i)) in
      record { done = subst (λ (z : List ℕ). Put b at z r b₂) g t; within = omega arith; room = omega arith; long = q ∙ v }

-- A line that is read as an operation says it: each part that was read (keyword, decimal, space, end) is a front of what stands from its place on, and
-- the parts in a row are the line.
-- Assumes nothing.
use Prim.Native.Nat.{ℕ, suc, ◌+◌, ◌≤◌}
use native.Mathlib.Omega.{arith}
use mathlib.Core.Path.{◌≡◌, refl, sym, ap, ◌∙◌}
use mathlib.Core.Bool.{Bool, true, false, cond}
use mathlib.Core.List.{List, [], ◌∷◌, ◌++◌, append_assoc, append-nil}
use lib.ListN.{length, drop, get_or, get_or-eq_default}
use lib.Seq.{drop-cons, drop-drop, drop-length}
use lib.Dec.{leb, eqb, ltb}
use borrow.Author.Tests.{eqb-true, ltb-true, ltb-false}
use Rattle.std.specs.Prelude.{Option, Some, None}
use Rattle.scheduler_rules.specs.Run.{begin, read, write, commit, abort}
use Rattle.scheduler_rules.specs.declared.Op.{Op}
use Rattle.line_format.specs.Decimals.{bytes, most, digits, decimal_at}
use Rattle.line_format.specs.Lines.{longest, read_line, write_line}
use Rattle.line_format.specs.Lines.{Says, says_begin, says_read, says_write, says_commit, says_abort}
use Rattle.line_format.specs.Lines.{starts, spaced_at, with_number, ended, one_number, two_numbers, three_numbers, by_keyword, parse_line}
use Rattle.line_format.proofs.ReadingLaws.{first_read}

starts_front : (w s : List ℕ) → starts w s ≡ true → s ≡ w ++ drop (length w) s
unfolding starts
starts_front [] s e = refl
starts_front (a ∷ w) [] e = let z : ◌≡◌ {A = ℕ} 0 1 = cc in absurd (omega arith)
starts_front (a ∷ w) (b ∷ s) e = go (eqb b a) refl e (starts_front w s)
  where
    go : (x : Bool) → eqb b a ≡ x → cond x (starts w s) false ≡ true → (starts w s ≡ true → s ≡ w ++ drop (length w) s) → b ∷ s ≡ a ∷ w ++ drop (length w) s
    go true p e f = let q : b ≡ a = eqb-true _ _ p in let r : s ≡ w ++ drop (length w) s = f e in cc
    go false p e f = let z : ◌≡◌ {A = ℕ} 0 1 = cc in absurd (omega arith)

-- n stands in decimal at a place, and what stands after it at the next
record Said (s : List ℕ) (at : ℕ) (front : List ℕ) (n p : ℕ) : Type 0 where
  is : drop at s ≡ front ++ digits n ++ drop p s
  low : n ≤ most

number-said : (s : List ℕ) (at n p : ℕ) → decimal_at s at ≡ Some (n, p) → Said s at [] n p
number-said s at n p e =
    let r = first_read (drop at s) at n p e in
    let q : drop r.past (drop at s) ≡ drop p s = drop-drop r.past at s ∙ ap (λ (i : ℕ). drop i s) (sym r.place) in
    record { is = r.whole ∙ rw q; low = r.low }

space_said : (s : List ℕ) (at n p : ℕ) → spaced_at s at ≡ Some (n, p) → Said s at (32 ∷ []) n p
space_said s at n p e = go (eqb (get_or s at 0) 32) refl e (ltb at (length s)) refl
  where
    go : (x : Bool) → eqb (get_or s at 0) 32 ≡ x → cond x (decimal_at s (at + 1)) None ≡ Some (n, p) → (y : Bool) → ltb at (length s) ≡ y → Said s at (32 ∷ []) n p
    go true q e true y =
        let r = number-said s (at + 1) n p e in
        let z : at + 1 ≡ suc at = omega arith in
        let b : get_or s at 0 ≡ 32 = eqb-true _ _ q in
        record { is = drop-cons s at 0 (ltb-true _ _ y) ∙ rw (b, ← z) (ap (λ (l : List ℕ). 32 ∷ l) r.is); low = r.low }
    go true q e false y =
        let b : get_or s at 0 ≡ 0 = get_or-eq_default s 0 (ltb-false _ _ y) in
        let c : get_or s at 0 ≡ 32 = eqb-true _ _ q in
        absurd (omega arith)
    go false q e y y' = let z : ◌≡◌ {A = ℕ} 0 1 = cc in absurd (omega arith)

-- a line that is not bad has the number
number_had : (d : Option (ℕ × ℕ)) (f : ℕ → ℕ → Option Op) (op : Op) → with_number d f ≡ Some op → (n : ℕ) × (p : ℕ) × (d ≡ Some (n, p)) × (f n p ≡ Some op)
number_had (Some (n, p)) f op e = (n, p, refl, e)
number_had None f op e = let z : ◌≡◌ {A = ℕ} 0 1 = cc in absurd (omega arith)

end_said : (s : List ℕ) (at : ℕ) (o op : Op) → ended s at o ≡ Some op → (drop at s ≡ []) × (op ≡ o)
end_said s at o op e = go (eqb at (length s)) refl e
  where
    go : (x : Bool) → eqb at (length s) ≡ x → cond x (Some o) None ≡ Some op → (drop at s ≡ []) × (op ≡ o)
    go true q e = (rw (eqb-true at (length s) q) (drop-length s), cc)
    go false q e = let z : ◌≡◌ {A = ℕ} 0 1 = cc in absurd (omega arith)

module _ (s : List ℕ) (at : ℕ) (op : Op) where
  one_said : (f : ℕ → Op) → one_number f s at ≡ Some op → (k : ℕ) × (k ≤ most) × (drop at s ≡ digits k) × (op ≡ f k)
  unfolding one_number
  one_said f e =
      let a = number_had _ _ op e in
      let r = number-said s at a.0 a.1 a.2 in
      let z = end_said s a.1 _ op a.3 in
      (a.0, r.low, r.is ∙ rw (z.0, append-nil), z.1)

  two_said : (f : ℕ → ℕ → Op) → two_numbers f s at ≡ Some op
      → (k : ℕ) × (x : ℕ) × (k ≤ most) × (x ≤ most) × (drop at s ≡ digits k ++ (32 ∷ digits x)) × (op ≡ f k x)
  unfolding two_numbers
  two_said f e =
      let a = number_had _ _ op e in
      let b = number_had _ _ op a.3 in
      let r = number-said s at a.0 a.1 a.2 in
      let t = space_said s a.1 b.0 b.1 b.2 in
      let z = end_said s b.1 _ op b.3 in
      (a.0, b.0, r.low, t.low, r.is ∙ rw (t.is, z.0, append-nil (digits b.0)), z.1)

  three_said : (f : ℕ → ℕ → ℕ → Op) → three_numbers f s at ≡ Some op
      → (k : ℕ) × (x : ℕ) × (v : ℕ) × (k ≤ most) × (x ≤ most) × (v ≤ most) × (drop at s ≡ digits k ++ (32 ∷ digits x ++ (32 ∷ digits v))) × (op ≡ f k x v)
  unfolding three_numbers
  three_said f e =
      let a = number_had _ _ op e in
      let b = number_had _ _ op a.3 in
      let c = number_had _ _ op b.3 in
      let r = number-said s at a.0 a.1 a.2 in
      let t = space_said s a.1 b.0 b.1 b.2 in
      let u = space_said s b.1 c.0 c.1 c.2 in
      let z = end_said s c.1 _ op c.3 in
      (a.0, b.0, c.0, r.low, t.low, u.low, r.is ∙ rw (t.is, u.is, z.0, append-nil (digits c.0)), z.1)

-- the parts of a line, from the right and from the left
apart : (a b c : List ℕ) → a ++ (32 ∷ b ++ (32 ∷ c)) ≡ a ++ bytes " " ++ b ++ bytes " " ++ c
apart a b c = simp append_assoc

says_same : {s t : List ℕ} {op o : Op} → s ≡ t → op ≡ o → Says t o → Says s op
says_same e f r = rw (e, f) r

module _ (s : List ℕ) (op : Op) where
  stamp-said : (f : ℕ → Op) (w : List ℕ) → starts w s ≡ true → one_number f s (length w) ≡ Some op → (k : ℕ) × (k ≤ most) × (s ≡ w ++ digits k) × (op ≡ f k)
  stamp-said f w h e =
      let a = one_said s (length w) op f e in
      (a.0, a.1, starts_front w s h ∙ ap (λ (l : List ℕ). w ++ l) a.2, a.3)

  keyword_said : (x₁ x₂ x₃ x₄ x₅ : Bool) → starts (bytes "begin ") s ≡ x₁ → starts (bytes "read ") s ≡ x₂ → starts (bytes "write ") s ≡ x₃
      → starts (bytes "commit ") s ≡ x₄ → starts (bytes "abort ") s ≡ x₅
      → cond x₁ (one_number begin s 6) (cond x₂ (two_numbers read s 5) (cond x₃ (three_numbers write s 6) (cond x₄ (one_number commit s 7) (cond x₅ (one_number abort s 6) None)))) ≡ Some op
      → Says s op
  keyword_said true x₂ x₃ x₄ x₅ p₁ p₂ p₃ p₄ p₅ e =
      let a = stamp-said begin (bytes "begin ") p₁ e in
      says_same a.2 a.3 (says_begin a.0 a.1)
  keyword_said false true x₃ x₄ x₅ p₁ p₂ p₃ p₄ p₅ e =
      let a = two_said s 5 op read e in
      let q : s ≡ read_line a.0 a.1 = starts_front (bytes "read ") s p₂ ∙ ap (λ (l : List ℕ). bytes "read " ++ l) (a.4 ∙ sym (append_assoc (digits a.0) (bytes " ") (digits a.1))) in
      says_same q a.5 (says_read a.0 a.1 a.2 a.3)
  keyword_said false false true x₄ x₅ p₁ p₂ p₃ p₄ p₅ e =
      let a = three_said s 6 op write e in
      let q : s ≡ write_line a.0 a.1 a.2 = starts_front (bytes "write ") s p₃ ∙ ap (λ (l : List ℕ). bytes "write " ++ l) (a.6 ∙ apart (digits a.0) (digits a.1) (digits a.2)) in
      says_same q a.7 (says_write a.0 a.1 a.2 a.3 a.4 a.5)
  keyword_said false false false true x₅ p₁ p₂ p₃ p₄ p₅ e =
      let a = stamp-said commit (bytes "commit ") p₄ e in
      says_same a.2 a.3 (says_commit a.0 a.1)
  keyword_said false false false false true p₁ p₂ p₃ p₄ p₅ e =
      let a = stamp-said abort (bytes "abort ") p₅ e in
      says_same a.2 a.3 (says_abort a.0 a.1)
  keyword_said false false false false false p₁ p₂ p₃ p₄ p₅ e = let z : ◌≡◌ {A = ℕ} 0 1 = cc in absurd (omega arith)

  -- a line that is read as an operation says it
  pub parse_says : parse_line s ≡ Some op → Says s op
  unfolding parse_line
  parse_says e = go (leb (length s) longest) e
    where
      go : (b : Bool) → cond b (by_keyword s) None ≡ Some op → Says s op
      go true e = keyword_said (starts (bytes "begin ") s) (starts (bytes "read ") s) (starts (bytes "write ") s) (starts (bytes "commit ") s) (starts (bytes "abort ") s) refl refl refl refl refl e
      go false e = let z : ◌≡◌ {A = ℕ} 0 1 = cc in absurd (omega arith)

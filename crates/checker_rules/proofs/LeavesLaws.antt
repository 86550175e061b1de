-- What a check leaves: one outcome for one input; a refusal leaves the answer as it was; no byte past the last stamp changes. A splice changes only what
-- it covers, and the stamps have room.
-- Assumes nothing.
use Prim.Native.Nat.{ℕ, ◌+◌, ◌*◌, ◌≤◌}
use native.Mathlib.Omega.{arith}
use mathlib.Core.Path.{◌≡◌, refl, sym, ap, ◌∙◌, subst}
use mathlib.Core.Logic.{inr}
use mathlib.Core.List.{List, [], ◌∷◌}
use lib.ListN.{length, get_or}
use Rattle.log_format.specs.Bytes.{Bytes, splice, stamp_bytes}
use Rattle.log_format.proofs.StampBytesLaws.{length-stamp_bytes}
use Rattle.log_format.proofs.AppendLaws.{length-splice, splice_other}
use Rattle.graph_theory.specs.Verdict.{accepted, cycle}
use Rattle.checker_rules.specs.Answers.{Answer, no, judged, answer_for, stamps_for, checked_of, CheckIs, PanelIs}
use Rattle.checker_rules.specs.Orders.{OrderIs}
use Rattle.std.specs.Prelude.{Result, Ok, Err}
use Rattle.graph_theory.specs.declared.Verdict.{Verdict as Counted}
use Rattle.graph_theory.specs.declared.Verdict.TheVariants.{Accepted, Cycle}
use Rattle.checker_rules.specs.declared.Refusal.{Refusal}
use Rattle.checker_rules.proofs.CheckLaws.{splice_none}
use Rattle.checker_rules.proofs.EachLaws.{stamps_room}

-- ---- one outcome for one input

pub check_one : {log order b : List ℕ} {r q : Result Counted Refusal} {b' c' : List ℕ} → CheckIs log order b r b' → CheckIs log order b q c' → (r ≡ q) × (b' ≡ c')
check_one k l = (k.answer ∙ sym l.answer, k.bytes ∙ sym l.bytes)

pub panel_one : {log order b : List ℕ} {r q : ℕ} {b' c' : List ℕ} → PanelIs log order b r b' → PanelIs log order b q c' → (r ≡ q) × (b' ≡ c')
panel_one k l = (k.answer ∙ sym l.answer, k.bytes ∙ sym l.bytes)

pub order_one : {log b : List ℕ} {r q : Result ℕ Refusal} {b' c' : List ℕ} → OrderIs log b r b' → OrderIs log b q c' → (r ≡ q) × (b' ≡ c')
order_one k l = (k.answer ∙ sym l.answer, k.bytes ∙ sym l.bytes)

-- ---- what is left alone

-- the number beside 0 or 30 is how many stamps are written
abbrev Stamped : Result Counted Refusal → ℕ → Type 0
Stamped (Ok (Accepted n)) m = n ≡ m
Stamped (Ok (Cycle n)) m = n ≡ m
Stamped (Err e) m = 0 ≡ m

stamped : (a : Answer) → Stamped (checked_of a) (length (stamps_for a))
stamped (no c n) = refl
stamped (judged (accepted o)) = refl
stamped (judged (cycle c)) = refl

nothing : (l : List ℕ) → 0 ≡ length l → l ≡ []
nothing [] e = refl
nothing (x ∷ l) e = absurd (omega arith)

module _ {log order b : List ℕ} {r : Result Counted Refusal} {b' : List ℕ} (k : CheckIs log order b r b') where
  abbrev written : List ℕ
  written = stamps_for (answer_for log order (length b))

  number : Stamped r (length written)
  number = subst (λ (q : Result Counted Refusal). Stamped q (length written)) (sym k.answer) (stamped (answer_for log order (length b)))

  -- codes 21 to 29 write nothing
  pub refusal_leaves : (x : Refusal) → r ≡ Err x → b' ≡ b
  refusal_leaves x e =
      k.bytes ∙ ap (λ (l : List ℕ). splice b 0 (stamp_bytes l)) (nothing written (subst (λ (q : Result Counted Refusal). Stamped q (length written)) e number)) ∙ splice_none b

  module _ (bl : Bytes log) (bo : Bytes order) where
    fits : 0 + length (stamp_bytes written) ≤ length b
    fits = let h = stamps_room log order bl bo (length b) in let l = length-stamp_bytes written in omega arith

    past : (i : ℕ) → 4 * length written ≤ i → get_or b' i 0 ≡ get_or b i 0
    past i g =
        ap (λ (l : List ℕ). get_or l i 0) k.bytes ∙ splice_other b 0 (stamp_bytes written) fits i (inr (let l = length-stamp_bytes written in omega arith))

    -- no byte past the last stamp changes
    pub accepted_leaves : (n i : ℕ) → r ≡ Ok (Accepted n) → 4 * n ≤ i → get_or b' i 0 ≡ get_or b i 0
    accepted_leaves n i e g = let m = subst (λ (q : Result Counted Refusal). Stamped q (length written)) e number in past i (omega arith)

    pub cycle_leaves : (n i : ℕ) → r ≡ Ok (Cycle n) → 4 * n ≤ i → get_or b' i 0 ≡ get_or b i 0
    cycle_leaves n i e g = let m = subst (λ (q : Result Counted Refusal). Stamped q (length written)) e number in past i (omega arith)

    -- the answer keeps its length
    pub length-kept : length b' ≡ length b
    length-kept = ap length k.bytes ∙ length-splice b 0 (stamp_bytes written) fits

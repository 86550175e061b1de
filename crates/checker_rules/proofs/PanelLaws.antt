-- The C call's one number: each answer's code is at most 30 and its number below 65,536, so the two can be told apart again. A place is inside the
-- log, and no answer has more stamps than transactions committed, of which there are at most 256.
-- Assumes nothing.
use Prim.Native.Nat.{ℕ, ◌+◌, ◌*◌, ◌/◌, ◌%◌, ◌≤◌, ◌<◌}
use native.Mathlib.Omega.{arith}
use mathlib.Core.Path.{◌≡◌, sym, ap, ◌∙◌, subst}
use mathlib.Core.List.{List}
use Rattle.log_format.specs.Bytes.{Bytes}
use Rattle.history_rules.specs.WellFormed.{count_commits}
use Rattle.history_rules.specs.History.{History, passed, refused, history_of}
use Rattle.history_rules.proofs.RefusalLaws.{refused_codes}
use Rattle.history_rules.proofs.PlaceLaws.{refused_place}
use Rattle.serial_theory.specs.Judged.{verdict}
use Rattle.order_rules.specs.Fields.{vs_of}
use Rattle.order_rules.specs.Reading.{fields_of}
use Rattle.order_rules.specs.Right.{right_order}
use mathlib.Core.Path.{refl}
use mathlib.Core.Bool.{Bool, true, false, cond}
use lib.Dec.{ltb}
use lib.ListN.{length}
use Rattle.std.specs.Prelude.{Result, Ok, Err}
use Rattle.graph_theory.specs.Verdict.{Verdict, accepted, cycle}
use Rattle.graph_theory.specs.declared.Verdict.{Verdict as Counted}
use Rattle.graph_theory.specs.declared.Verdict.TheVariants.{Accepted, Cycle}
use Rattle.checker_rules.specs.declared.Refusal.{Refusal}
use Rattle.checker_rules.specs.Refusals.{refusal_code, refusal_number}
use Rattle.checker_rules.proofs.RefusalLaws.{history_keeps}
use Rattle.checker_rules.proofs.EachLaws.{answer_each}
use Rattle.checker_rules.specs.Answers.{Answer, no, judged, answer_by, answer_for, code_for, number_for}
use Rattle.checker_rules.specs.Answers.{checked_of, checked_code, checked_number, returned, Small, CheckIs, PanelIs}

-- each answer is small
pub small : (log order : List ℕ) → Bytes log → Bytes order → (room : ℕ) → Small (checked_of (answer_for log order room))
small log order bl bo room = answer_each log order bl bo room (λ (a : Answer). Small (checked_of a))
    (λ c p e. let k = history_keeps log c p e in
    let q = refused_codes log c p e in
    let n = refused_place log bl c p e in
    record { code = omega arith; number = omega arith })
    (record { code = omega arith; number = omega arith })
    (record { code = omega arith; number = omega arith })
    (λ es vs w m o j. let f = w.few in let n = j.number in record { code = omega arith; number = omega arith })
    (λ es vs w m c j. let f = w.few in let n = j.number in record { code = omega arith; number = omega arith })

-- what is answered has the page's code and number
pub record Told (a : Answer) : Type 0 where
  pub code : checked_code (checked_of a) ≡ code_for a
  pub number : checked_number (checked_of a) ≡ number_for a

pub told : (log order : List ℕ) (room : ℕ) → Told (answer_for log order room)
unfolding answer_for
told log order room = by_history (history_of log) refl
  where
    verdict_told : (v : Verdict) → Told (judged v)
    verdict_told (accepted o) = record { code = refl; number = refl }
    verdict_told (cycle c) = record { code = refl; number = refl }

    by_tests : (v : Verdict) (b t : Bool) → Told (cond b (cond t (no 29 0) (judged v)) (no 28 0))
    by_tests v true true = record { code = refl; number = refl }
    by_tests v true false = verdict_told v
    by_tests v false t = record { code = refl; number = refl }

    by_history : (h : History) → history_of log ≡ h → Told (answer_by order room h)
    by_history (refused c p) e = let k = history_keeps log c p e in record { code = k.code; number = k.number }
    by_history (passed es) e = by_tests (verdict es (vs_of (fields_of order))) (right_order es order) (ltb room (4 * count_commits es))

-- ---- the one number, for each answer

module _ {c : Result Counted Refusal} (s : Small c) where
  pub accepted_number : (n : ℕ) → c ≡ Ok (Accepted n) → (n < 65536) × (n ≡ returned c)
  accepted_number n e = ((subst Small e s).number, let q = ap returned e in omega arith)

  pub cycle_number : (n : ℕ) → c ≡ Ok (Cycle n) → (n < 65536) × (1966080 + n ≡ returned c)
  cycle_number n e = ((subst Small e s).number, sym (ap returned e))

  pub refused_number : (x : Refusal) → c ≡ Err x
      → (refusal_code x ≤ 30) × (refusal_number x < 65536) × (refusal_code x * 65536 + refusal_number x ≡ returned c)
  refused_number x e = ((subst Small e s).code, (subst Small e s).number, sym (ap returned e))

-- the one number tells code and number back
pub code_back : (r : Result Counted Refusal) → Small r → returned r / 65536 ≡ checked_code r
code_back r s = let c = s.code in let n = s.number in omega arith

pub number_back : (r : Result Counted Refusal) → Small r → returned r % 65536 ≡ checked_number r
number_back r s = let c = s.code in let n = s.number in omega arith

-- what checking answers and leaves, as the C call does
pub panel : {log order b : List ℕ} {r : Result Counted Refusal} {b' : List ℕ} → CheckIs log order b r b' → {n : ℕ} → n ≡ returned r
    → PanelIs log order b n b'
panel {log} {order} {b} c e =
    let t = told log order (length b) in
    record { answer = e ∙ ap returned c.answer ∙ rw (t.code, t.number); bytes = c.bytes }

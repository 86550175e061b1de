-- A refusal keeps its code and its number, and the two tell the refusal back.
-- Assumes nothing.
use Prim.Native.Nat.{ℕ}
use native.Mathlib.Omega.{arith}
use mathlib.Core.Path.{◌≡◌, refl}
use mathlib.Core.List.{List}
use borrow.Author.Tests.{ne_eqb}
use Rattle.history_rules.specs.History.{refused, history_of}
use Rattle.history_rules.proofs.RefusalLaws.{refused_keeps, refused_codes}
use Rattle.checker_rules.specs.declared.Refusal.{Refusal}
use Rattle.checker_rules.specs.declared.Refusal.TheVariants.{Log, BadOrder, NoRoom}
use Rattle.checker_rules.specs.Refusals.{refusal_code, refusal_number, refusal_with}
use Rattle.history_rules.specs.declared.Fault.TheVariants.{Stamp, Item, Version}
use Rattle.history_rules.specs.declared.BadLog.TheVariants.{NoLog, BadField, Wrong, TooMany, Dangling}

pub refusal_back : (r : Refusal) → refusal_with (refusal_code r) (refusal_number r) ≡ r
refusal_back (Log NoLog) = refl
refusal_back (Log (BadField p)) = refl
refusal_back (Log (Wrong Stamp p)) = refl
refusal_back (Log (Wrong Item p)) = refl
refusal_back (Log (Wrong Version p)) = refl
refusal_back (Log TooMany) = refl
refusal_back (Log (Dangling p)) = refl
refusal_back BadOrder = refl
refusal_back NoRoom = refl

-- the refusal with this code and this number has them
pub record Keeps (c n : ℕ) : Type 0 where
  pub code : refusal_code (refusal_with c n) ≡ c
  pub number : refusal_number (refusal_with c n) ≡ n

pub history_keeps : (s : List ℕ) (c p : ℕ) → history_of s ≡ refused c p → Keeps c p
history_keeps s c p e =
    let k = refused_keeps s c p e in
    let q = refused_codes s c p e in
    let x = ne_eqb c 28 (λ z. absurd (omega arith)) in
    let y = ne_eqb c 29 (λ z. absurd (omega arith)) in
    record { code = rw (x, y) k.code; number = rw (x, y) k.number }

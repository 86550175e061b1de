-- The page's code and number for each refusal of the checker, codes 21 to 29, both ways.
-- Assumes nothing.
use Rattle.std.specs.Prelude.{ℕ, cond, eqb}
use Rattle.history_rules.specs.Refusals.{bad_log_code, bad_log_number, bad_log_with}
use Rattle.checker_rules.specs.declared.Refusal.{Refusal}
use Rattle.checker_rules.specs.declared.Refusal.TheVariants.{Log, BadOrder, NoRoom}

abbrev pub refusal_code : Refusal → ℕ
refusal_code (Log e) = bad_log_code e
refusal_code BadOrder = 28
refusal_code NoRoom = 29

abbrev pub refusal_number : Refusal → ℕ
refusal_number (Log e) = bad_log_number e
refusal_number BadOrder = 0
refusal_number NoRoom = 0

-- the refusal with a code, which is one of 21 to 29, and a number
abbrev pub refusal_with : (code number : ℕ) → Refusal
refusal_with c n = cond (eqb c 28) BadOrder (cond (eqb c 29) NoRoom (Log (bad_log_with c n)))

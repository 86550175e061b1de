-- The page's code and number for each way that a log is refused, codes 21 to 27, both ways.
-- Assumes nothing.
use Rattle.std.specs.Prelude.{ℕ, cond, eqb}
use Rattle.history_rules.specs.declared.Fault.{Fault}
use Rattle.history_rules.specs.declared.Fault.TheVariants.{Stamp, Item, Version}
use Rattle.history_rules.specs.declared.BadLog.{BadLog}
use Rattle.history_rules.specs.declared.BadLog.TheVariants.{NoLog, BadField, Wrong, TooMany, Dangling}

-- ---- one record

abbrev pub fault_code : Fault → ℕ
fault_code Stamp = 23
fault_code Item = 24
fault_code Version = 25

-- the fault with a code, which is one of these three
abbrev pub fault_with : ℕ → Fault
fault_with c = cond (eqb c 23) Stamp (cond (eqb c 24) Item Version)

-- ---- a log

abbrev pub bad_log_code : BadLog → ℕ
bad_log_code NoLog = 21
bad_log_code (BadField p) = 22
bad_log_code (Wrong f p) = fault_code f
bad_log_code TooMany = 26
bad_log_code (Dangling p) = 27

abbrev pub bad_log_number : BadLog → ℕ
bad_log_number NoLog = 0
bad_log_number (BadField p) = p.0
bad_log_number (Wrong f p) = p.0
bad_log_number TooMany = 0
bad_log_number (Dangling p) = p.0

-- the refusal with a code, which is one of 21 to 27, and a number
abbrev pub bad_log_with : (code number : ℕ) → BadLog
bad_log_with c p =
    cond (eqb c 21) NoLog
    (cond (eqb c 22) (BadField (record { 0 = p }))
    (cond (eqb c 26) TooMany
    (cond (eqb c 27) (Dangling (record { 0 = p }))
    (Wrong (fault_with c) (record { 0 = p })))))

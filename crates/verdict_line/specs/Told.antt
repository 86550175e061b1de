-- The verdict's line as the code has it: the stamps stand in the answer's bytes.
-- Assumes nothing.
use Rattle.std.specs.Prelude.{ℕ, ◌≤◌, List}
use Rattle.line_format.specs.Decimals.{bytes}
use Rattle.order_rules.specs.Reading.{stamps_at}
use Rattle.std.specs.Prelude.{Result, Ok, Err}
use Rattle.graph_theory.specs.declared.Verdict.{Verdict}
use Rattle.graph_theory.specs.declared.Verdict.TheVariants.{Accepted, Cycle}
use Rattle.checker_rules.specs.declared.Refusal.{Refusal}
use Rattle.checker_rules.specs.Refusals.{refusal_code, refusal_number}
use Rattle.verdict_format.specs.Lines.{listed, refusal}

-- the line of what was answered
abbrev pub line_of : Result Verdict Refusal → List ℕ → List ℕ
line_of (Ok (Accepted n)) a = listed (bytes "accepted") (stamps_at a 0 n)
line_of (Ok (Cycle n)) a = listed (bytes "cycle") (stamps_at a 0 n)
line_of (Err e) a = refusal (refusal_code e) (refusal_number e)

-- at most 256 stamps are told
abbrev pub Few : Result Verdict Refusal → Type 0
Few (Ok (Accepted n)) = n ≤ 256
Few (Ok (Cycle n)) = n ≤ 256
Few (Err e) = Unit {0}

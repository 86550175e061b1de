-- The one line that the check program prints: `accepted` or `cycle` and the stamps, each after a space, or `refused`, code and number.
-- Assumes nothing.
use Rattle.std.specs.Prelude.{ℕ, ◌≡◌, List, [], ◌∷◌, ◌++◌}
use Rattle.line_format.specs.Decimals.{bytes, digits}
use Rattle.graph_theory.specs.Verdict.{accepted, cycle}
use Rattle.checker_rules.specs.Answers.{Answer, no, judged}

-- a number after a space
abbrev pub spaced : ℕ → List ℕ
spaced n = bytes " " ++ digits n

-- numbers, each after a space
abbrev pub each_spaced : List ℕ → List ℕ
each_spaced [] = []
each_spaced (k ∷ ks) = spaced k ++ each_spaced ks

-- a word and stamps
abbrev pub listed : List ℕ → List ℕ → List ℕ
listed word ks = word ++ each_spaced ks ++ bytes "\n"

-- a refusal, with its code and number
abbrev pub refusal : ℕ → ℕ → List ℕ
refusal c n = bytes "refused" ++ spaced c ++ spaced n ++ bytes "\n"

-- the line that tells an answer
abbrev pub verdict_line : Answer → List ℕ
verdict_line (no c n) = refusal c n
verdict_line (judged (accepted o)) = listed (bytes "accepted") o
verdict_line (judged (cycle c)) = listed (bytes "cycle") c

-- the longest one, with 256 stamps
abbrev pub longest : ℕ
longest = 2825

-- ---- some lines

pub record SomeLines : Type 0 where
  pub none : verdict_line (judged (accepted [])) ≡ bytes "accepted\n"
  pub order : verdict_line (judged (accepted (2 ∷ 1 ∷ 30 ∷ []))) ≡ bytes "accepted 2 1 30\n"
  pub torn : verdict_line (judged (cycle (2 ∷ 3 ∷ []))) ≡ bytes "cycle 2 3\n"
  pub cut : verdict_line (no 22 104) ≡ bytes "refused 22 104\n"
  pub empty : verdict_line (no 21 0) ≡ bytes "refused 21 0\n"

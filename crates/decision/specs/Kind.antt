-- The page's numbers of the kinds of operations.
-- Assumes nothing.
use Rattle.std.specs.Prelude.{ℕ, ◌<◌, ◌≡◌, ◌⊎◌, Result, MatchResult}
use Rattle.decision.specs.declared.Kind.{Kind}
use Rattle.decision.specs.declared.Kind.TheVariants.{Begin, Read, Write, Commit, Abort}
use Rattle.decision.specs.declared.Refusal.{Refusal}
use Rattle.decision.specs.declared.Refusal.TheVariants.{Malformed}

-- the number of a kind
abbrev pub number_of : Kind → ℕ
number_of Begin = 1
number_of Read = 2
number_of Write = 3
number_of Commit = 4
number_of Abort = 5

-- r is the kind of this number, or says that no kind has it
abbrev pub IsKind : ℕ → Result Kind Refusal → Type 0
IsKind n r = MatchResult r (λ kind. number_of kind ≡ n) (λ e. (e ≡ Malformed) × ((n ≡ 0) ⊎ (5 < n)))

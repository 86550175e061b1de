-- What the `else` of a `let else` knows, a tag: the record is no read, or no commit.
-- Assumes nothing.
use Prim.Native.Nat.{ℕ}
use native.Mathlib.Omega.{arith}
use mathlib.Core.Path.{◌≡◌, refl}
use mathlib.Core.List.{List}
use mathlib.Core.Logic.{◌⊎◌, inl, inr}
use mathlib.Core.Bool.{false}
use denote.Enum.Declared.{tag_of}
use Rattle.log_format.specs.contracts.Record as records
use Rattle.log_format.specs.Events.{event_of}
use Rattle.log_format.specs.declared.Record.{Record}
use Rattle.log_format.specs.declared.Record.TheVariants.{Begin, Read, Write, Commit, Abort}
use Rattle.history_rules.specs.History.{dangling}
use Rattle.history.specs.Nodes.{with_commit}

-- the record's tag
abbrev tag : Record → ℕ
tag r = tag_of records.the_type r

pub no_read : (st : ℕ → ℕ) (r : Record) → (tag r ≡ 0) ⊎ ((tag r ≡ 2) ⊎ ((tag r ≡ 3) ⊎ (tag r ≡ 4))) → false ≡ dangling st (event_of r)
no_read st (Begin t) k = refl
no_read st (Read t x j v) (inl e) = absurd (omega arith)
no_read st (Read t x j v) (inr (inl e)) = absurd (omega arith)
no_read st (Read t x j v) (inr (inr (inl e))) = absurd (omega arith)
no_read st (Read t x j v) (inr (inr (inr e))) = absurd (omega arith)
no_read st (Write t x v) k = refl
no_read st (Commit t) k = refl
no_read st (Abort t c) k = refl

pub no-commit : (l : List ℕ) (r : Record) → (tag r ≡ 0) ⊎ ((tag r ≡ 1) ⊎ ((tag r ≡ 2) ⊎ (tag r ≡ 4))) → with_commit (event_of r) l ≡ l
no-commit l (Begin t) k = refl
no-commit l (Read t x j v) k = refl
no-commit l (Write t x v) k = refl
no-commit l (Commit t) (inl e) = absurd (omega arith)
no-commit l (Commit t) (inr (inl e)) = absurd (omega arith)
no-commit l (Commit t) (inr (inr (inl e))) = absurd (omega arith)
no-commit l (Commit t) (inr (inr (inr e))) = absurd (omega arith)
no-commit l (Abort t c) k = refl

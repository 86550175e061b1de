-- Lists without doubles, which of two stands first, and rising lists with one number more or less.
-- Assumes nothing.
use Rattle.std.specs.Prelude.{ℕ, ◌≡◌, ◌⊎◌, List, [], ◌∷◌, cond, eqb, ltb}
use Rattle.lists.specs.Member.{◌∈◌}

-- none stands twice
abbrev pub Distinct : {A : Type 0} → List A → Type 0
Distinct [] = Unit {0}
Distinct (a ∷ l) = (¬ (a ∈ l)) × Distinct l

-- i stands before j
abbrev pub Before : {A : Type 0} → List A → A → A → Type 0
Before [] i j = ⊥
Before (a ∷ l) i j = ((i ≡ a) × (j ∈ l)) ⊎ Before l i j

-- o lists those of which P holds, each once
pub record Lists {A : Type 0} (P : A → Type 0) (o : List A) : Type 0 where
  pub once : Distinct o
  pub all : (a : A) → P a → a ∈ o
  pub only : (a : A) → a ∈ o → P a

-- l without the first place where k stands
abbrev pub without : ℕ → List ℕ → List ℕ
without k [] = []
without k (a ∷ l) = cond (eqb k a) l (a ∷ without k l)

-- a rising list with k in its place, if it does not stand there already
abbrev pub insert : ℕ → List ℕ → List ℕ
insert k [] = k ∷ []
insert k (a ∷ l) = cond (ltb k a) (k ∷ a ∷ l) (cond (eqb k a) (a ∷ l) (a ∷ insert k l))

-- What looking up a version answers.
-- Assumes nothing.
use Rattle.std.specs.Prelude.{ℕ, suc, ◌≤◌, ◌<◌, ◌≡◌, ◌⊎◌, List, [], ◌∷◌, Some, None, map, get_or}
use Rattle.std.proofs.Math.Decide.{ℕ_discrete, dec_le, dec_lt}
use Rattle.lists.specs.Choice.{pick, both, either}
use Rattle.scheduler_rules.specs.Model.{Version, below, max_versions}
use Rattle.scheduler_rules.specs.Sound.{Sorted}
use Rattle.version_columns.specs.Columns.{versions_of}
use Rattle.version_columns.specs.declared.Versions.{Versions}
use Rattle.version_columns.specs.declared.Chosen.{Chosen}

-- the version of y by j stands at or before that of x by k: by item, then by stamp
abbrev pub UpTo : ℕ → ℕ → ℕ → ℕ → Type 0
UpTo x k y j = (y < x) ⊎ ((y ≡ x) × (j ≤ k))

abbrev pub up_to? : (x k y j : ℕ) → Dec (UpTo x k y j)
up_to? x k y j = either (dec_lt y x) (both (ℕ_discrete y x) (dec_le j k))

-- how many of the rows of two columns, from the first on, stand at or before the version of x by k
unfoldable pub up_to_in : ℕ → ℕ → List ℕ → List ℕ → ℕ
up_to_in x k (y ∷ ys) (j ∷ js) = pick (up_to? x k y j) (suc (up_to_in x k ys js)) 0
up_to_in x k (y ∷ ys) [] = 0
up_to_in x k [] js = 0

-- how many versions, from the first on, stand at or before that of x by k
abbrev pub up_to : ℕ → ℕ → List Version → ℕ
up_to x k l = up_to_in x k (map (λ (u : Version). u.item) l) (map (λ (u : Version). u.stamp) l)

-- columns whose count is within them, and whose versions are sorted
pub record Ready (t : Versions) : Type 0 where
  pub within : t.count ≤ max_versions
  pub sorted : Sorted (versions_of t)

-- the initial version of x, with its mark
abbrev pub initial_of : ℕ → ℕ → Version
initial_of x first = record { item = x; stamp = 0; value = 0; mark = first }

-- r is the version of x in l with the largest stamp not above k, or the initial one, whose mark is first
pub record Answers (l : List Version) (x k first : ℕ) (r : Chosen) : Type 0 where
  pub version : below x (suc k) (initial_of x first) l ≡ record { item = x; stamp = r.stamp.0; value = r.value; mark = r.mark.0 }
  -- where the version of x by k goes
  pub at : r.at ≡ up_to x k l
  -- a held one stands just before that place
  pub held : (b : ℕ) → r.held ≡ Some b → (r.at ≡ suc b) × (get_or l b (initial_of x first) ≡ below x (suc k) (initial_of x first) l)
  -- else it is the initial one
  pub none : r.held ≡ None → below x (suc k) (initial_of x first) l ≡ initial_of x first

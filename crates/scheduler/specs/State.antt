-- What a state means, the state that a model makes, and when a state is damaged.
-- Assumes nothing.
use Rattle.std.specs.Prelude.{ℕ, ◌≤◌, ◌≡◌, Bool, [], length, replicate}
use Rattle.scheduler_rules.specs.Model.{Model, max_open, max_versions}
use Rattle.scheduler_rules.specs.Sound.{Sound}
use Rattle.open_table.specs.Open.{table_of}
use Rattle.version_columns.specs.Columns.{columns_of}
use Rattle.decision.specs.Decided.{model_of, undamaged_in}
use Rattle.scheduler.specs.declared.State.{State}

-- the model that a state means: lists without padding
abbrev pub abs : State → Model
abs s = model_of s.core s.marks s.versions

-- the state that means a model: zeros past each count
abbrev pub state_of : Model → State
state_of m = record {
  core = record { last = record { 0 = m.last }; used = record { 0 = m.used }; live = table_of m.live };
  marks = m.marks;
  versions = columns_of m.held;
}

-- all zeros
abbrev pub nothing : Model
nothing = record { last = 0; live = []; held = []; marks = replicate 64 0; used = 0 }

-- the state is not damaged, where the log may have so many bytes
abbrev pub undamaged : State → ℕ → Bool
undamaged s room = undamaged_in s.core room s.marks s.versions

-- the same in plain words: it is the picture of a sound model, and the bytes used are within the room
pub record Undamaged (s : State) (room : ℕ) : Type 0 where
  pub sound : Sound (abs s)
  pub is : s ≡ state_of (abs s)
  pub within : (abs s).used ≤ room

-- the arrays of a state have the lengths that their types say
pub record Full (s : State) : Type 0 where
  pub opens : length s.core.live.stamps ≡ max_open
  pub marks : length s.marks ≡ 64
  pub items : length s.versions.items ≡ max_versions
  pub stamps : length s.versions.stamps ≡ max_versions
  pub values : length s.versions.values ≡ max_versions
  pub readers : length s.versions.marks ≡ max_versions

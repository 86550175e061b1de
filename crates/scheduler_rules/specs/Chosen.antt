-- The version that an operation meets, as the page says it, with no word on how it is found.
-- Assumes nothing.
use Rattle.std.specs.Prelude.{ℕ, ◌≤◌, ◌<◌, ◌≡◌, ◌⊎◌}
use Rattle.lists.specs.Member.{◌∈◌}
use Rattle.scheduler_rules.specs.Model.{Version, Model, initial}

-- a stamp not above k
abbrev pub NotAbove : ℕ → ℕ → Type 0
NotAbove k s = s ≤ k

-- a stamp below i
abbrev pub Below : ℕ → ℕ → Type 0
Below i s = s < i

-- u is the version of x with the largest stamp among those that are allowed; the initial version, stamp 0, always is
pub record Largest (m : Model) (x : ℕ) (Allowed : ℕ → Type 0) (u : Version) : Type 0 where
  -- it is the initial version of x, or a version held of x with an allowed stamp
  pub from : (u ≡ initial m x) ⊎ ((u ∈ m.held) × (u.item ≡ x) × Allowed u.stamp)
  -- no version held of x with an allowed stamp has a larger one
  pub top : (w : Version) → w ∈ m.held → w.item ≡ x → Allowed w.stamp → w.stamp ≤ u.stamp

-- What joins a model that operations lead to with the events written, newest first.
-- Assumes nothing.
use Rattle.std.specs.Prelude.{ℕ, ◌≤◌, ◌<◌, ◌≡◌, List, ◌⊎◌, get_or}
use Rattle.lists.specs.Member.{◌∈◌}
use Rattle.log_format.specs.Events.{Event}
use Rattle.log_format.specs.Told.{Begun, Got, Put, Done, Active}
use Rattle.scheduler_rules.specs.Model.{Version, Model, max_item}
use Rattle.scheduler_rules.specs.Lawful.{Lawful}

-- k is open or has committed: it was not aborted
abbrev pub OpenOrDone : ℕ → Model → List Event → Type 0
OpenOrDone k m es = (k ∈ m.live) ⊎ Done k es

-- among l is the version of x by k, with value v
abbrev pub Holds : ℕ → ℕ → ℕ → List Version → Type 0
Holds k x v l = (u : Version) × (u ∈ l) × (u.item ≡ x) × (u.stamp ≡ k) × (u.value ≡ v)

-- n is the largest stamp of any transaction that has read version j of x, aborted ones included; 0 if there is none
abbrev pub MarkOf : ℕ → ℕ → ℕ → List Event → Type 0
MarkOf x j n es = ((k v : ℕ) → Got k x j v es → k ≤ n) × ((n ≡ 0) ⊎ ((v : ℕ) × Got n x j v es))

pub record Invariant (m : Model) (es : List Event) : Type 0 where
  -- each event was allowed by those before it
  pub lawful : Lawful es
  -- the last begun stamp is not below any begun one
  pub begun : (k : ℕ) → Begun k es → k ≤ m.last
  -- the open stamps are those that have begun and not ended
  pub active : (k : ℕ) → k ∈ m.live → Active k es
  pub opened : (k : ℕ) → Active k es → k ∈ m.live
  -- the versions held are the writes of those that are open or committed
  pub source : (u : Version) → u ∈ m.held → Put u.stamp u.item u.value es
  pub writer : (u : Version) → u ∈ m.held → OpenOrDone u.stamp m es
  pub kept : (k x v : ℕ) → Put k x v es → OpenOrDone k m es → Holds k x v m.held
  -- marks, of versions held and of initial ones
  pub mark : (u : Version) → u ∈ m.held → MarkOf u.item u.stamp u.mark es
  pub mark0 : (x : ℕ) → x ≤ max_item → MarkOf x 0 (get_or m.marks x 0) es
  -- TS5: no write lies between a read and the version that it read
  pub gap : (k x j v n w : ℕ) → Got k x j v es → OpenOrDone k m es → Put n x w es → OpenOrDone n m es → j < n → n < k → ⊥

-- What the scheduler's events are like, newest first: each was allowed by those before it.
-- Assumes nothing.
use Rattle.std.specs.Prelude.{ℕ, ◌≤◌, ◌<◌, ◌≡◌, List, [], ◌∷◌, ◌⊎◌}
use Rattle.log_format.specs.Events.{Event, begins, reads, writes, commits, aborts}
use Rattle.log_format.specs.Told.{Begun, Put, Puts, Done, Active}
use Rattle.scheduler_rules.specs.Model.{max_item}

-- k may read v in version j of x after es: its own write; or, having none, an older version, the initial one or one committed by then
abbrev pub Saw : ℕ → ℕ → ℕ → ℕ → List Event → Type 0
Saw k x j v es = ((j ≡ k) × Put k x v es) ⊎ ((j < k) × (¬ Puts k x es) × (((j ≡ 0) × (v ≡ 0)) ⊎ (Done j es × Put j x v es)))

-- e may follow es
abbrev pub May : Event → List Event → Type 0
May (begins k) es = (1 ≤ k) × ((i : ℕ) → Begun i es → i < k)
May (reads k x j v) es = Active k es × (x ≤ max_item) × Saw k x j v es
May (writes k x v) es = Active k es × (x ≤ max_item) × (v ≤ 4294967295) × (¬ Puts k x es)
May (commits k) es = Active k es
May (aborts k c) es = Active k es × (c ≤ 1)

abbrev pub Lawful : List Event → Type 0
Lawful [] = Unit {0}
Lawful (e ∷ es) = May e es × Lawful es

-- the same of a read anywhere among es, as far as it still shows at the end
abbrev pub Seen : ℕ → ℕ → ℕ → ℕ → List Event → Type 0
Seen k x j v es = ((j ≡ k) × Put k x v es) ⊎ ((j < k) × (((j ≡ 0) × (v ≡ 0)) ⊎ (Done j es × Put j x v es)))

-- Serial orders: the committed transactions, run one at a time from all zeros, each doing its reads and writes in log order.
-- Assumes nothing.
use Rattle.std.specs.Prelude.{ℕ, ◌≡◌, List, [], ◌∷◌, cond, eqb}
use Rattle.lists.specs.Order.{Lists}
use Rattle.log_format.specs.Events.{Event, begins, reads, writes, commits, aborts}
use Rattle.log_format.specs.Told.{Done}

-- `note j v` is what an item shows of the version that j wrote with value v
module _ {A : Type 0} (note : ℕ → ℕ → A) where
  -- at first each item has value 0, written by 0
  abbrev pub zeros : ℕ → A
  zeros x = note 0 0

  -- what the items show after an event of the log, when t is run: t's writes alone are done
  abbrev pub apply : ℕ → Event → (ℕ → A) → ℕ → A
  apply t (begins u) s = s
  apply t (reads u x j v) s = s
  apply t (writes u x v) s = cond (eqb t u) (λ (y : ℕ). cond (eqb y x) (note t v) (s y)) s
  apply t (commits u) s = s
  apply t (aborts u c) s = s

  -- an event of the log, if it is a read of t's, gets what stands in it
  abbrev pub Gets : ℕ → Event → (ℕ → A) → Type 0
  Gets t (begins u) s = Unit {0}
  Gets t (reads u x j v) s = u ≡ t → s x ≡ note j v
  Gets t (writes u x v) s = Unit {0}
  Gets t (commits u) s = Unit {0}
  Gets t (aborts u c) s = Unit {0}

  -- what the items show after t, its writes in log order
  abbrev pub after : ℕ → List Event → (ℕ → A) → ℕ → A
  after t [] s = s
  after t (e ∷ log) s = after t log (apply t e s)

  -- each of t's reads gets what stands in the log
  abbrev pub AllGet : ℕ → List Event → (ℕ → A) → Type 0
  AllGet t [] s = Unit {0}
  AllGet t (e ∷ log) s = Gets t e s × AllGet t log (apply t e s)

  -- the transactions of o run one at a time, each of their reads gets what stands in the log
  abbrev pub Runs : List Event → List ℕ → (ℕ → A) → Type 0
  Runs log [] s = Unit {0}
  Runs log (t ∷ o) s = AllGet t log s × Runs log o (after t log s)

  -- o lists the committed transactions, each once, and they run so from all zeros
  pub record Serial (log : List Event) (o : List ℕ) : Type 0 where
    pub lists : Lists (λ (t : ℕ). Done t log) o
    pub runs : Runs log o zeros

-- o is a serial order: the committed transactions, run one at a time from all zeros, each read the values in the log
abbrev pub SerialOrder : List Event → List ℕ → Type 0
SerialOrder log o = Serial (λ (j v : ℕ). v) log o

-- and each read is also from the version in the log
abbrev pub SerialVersions : List Event → List ℕ → Type 0
SerialVersions log o = Serial {A = ℕ × ℕ} (λ (j v : ℕ). (j, v)) log o

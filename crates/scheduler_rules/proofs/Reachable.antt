-- The page's sentences about the scheduler, for every model that operations lead to and the events they wrote. Each is a part of the invariant,
-- or two parts put together.
-- Assumes nothing.
use Prim.Native.Nat.{ℕ, ◌≤◌, ◌<◌}
use mathlib.Core.Path.{◌≡◌, sym, subst}
use mathlib.Core.List.{List}
use mathlib.Core.Logic.{inl, inr, ◌≢◌, ◌↔◌}
use native.Mathlib.Omega.{arith}
use lib.ListN.{get_or}
use Rattle.lists.specs.Member.{◌∈◌}
use Rattle.log_format.specs.Events.{Event}
use Rattle.log_format.specs.Told.{Got, Put, Undone, Active}
use Rattle.scheduler_rules.specs.Model.{Version, Model, max_item, beneath, Late}
use Rattle.scheduler_rules.specs.Table.{Reached}
use Rattle.scheduler_rules.specs.Chosen.{Below, Largest}
use Rattle.scheduler_rules.specs.Lawful.{Lawful, Seen}
use Rattle.scheduler_rules.specs.Invariant.{OpenOrDone, Holds, MarkOf}
use Rattle.scheduler_rules.proofs.Choosing.{beneath_is}
use Rattle.scheduler_rules.proofs.LawfulLaws.{one_end, got_seen}
use Rattle.scheduler_rules.proofs.InvariantLaws.{invariant}

-- there is one largest reader
pub mark_one : (x j n o : ℕ) (es : List Event) → MarkOf x j n es → MarkOf x j o es → n ≡ o
mark_one x j n o es a b = let l = at_most n o a b in let r = at_most o n b a in omega arith
  where
    at_most : (n o : ℕ) → MarkOf x j n es → MarkOf x j o es → n ≤ o
    at_most n o a b = elim a.1 [ inl z ↦ omega arith | inr t ↦ b.0 n t.0 t.1 ]

module _ {m : Model} {es : List Event} (r : Reached m es) where
  -- each event was allowed by those before it
  pub events_lawful : Lawful es
  events_lawful = (invariant r).lawful

  -- the open transactions are those that have begun and not ended
  pub open_is_active : (k : ℕ) → k ∈ m.live ↔ Active k es
  open_is_active k = ((invariant r).active k, (invariant r).opened k)

  -- ---- versions

  -- a version held is the write of a transaction that is open or committed
  pub held_are_writes : (u : Version) → u ∈ m.held → Put u.stamp u.item u.value es × OpenOrDone u.stamp m es
  held_are_writes u h = ((invariant r).source u h, (invariant r).writer u h)

  -- the write of a transaction that is open or committed is held, with its value
  pub writes_are_held : (k x v : ℕ) → Put k x v es → OpenOrDone k m es → Holds k x v m.held
  writes_are_held = (invariant r).kept

  -- no version of an aborted transaction is held
  pub aborted_are_gone : (k : ℕ) → Undone k es → (u : Version) → u ∈ m.held → u.stamp ≢ k
  aborted_are_gone k d u h e = elim ((invariant r).writer u h) [
    | inl o ↦ ((invariant r).active u.stamp o).2 (rw e d)
    | inr c ↦ one_end u.stamp es (invariant r).lawful c (rw e d)
  ]

  -- ---- marks

  -- a mark is the largest stamp of any transaction that has read the version, including those that aborted since
  pub mark_is_largest_reader : (u : Version) → u ∈ m.held → MarkOf u.item u.stamp u.mark es
  mark_is_largest_reader = (invariant r).mark

  -- and so is an initial version's
  pub initial_mark_is_largest_reader : (x : ℕ) → x ≤ max_item → MarkOf x 0 (get_or m.marks x 0) es
  initial_mark_is_largest_reader = (invariant r).mark0

  -- and so is that of the version beneath a write
  pub beneath_mark : (x i : ℕ) → x ≤ max_item → MarkOf x (beneath m x i).stamp (beneath m x i).mark es
  beneath_mark x i h = go (beneath m x i) (beneath_is m x i)
    where
      go : (u : Version) → Largest m x (Below i) u → MarkOf x u.stamp u.mark es
      go u l = elim l.from [
        | inl e ↦ subst (λ (w : Version). MarkOf x w.stamp w.mark es) (sym e) ((invariant r).mark0 x h)
        | inr t ↦ rw t.1 at ((invariant r).mark u t.0)
      ]

  -- a write is late exactly when a transaction above it has read the version beneath it
  pub late_is_read_above : (x i : ℕ) → x ≤ max_item → (Late x i m ↔ ((k : ℕ) × (v : ℕ) × (i < k) × Got k x (beneath m x i).stamp v es))
  late_is_read_above x i h = let b = beneath_mark x i h in (
    (λ l. elim b.1 [ inl z ↦ absurd (omega arith) | inr t ↦ ((beneath m x i).mark, t.0, l, t.1) ]),
    (λ q. let a = b.0 q.0 q.1 q.3 in let c = q.2 in omega arith),
  )

  -- ---- reads

  -- a read was of its own write, or of an older version: the initial one or one of a committed writer
  pub reads_are_seen : (k x j v : ℕ) → Got k x j v es → Seen k x j v es
  reads_are_seen k x j v g = got_seen k x j v es (invariant r).lawful g

  -- TS5: among those open or committed no write of x lies between a read of x and the version that it read
  pub no-write_between : (k x j v n w : ℕ) → Got k x j v es → OpenOrDone k m es → Put n x w es → OpenOrDone n m es → j < n → n < k → ⊥
  no-write_between = (invariant r).gap

-- What a regular log gives: stamps are not 0, a transaction writes an item once and commits once. Of two events of a log one stands before the
-- other, so it is in the past that the other is right after.
-- Assumes nothing.
use Prim.Native.Nat.{ℕ, ◌≤◌}
use mathlib.Core.Path.{◌≡◌, sym, subst}
use mathlib.Core.Logic.{◌⊎◌, inl, inr, ◌≢◌}
use mathlib.Core.List.Memᴰ
use mathlib.Core.List.{List, [], ◌∷◌}
use Rattle.lists.specs.Member.{◌∈◌}
use Rattle.lists.proofs.OrderLaws.{in_nil}
use Rattle.log_format.specs.Events.{Event, reads, writes, commits}
use Rattle.log_format.specs.Told.{Got, Put, Done}
use Rattle.log_format.proofs.ToldLaws.{got_is, put_is, done_is}
use Rattle.history_rules.specs.WellFormed.{most_item, Right, AllRight, WellFormed}
use Rattle.serial_theory.specs.Edges.{Regular}

pub regular : (log : List Event) → WellFormed log → Regular log
regular log w = record { right = w.right; from = w.from }

-- an event of the log is right after some past, all of which stands in the log
pub right_at : (e : Event) (past log : List Event) → AllRight past log → e ∈ log → (p : List Event) × Right p e × ((d : Event) → d ∈ p → (d ∈ past) ⊎ (d ∈ log))
right_at e past [] r m = in_nil m
right_at e past (f ∷ log) r (Memᴰ.head q) = (past, subst (λ (g : Event). Right past g) (sym q) r.0, λ d n. inl n)
right_at e past (f ∷ log) r (Memᴰ.tail m) =
    let s = right_at e (f ∷ past) log r.1 m in (
      s.0,
      s.1,
      λ d n. elim (s.2 d n) [
        | inl k ↦ elim (Memᴰ.cases_cons k) [ inl q ↦ inr (Memᴰ.head q) | inr o ↦ inl o ]
        | inr k ↦ inr
            (Memᴰ.tail k)
      ],
    )

-- and after a past with what stood before
pub right_after : (d e : Event) (past log : List Event) → AllRight past log → d ∈ past → e ∈ log → (p : List Event) × Right p e × (d ∈ p)
right_after d e past [] r n m = in_nil m
right_after d e past (f ∷ log) r n (Memᴰ.head q) = (past, subst (λ (g : Event). Right past g) (sym q) r.0, n)
right_after d e past (f ∷ log) r n (Memᴰ.tail m) = right_after d e (f ∷ past) log r.1 (Memᴰ.tail n) m

module _ (log : List Event) (g : Regular log) where
  -- a committed transaction is not 0
  pub done-stamp : (t : ℕ) → Done t log → t ≢ 0
  done-stamp t d = (right_at (commits t) [] log g.right ((done_is t log).0 d)).1.0

  -- a read is of one of the items, and a version read was written
  pub read_item : (t x j v : ℕ) → Got t x j v log → x ≤ most_item
  read_item t x j v h = (right_at (reads t x j v) [] log g.right ((got_is t x j v log).0 h)).1.1.0

  pub read-written : (t x j v : ℕ) → Got t x j v log → j ≢ 0 → Put j x v log
  read-written t x j v h nz =
      let s = right_at (reads t x j v) [] log g.right ((got_is t x j v log).0 h) in
      (put_is j x v log).1 (elim (s.2 (writes j x v) ((put_is j x v s.0).0 (s.1.1.1.wrote nz))) [ inl n ↦ in_nil n | inr n ↦ n ])

module _ (t x v w : ℕ) where
  again : (past log : List Event) → AllRight past log → writes t x v ∈ past → ¬ (writes t x w ∈ log)
  again past log r n m = let s = right_after (writes t x v) (writes t x w) past log r n m in s.1.1.1 (v, (put_is t x v s.0).1 s.2)

module _ (t x v w : ℕ) where
  write_once : (past log : List Event) → AllRight past log → writes t x v ∈ log → writes t x w ∈ log → v ≡ w
  write_once past [] r m n = in_nil m
  write_once past (e ∷ log) r (Memᴰ.head p) (Memᴰ.head q) = cc
  write_once past (e ∷ log) r (Memᴰ.head p) (Memᴰ.tail n) = absurd (again t x v w (e ∷ past) log r.1 (Memᴰ.head p) n)
  write_once past (e ∷ log) r (Memᴰ.tail m) (Memᴰ.head q) = absurd (again t x w v (e ∷ past) log r.1 (Memᴰ.head q) m)
  write_once past (e ∷ log) r (Memᴰ.tail m) (Memᴰ.tail n) = write_once (e ∷ past) log r.1 m n

  -- a transaction writes an item once
  pub put_once : (log : List Event) → Regular log → Put t x v log → Put t x w log → v ≡ w
  put_once log g p q = write_once [] log g.right ((put_is t x v log).0 p) ((put_is t x w log).0 q)

-- A row pushed at an event's key, with the event's number, notes the event; a read is noted by no row.
-- Assumes nothing.
use Prim.Native.Nat.{ℕ, ◌+◌}
use native.Mathlib.Omega.{arith}
use mathlib.Core.Path.{◌≡◌, refl, sym, ap, ◌∙◌}
use mathlib.Core.List.{List}
use Rattle.log_format.specs.Events.{event_of}
use Rattle.log_format.specs.declared.Stamp.{Stamp}
use Rattle.log_format.specs.declared.Record.{Record}
use Rattle.log_format.specs.declared.Record.TheVariants.{Read}
use Rattle.history_rules.specs.Held.{put_at, noted}
use Rattle.index.specs.Index.{table_of, Table, Pushed}
use Rattle.index.proofs.RowLaws.{room_fewer}
use Rattle.transactions.specs.Transactions.{Noted}

-- of a record r that is q, whose key is l: the push at l notes the event
pub note_push : {m m' : List ℕ} {k l v : ℕ} {r q : Record} → r ≡ q → k ≡ l
    → ((table : ℕ → ℕ) (h : ℕ) → put_at l v table h ≡ noted (event_of q) table h) → Pushed m k v m'
    → Noted m (event_of r) m'
note_push {m} {m'} {k} {l} {v} {r} {q} e f s p = record {
  table = p.table;
  size = p.size;
  room = p.room;
  is = λ h. p.is h ∙ ap (λ (i : ℕ). put_at i v (table_of m) h) f ∙ s (table_of m) h ∙ ap (λ (x : Record). noted (event_of x) (table_of m) h) (sym e);
}

-- a read is noted by the map as it is
pub note_read : {m : List ℕ} {r : Record} {t j : Stamp} {x v : ℕ} → r ≡ Read t x j v → Table m → Noted m (event_of r) m
note_read {m} e q = record {
  table = q;
  size = refl;
  room = λ n. room_fewer m n (n + 1) (omega arith);
  is = λ h. ap (λ (x : Record). noted (event_of x) (table_of m) h) (sym e);
}

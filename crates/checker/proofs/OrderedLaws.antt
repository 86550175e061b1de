-- What writing the order of a read log answers, from what its parts ensure.
-- Assumes nothing.
use Prim.Native.Nat.{ℕ}
use native.Mathlib.Omega.{arith}
use mathlib.Core.Path.{◌≡◌, refl, sym, ◌∙◌, subst}
use mathlib.Core.List.{List}
use mathlib.Core.Bool.{Bool, true, false}
use lib.Dec.{leb}
use lib.ListN.{length, take}
use borrow.Author.Tests.{leb-true, leb-false}
use Rattle.history_rules.specs.Held.{written_in}
use Rattle.index.specs.Index.{table_of}
use Rattle.history.specs.Reads.{ReadLog}
use Rattle.order_rules.specs.Timestamps.{timestamp_order, order_by, Wrote}
use Rattle.std.specs.Prelude.{Result, Ok, Err}
use lib.Seq.{take-length, length-take-le}
use mathlib.Core.Path.{ap}
use Rattle.serial_theory.specs.Judged.{committed}
use Rattle.order_rules.specs.declared.NoRoom.{NoRoom}
use Rattle.order_rules.proofs.TableLaws.{timestamp_held}
use Rattle.checker_rules.specs.Orders.{OrderIs}
use Rattle.checker_rules.specs.declared.Refusal.TheVariants.{NoRoom as Refusal-as-NoRoom}
use Rattle.checker_rules.proofs.OrderLaws.{room_refused, order-written}

-- the front of the nodes is a log's committed transactions
module _ {s m nodes : List ℕ} {count : ℕ} (r : ReadLog s m nodes count) where
  pub read_front : (l : List ℕ) → l ≡ take count nodes → ReadLog s m l (length l)
  read_front l e =
      let n : length l ≡ count = ap length e ∙ length-take-le count nodes r.within in
      record {
        log = r.log;
        passes = r.passes;
        well = r.well;
        table = r.table;
        holds = r.holds;
        first = take-length l ∙ e ∙ r.first;
        number = n ∙ r.number;
        few = rw n r.few;
        within = omega arith;
        rising = rw (take-length l, e) r.rising;
      }

module _ {s m nodes : List ℕ} (r : ReadLog s m nodes (length nodes)) where
  -- the order that is written is the log's timestamp order
  order_is : order_by (written_in (table_of m)) nodes ≡ timestamp_order r.log
  order_is = let f : nodes ≡ committed r.log = rw take-length at r.first in rw f (timestamp_held r.log (table_of m) r.holds)

  module _ {b b' : List ℕ} {w : Result ℕ NoRoom} (o : Wrote b (order_by (written_in (table_of m)) nodes) w b') where
    wrote : Wrote b (timestamp_order r.log) w b'
    wrote = subst (λ (e : List ℕ). Wrote b e w b') order_is o

    pub ordered : {k : ℕ} → w ≡ Ok k → OrderIs s b (Ok k) b'
    ordered {k} e = go (leb (length (timestamp_order r.log)) (length b)) refl
      where
        go : (t : Bool) → leb (length (timestamp_order r.log)) (length b) ≡ t → OrderIs s b (Ok k) b'
        go true l =
            let q : ◌≡◌ {A = Result ℕ NoRoom} (Ok k) (Ok (length (timestamp_order r.log))) = sym e ∙ wrote.answer ∙ rw l in
            let z : k ≡ length (timestamp_order r.log) = cc in
            order-written s b r.log r.passes (leb-true _ _ l) k b' z (wrote.bytes ∙ rw l)
        go false l = let q : ◌≡◌ {A = Result ℕ NoRoom} (Ok k) (Err (record {})) = sym e ∙ wrote.answer ∙ rw l in absurd (cc)

    pub no_room : {x : NoRoom} → w ≡ Err x → OrderIs s b (Err Refusal-as-NoRoom) b'
    no_room {x} e = go (leb (length (timestamp_order r.log)) (length b)) refl
      where
        go : (t : Bool) → leb (length (timestamp_order r.log)) (length b) ≡ t → OrderIs s b (Err Refusal-as-NoRoom) b'
        go true l =
            let q : ◌≡◌ {A = Result ℕ NoRoom} (Err x) (Ok (length (timestamp_order r.log))) = sym e ∙ wrote.answer ∙ rw l in absurd (cc)
        go false l =
            let x = room_refused s b r.log r.passes (leb-false _ _ l) in
            subst (λ (x : List ℕ). OrderIs s b (Err Refusal-as-NoRoom) x) (sym (wrote.bytes ∙ rw l)) x

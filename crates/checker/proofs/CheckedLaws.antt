-- What checking a read log answers, from what its parts ensure: the test of 28 over the map is the log's, the ranks are those of the order's lists, and the
-- verdict on the graph is the answer's.
-- Assumes nothing.
use Prim.Native.Nat.{ℕ, ◌*◌, ◌≤◌, ◌<◌}
use native.Mathlib.Omega.{arith}
use mathlib.Core.Path.{◌≡◌, refl, sym, ap, ◌∙◌}
use mathlib.Core.List.{List}
use mathlib.Core.Bool.{Bool, true, false}
use lib.ListN.{length, get_or, replicate, length-replicate, get_or-replicate}
use Rattle.numbers.specs.Numbers.{items, max_committed}
use Rattle.log_format.specs.Bytes.{Bytes, stamp_bytes, splice}
use Rattle.history_rules.specs.Held.{written_in}
use Rattle.index.specs.Index.{table_of}
use Rattle.history.specs.Reads.{ReadLog}
use Rattle.graph_theory.specs.Verdict.{Verdict, accepted, cycle, stamps_of}
use Rattle.serial_theory.specs.Judged.{verdict}
use Rattle.order_rules.specs.Fields.{vs_of}
use Rattle.order_rules.specs.Reading.{fields_of}
use Rattle.order_rules.specs.Right.{right_order}
use Rattle.order_rules.proofs.TableLaws.{right_held}
use Rattle.order_rules.proofs.RightLaws.{passes_order}
use Rattle.version_order.specs.Judging.{Ranked as Judged-as-Ranked}
use Rattle.drawing.specs.Drawing.{Tables}
use Rattle.graph.specs.Answer.{Answered, found_of}
use Rattle.graph_theory.specs.declared.Verdict.{Verdict as Counted}
use Rattle.checker_rules.specs.Answers.{CheckIs, judged, answer_for, checked_of, stamps_for}
use Rattle.std.specs.Prelude.{Ok, Err}
use lib.Seq.{take-length}
use Rattle.serial_theory.specs.Judged.{committed}
use Rattle.checker_rules.specs.declared.Refusal.TheVariants.{BadOrder, NoRoom}
use Rattle.checker_rules.proofs.CheckLaws.{order_refused, room_refused, judged-answer}
use Rattle.checker.specs.Reads.{GraphIs}
use Rattle.checker.proofs.RankedLaws.{ranked}

said_is : (v : Verdict) → Ok (found_of v) ≡ checked_of (judged v)
said_is (accepted o) = refl
said_is (cycle c) = refl

stamps_are : (v : Verdict) → stamps_of v ≡ stamps_for (judged v)
stamps_are (accepted o) = refl
stamps_are (cycle c) = refl

-- the buffer with the verdict's stamps and what the graph answered are the checker's answer
answered_is : (s order b : List ℕ) (v : Verdict) (f : Counted) (b' : List ℕ) → answer_for s order (length b) ≡ judged v → Answered v b b' f
    → CheckIs s order b (Ok f) b'
answered_is s order b v f b' e a = record {
  answer = ap Ok a.found ∙ said_is v ∙ rw e;
  bytes = a.bytes ∙ ap (λ (l : List ℕ). splice b 0 (stamp_bytes l)) (stamps_are v) ∙ rw e;
}

-- the ranks before the order is judged: zeros, enough for every committed transaction and item
pub blank_ranks : {count : ℕ} → count ≤ max_committed
    → (count * items ≤ length (replicate {A = ℕ} (max_committed * items) 0))
    × ((p : ℕ) → p < count * items → get_or {A = ℕ} (replicate (max_committed * items) 0) p 0 ≡ 0)
blank_ranks {count} f =
    (omega (arith, length-replicate {A = ℕ} (max_committed * items) 0), λ p h. get_or-replicate {A = ℕ} (max_committed * items) p 0 0 (omega arith))

module _ {s m nodes : List ℕ} (r : ReadLog s m nodes (length nodes)) where
  -- the tables that drawing takes
  pub tables : {rank : List ℕ} → length rank ≡ max_committed * items → Tables nodes rank (length nodes)
  tables k = let f = r.few in record { few = f; within = r.within; rising = r.rising; ranks = omega arith }

  module _ {order rank : List ℕ} {q : Bool} (k : Judged-as-Ranked (written_in (table_of m)) nodes order q rank) where
    right_is : q ≡ right_order r.log order
    right_is = let f : nodes ≡ committed r.log = rw take-length at r.first in k.answer ∙ rw f (right_held r.log (table_of m) r.holds order)

    pub order_wrong : {b : List ℕ} → q ≡ false → CheckIs s order b (Err BadOrder) b
    order_wrong {b} e = order_refused s order b r.log r.passes (sym right_is ∙ e)

    pub no_room_left : {b : List ℕ} → q ≡ true → length b < 4 * length nodes → CheckIs s order b (Err NoRoom) b
    no_room_left {b} e l = room_refused s order b r.log r.passes (sym right_is ∙ e) (omega (arith, r.number, l))

    -- the graph's verdict is the checker's
    pub checked : Bytes order → q ≡ true → {b : List ℕ} → 4 * length nodes ≤ length b → {f : Counted} {b' : List ℕ}
        → GraphIs s nodes rank (length nodes) b f b' → CheckIs s order b (Ok f) b'
    checked by e {b} l {f} {b'} g =
        let t : right_order r.log order ≡ true = sym right_is ∙ e in
        let vo = passes_order r.log r.well order by t in
        let k' = ranked r.log (vs_of (fields_of order)) nodes rank (length nodes) r.within r.first (rw (take-length nodes) (k.ranks e)) in
        let j = judged-answer s order b r.log r.passes t (omega (arith, r.number, l)) in
        let a = g.answered r.log (vs_of (fields_of order)) r.passes vo k' in
        answered_is s order b (verdict r.log (vs_of (fields_of order))) f b' j a

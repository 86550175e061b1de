-- What holds of each answer that can be given holds of the one that is: a refusal of the history, 28, 29, or a verdict on a well-formed log, with all
-- that is said of it. From that, the stamps written: they have room, there are at most 256, and each fits 4 bytes.
-- Assumes nothing.
use Prim.Native.Nat.{ℕ, ◌*◌, ◌^◌, ◌≤◌, ◌<◌}
use native.Mathlib.Omega.{arith}
use mathlib.Core.Path.{◌≡◌, refl, subst}
use mathlib.Core.List.{List}
use mathlib.Core.Bool.{Bool, true, false, cond}
use lib.Dec.{ltb}
use lib.ListN.{length}
use borrow.Author.Tests.{ltb-false}
use Rattle.lists.specs.Member.{◌∈◌}
use Rattle.lists.proofs.OrderLaws.{in_nil}
use Rattle.log_format.specs.Bytes.{Bytes}
use Rattle.log_format.specs.Events.{Event}
use Rattle.log_format.specs.Told.{Done}
use Rattle.log_format.proofs.WholeLaws.{read_good}
use Rattle.history_rules.specs.WellFormed.{most_committed, count_commits, WellFormed}
use Rattle.history_rules.specs.History.{History, passed, refused, history_of}
use Rattle.history_rules.proofs.HistoryLaws.{passed_well}
use Rattle.graph_theory.specs.Verdict.{Verdict, accepted, cycle}
use Rattle.serial_theory.specs.Judged.{verdict, Judged, Accepted, Cyclic}
use Rattle.serial_theory.proofs.JudgedLaws.{checked_verdict}
use Rattle.order_rules.specs.Fields.{vs_of}
use Rattle.order_rules.specs.Reading.{fields_of}
use Rattle.order_rules.specs.Right.{right_order}
use Rattle.order_rules.proofs.RightLaws.{passes_order}
use Rattle.order_rules.proofs.VersionLaws.{stamps_fit}
use Rattle.checker_rules.specs.Answers.{Answer, no, judged, answer_by, answer_for, stamps_for}

-- a log that was read is judged with room for each committed transaction, and its stamps fit 4 bytes
pub record Judging (log : List ℕ) (have : ℕ) (es : List Event) : Type 0 where
  pub passes : history_of log ≡ passed es
  pub room : 4 * count_commits es ≤ have
  pub fit : (t : ℕ) → Done t es → t < 2 ^ 32

module _ (log order : List ℕ) (bl : Bytes log) (bo : Bytes order) (room : ℕ) where
  module _ (Q : Answer → Type 0)
      (q21-27 : (c p : ℕ) → history_of log ≡ refused c p → Q (no c p))
      (q28 : Q (no 28 0))
      (q29 : Q (no 29 0))
      (q0 : (es : List Event) (vs : ℕ → List ℕ) → WellFormed es → Judging log room es → (o : List ℕ) → Accepted es vs o → Q (judged (accepted o)))
      (q30 : (es : List Event) (vs : ℕ → List ℕ) → WellFormed es → Judging log room es → (c : List ℕ) → Cyclic es vs c → Q (judged (cycle c))) where
    on_verdict : (es : List Event) (vs : ℕ → List ℕ) → WellFormed es → Judging log room es → (v : Verdict) → Judged es vs v → Q (judged v)
    on_verdict es vs w m (accepted o) j = q0 es vs w m o j
    on_verdict es vs w m (cycle c) j = q30 es vs w m c j

    by_history : (h : History) → history_of log ≡ h → Q (answer_by order room h)
    by_history (refused c p) e = q21-27 c p e
    by_history (passed es) e = go (right_order es order) refl (ltb room (4 * count_commits es)) refl
      where
        well : WellFormed es
        well = (passed_well log bl es e).3

        fit : (t : ℕ) → Done t es → t < 2 ^ 32
        fit t d = let p = passed_well log bl es e in stamps_fit p.0 (read_good log bl p.0 p.1) t (subst (Done t) p.2 d)

        judging : 4 * count_commits es ≤ room → Judging log room es
        judging l = record { passes = e; room = l; fit = fit }

        go : (b : Bool) → right_order es order ≡ b → (t : Bool) → ltb room (4 * count_commits es) ≡ t
            → Q (cond b (cond t (no 29 0) (judged (verdict es (vs_of (fields_of order))))) (no 28 0))
        go true r true f = q29
        go true r false f =
            let vs = vs_of (fields_of order) in
            on_verdict es vs well (judging (ltb-false _ _ f)) (verdict es vs) (checked_verdict es vs well (passes_order es well order bo r)).0
        go false r t f = q28

    pub answer_each : Q (answer_for log order room)
    unfolding answer_for
    answer_each = by_history (history_of log) refl

  -- ---- the stamps written

  -- there is room for them
  pub stamps_room : 4 * length (stamps_for (answer_for log order room)) ≤ room
  stamps_room = answer_each (λ (a : Answer). 4 * length (stamps_for a) ≤ room) (λ c p e. omega arith) (omega arith) (omega arith)
      (λ es vs w m o j. let n = j.number in let r = m.room in omega arith) (λ es vs w m c j. let n = j.number in let r = m.room in omega arith)

  -- at most 256
  pub stamps_few : length (stamps_for (answer_for log order room)) ≤ most_committed
  stamps_few = answer_each (λ (a : Answer). length (stamps_for a) ≤ most_committed) (λ c p e. omega arith) (omega arith) (omega arith)
      (λ es vs w m o j. let n = j.number in let f = w.few in omega arith) (λ es vs w m c j. let n = j.number in let f = w.few in omega arith)

  -- each fits 4 bytes
  pub stamps_small : (k : ℕ) → k ∈ stamps_for (answer_for log order room) → k < 2 ^ 32
  stamps_small = answer_each (λ (a : Answer). (k : ℕ) → k ∈ stamps_for a → k < 2 ^ 32) (λ c p e k m. in_nil m) (λ k m. in_nil m) (λ k m. in_nil m)
      (λ es vs w m o j k i. m.fit k (j.serial.lists.only k i)) (λ es vs w m c j k i. m.fit k (j.nodes k i))

-- Demand 3 does not hold emptily. Runs of the reply table are runs of calls, so any number of transactions commit for which there is room; a run with
-- edges is computed; and case A's log, which no order makes serial, is accepted under no version order, for what is accepted is serial, and so is
-- left by no calls.
-- Assumes nothing.
use Prim.Native.Nat.{ℕ, zero, suc, ◌+◌, ◌*◌, ◌≤◌, ◌<◌, ◌^◌}
use native.Mathlib.Omega.{arith}
use mathlib.Core.Path.{◌≡◌, refl, ap, ◌∙◌, subst}
use mathlib.Core.List.Memᴰ
use mathlib.Core.List.{List, [], ◌∷◌, reverse, reverse_aux}
use mathlib.Core.Logic.{◌≢◌}
use lib.ListN.{length}
use Rattle.lists.specs.Member.{◌∈◌}
use Rattle.lists.proofs.OrderLaws.{in_nil}
use Rattle.log_format.specs.Whole.{max_log}
use Rattle.log_format.specs.Events.{Event}
use Rattle.scheduler_rules.specs.Model.{start}
use Rattle.scheduler_rules.specs.Run.{play}
use Rattle.scheduler_rules.specs.declared.Op.{Op}
use Rattle.scheduler.specs.declared.State.{State}
use Rattle.scheduler.specs.Calls.{room_of}
use Rattle.scheduler_laws.specs.Reach.{Fits32, Reach}
use Rattle.history_rules.specs.WellFormed.{count_commits}
use Rattle.graph_theory.specs.Verdict.{Verdict, accepted, cycle, Accepts}
use Rattle.serial_theory.specs.Edges.{VersionOrder}
use Rattle.serial_theory.specs.Judged.{committed, verdict, Judged}
use Rattle.serial_theory.specs.Cases.{log_a}
use Rattle.serial_theory.proofs.RegularLaws.{regular}
use Rattle.serial_theory.proofs.CommittedLaws.{committed-number}
use Rattle.serial_theory.proofs.JudgedLaws.{verdict-judged}
use Rattle.serial_theory.proofs.CaseA.{case_a}
use Rattle.end_to_end.specs.Demand3.{told, InTimestampOrder}
use Rattle.end_to_end.specs.NotEmptily.{Leaves, LeavesCommitted, out_of_turn, out_of_turn_log, NotEmptily}
use Rattle.end_to_end.proofs.Computed.{out_of_turn_lem, A_cycle}
use Rattle.end_to_end.proofs.Calls.{any_run, turns, turns_left}
use Rattle.end_to_end.proofs.Demand3Laws.{demand3}

-- ---- any number

-- as many commit in a log read backwards
count_back : (l r : List Event) → count_commits (reverse_aux l r) ≡ count_commits l + count_commits r
count_back [] r = omega arith
count_back (e ∷ l) r = omega (arith, count_back l (e ∷ r))

count_turns : (n : ℕ) → count_commits (turns n) ≡ n
count_turns zero = refl
count_turns (suc n) = omega (arith, count_turns n)

any-number : (n : ℕ) (b₀ : List ℕ) → 4 + 14 * n ≤ length b₀ → 4 + 14 * n ≤ max_log → LeavesCommitted b₀ n
any-number n b₀ h l =
    let v : Leaves b₀ (reverse (turns n)) = turns_left b₀ n h l in
    let t = subst InTimestampOrder v.tells (demand3 v.reach).ordered in
    record { log = reverse (turns n); leaves = v; number = omega (arith, committed-number [] (reverse (turns n)) t.regular.right, count_back (turns n) [], count_turns n) }

-- ---- a run with edges

-- operations whose numbers are small in all are small each
abbrev weight : List Op → ℕ
weight [] = 0
weight (op ∷ ops) = op.kind + (op.stamp.0 + (op.item + (op.value + weight ops)))

light : (ops : List Op) → weight ops < 2 ^ 32 → (op : Op) → op ∈ ops → Fits32 op
light [] h op m = in_nil m
light (p ∷ ops) h op (Memᴰ.head e) = rw e (record { kind = omega arith; stamp = omega arith; item = omega arith; value = omega arith })
light (p ∷ ops) h op (Memᴰ.tail m) = light ops (omega arith) op m

with_edges : (b₀ : List ℕ) → max_log ≤ length b₀ → Leaves b₀ out_of_turn_log
with_edges b₀ h =
    let e : room_of b₀ ≡ max_log = omega arith in
    subst (Leaves b₀) (ap (λ (n : ℕ). (play n out_of_turn start).written) e ∙ out_of_turn_lem.written) (any_run b₀ (omega arith) out_of_turn (light out_of_turn (omega arith)))

-- ---- case A

module _ (vs : ℕ → List ℕ) (vo : VersionOrder log_a vs) where
  refuses : (v : Verdict) → Judged log_a vs v → ¬ Accepts v
  refuses (accepted o) s a = case_a.not_serial o s.serial
  refuses (cycle c) s a = a

  A_not_accepted : ¬ Accepts (verdict log_a vs)
  A_not_accepted = refuses (verdict log_a vs) (verdict-judged log_a vs (regular log_a case_a.well_formed) vo)

A_not_left : (b₀ : List ℕ) (s : State) (b : List ℕ) (es : List Event) → Reach b₀ s b es → told s b ≢ log_a
A_not_left b₀ s b es r e = case_a.not_serial (committed log_a) (subst InTimestampOrder e (demand3 r).ordered).serial

pub not_emptily : NotEmptily
not_emptily = record {
  any_run = any_run;
  any-number = any-number;
  with_edges = with_edges;
  A_not_serial = case_a.not_serial;
  A_not_accepted = A_not_accepted;
  A_cycle = A_cycle;
  A_not_left = A_not_left;
}

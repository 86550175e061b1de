-- The page's cases A to J hold, over what the contracts cite. The checker's answers for the bytes of A to F are the verdicts that the theory has. A run of
-- calls is one of the reply table, of which the rules have G to J; each later begin of G meets a model that calls led to.
-- Assumes nothing.
use Prim.Native.Nat.{ℕ, ◌≤◌}
use native.Mathlib.Omega.{arith}
use native.Mathlib.Decide.{ℕ_discrete, dec_le, dec_lt}
use mathlib.Core.Path.{◌≡◌, refl, sym, ap, ◌∙◌}
use mathlib.Core.List.{List, [], ◌∷◌}
use Rattle.lists.specs.Choice.{pick, both, either, isnt}
use Rattle.lists.specs.Member.{memb, any?}
use Rattle.scheduler_rules.specs.Model.{start, below, put}
use Rattle.scheduler_rules.specs.Table.{Outcome, Good, good?, due, fine, table}
use Rattle.scheduler_rules.specs.Run.{play, Leads, here, begin, read, reply}
use Rattle.scheduler_rules.specs.declared.Op.{Op}
use Rattle.scheduler_rules.specs.declared.Reply.{Reply}
use Rattle.scheduler_rules.proofs.PageRun.{cases_g_to_j}
use Rattle.scheduler_rules.proofs.RunLaws.{play_leads}
use Rattle.scheduler.specs.declared.State.{State}
use Rattle.scheduler.specs.State.{abs, Full}
use Rattle.scheduler.specs.Calls.{room_of, reply_to}
use Rattle.scheduler_laws.specs.InTurn.{calls}
use Rattle.scheduler_laws.proofs.InTurnLaws.{plays, reply_is}
use Rattle.serial_theory.specs.Cases.{log_a, log_b, log_c, log_e}
use Rattle.serial_theory.proofs.Cases.{cases_a_to_f}
use Rattle.cases.specs.PageTable.{PageTable}
use Rattle.cases.proofs.JudgesLaws.{bases, placed_one, judges_one, placed_two, judges_two, header_alone}
use Rattle.cases.proofs.OnlyLaws.{none_single, one_single, order_single, only_order}
use Rattle.cases.proofs.FreshLaws.{whole, answers_in, answers_from}
use Rattle.cases.proofs.LateLaws.{late_in_41, kept_in_41, late_in_42, each_7, each_8}

-- ---- how far the runs fill the log

record Filled : Type 0 where
  begun : (play 65536 (begin 4294967295 ∷ []) start).left.used ≡ 11
  read_63 : (play 65536 (begin 1 ∷ read 1 63 ∷ []) start).left.used ≡ 27
  read_64 : (play 65536 (begin 1 ∷ read 1 64 ∷ []) start).left.used ≡ 11

filled : Filled
unfolding pick table fine due good? memb both either isnt any? below put dec_le dec_lt ℕ_discrete
filled = record { begun = refl; read_63 = refl; read_64 = refl }

-- ---- G

module _ (s : State) (b : List ℕ) (f : Full s) where
  abbrev top : Op
  top = begin 4294967295

  later : (reply_to s top b).code ≡ 0 → (ops : List Op) (op : Op) → op.kind ≡ 1 → op.stamp.0 ≤ 4294967295 → Good op
      → let z = calls (top ∷ ops) s b in reply_to z.state op z.buffer ≡ reply 3 0 0
  later e ops op k low g =
      let h = whole s top b (omega arith) in
      let t = plays (top ∷ ops) s b f h in
      let z = calls (top ∷ ops) s b in
      let begun : (table (room_of b) top (abs s)).reply.code ≡ 0 = ap (λ (r : Reply). r.code) (sym (reply_is s top b h)) ∙ e in
      let led : Leads (table (room_of b) top (abs s)).next (abs z.state) = rw t.means (play_leads (room_of b) ops here) in
      reply_is z.state op z.buffer t.undamaged
      ∙ ap (λ (o : Outcome). o.reply) (cases_g_to_j.G_later (room_of b) (abs s) begun led (room_of z.buffer) op k low g)

-- ---- the table

pub page_table : PageTable
page_table = record {
  A = λ x y it. judges_two x y it log_a 2 1 _ bases.A cases_a_to_f.A;
  B = λ x y it. judges_one x y it log_b 1 [] _ bases.B (omega arith) cases_a_to_f.B;
  C = λ x y it. judges_one x y it log_c 1 (2 ∷ []) _ bases.C (omega arith) cases_a_to_f.C;
  D = λ x y it. judges_one x y it log_c 2 (1 ∷ []) _ bases.D (omega arith) cases_a_to_f.D;
  E = λ x y it. judges_two x y it log_e 2 2 _ bases.E cases_a_to_f.E;
  A-order = λ x y it. only_order x y it log_a _ _ bases.A (placed_two x y it log_a 2 1 bases.A) (order_single _ _ (one_single 2) (one_single 1));
  B-order = λ x y it. only_order x y it log_b _ _ bases.B (placed_one x y it log_b 1 [] bases.B (omega arith)) (order_single _ _ (one_single 1) none_single);
  E-order = λ x y it. only_order x y it log_e _ _ bases.E (placed_two x y it log_e 2 2 bases.E) (order_single _ _ (one_single 2) (one_single 2));
  F = header_alone _ cases_a_to_f.F;
  G_begins = answers_from 11 (begin 4294967295 ∷ []) _ (omega arith) (omega (arith, filled.begun)) (omega arith) cases_g_to_j.G_begins;
  G_later = later;
  H_63 = answers_from 27 (begin 1 ∷ read 1 63 ∷ []) _ (omega arith) (omega (arith, filled.read_63)) (omega arith) cases_g_to_j.H_63;
  H_64 = answers_from 11 (begin 1 ∷ read 1 64 ∷ []) _ (omega arith) (omega (arith, filled.read_64)) (omega arith) cases_g_to_j.H_64;
  I = answers_in 11 (begin 1 ∷ begin 2 ∷ []) _ (omega arith) (omega arith) cases_g_to_j.I;
  J_7 = late_in_41;
  J_7_kept = kept_in_41;
  J_8 = late_in_42;
  J_each_7 = λ s op b c f e. each_7 s op b f e c;
  J_each_8 = λ s op b c f e. each_8 s op b f e c;
}

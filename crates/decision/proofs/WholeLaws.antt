-- The damage check passes exactly where the state is the picture of a sound model within the room: each of its tests is one part of that.
-- Assumes nothing.
use Prim.Native.Nat.{ℕ, ◌≤◌}
use native.Mathlib.Omega.{arith}
use mathlib.Core.Path.{◌≡◌, refl, sym, ap, subst}
use mathlib.Core.Bool.{Bool, true, false}
use mathlib.Core.List.{List}
use lib.ListN.{length}
use borrow.Author.Tests.{leb-true, le-leb}
use Rattle.std.specs.Prelude.{Result, Err}
use Rattle.log_format.specs.Whole.{max_log}
use Rattle.scheduler_rules.specs.Model.{Model, max_open}
use Rattle.scheduler_rules.specs.Table.{Good}
use Rattle.scheduler_rules.specs.declared.Op.{Op}
use Rattle.open_table.specs.Open.{stamps_of}
use Rattle.open_table.specs.declared.OpenTable.{OpenTable}
use Rattle.open_table.specs.Intact.{is_intact}
use Rattle.open_table.proofs.IntactLaws.{intact_is, intact_table, and_both, and_parts}
use Rattle.version_columns.specs.Columns.{versions_of}
use Rattle.version_columns.specs.declared.Versions.{Versions}
use Rattle.version_columns.proofs.RowLaws.{Wide}
use Rattle.damage.specs.Damage.{marks_sound, columns_sound, Undamaged}
use Rattle.damage.proofs.DamageLaws.{columns_are, columns_of_lem, marks_are, marks_of}
use Rattle.decision.specs.declared.Core.{Core}
use Rattle.decision.specs.declared.Kind.{Kind}
use Rattle.decision.specs.declared.Plan.{Plan}
use Rattle.decision.specs.declared.Refusal.{Refusal}
use Rattle.decision.specs.declared.Refusal.TheVariants.{Damaged}
use Rattle.decision.specs.Kind.{number_of}
use Rattle.decision.specs.Decided.{undamaged_in, Whole, CanDecide, Decided, PlanIs}

-- a damaged state, and one that is not
pub plan_damaged : {room : ℕ} {op : Op} {m : Model} {b : Bool} → b ≡ false → PlanIs room op b m (Err Damaged)
plan_damaged {b = b} e = record { damaged = λ _. refl; decided = λ h. cc }

pub plan_decided : {room : ℕ} {op : Op} {m : Model} {b : Bool} {r : Result Plan Refusal} → b ≡ true → Decided room op m r → PlanIs room op b m r
plan_decided e d = record { damaged = λ h. cc; decided = λ _. d }

module _ (c : Core) (room : ℕ) (marks : List ℕ) (t : Versions) where
  pub checked_whole : length c.live.stamps ≡ max_open → length marks ≡ 64 → (columns_sound t c.last.0 ≡ true → Undamaged t c.last.0) → room ≤ max_log
      → undamaged_in c room marks t ≡ true → Whole c room marks t
  unfolding undamaged_in
  checked_whole o k f small h =
      let p₄ = and_parts _ _ h in
      let p₃ = and_parts _ _ p₄.0 in
      let p₂ = and_parts _ _ p₃.0 in
      let p₁ = and_parts _ _ p₂.0 in
      let used : 4 ≤ c.used.0 = leb-true _ _ p₁.0 in
      let within : c.used.0 ≤ room = leb-true _ _ p₁.1 in
      let i = intact_is c.live c.last.0 o p₂.1 in
      let v = f p₄.1 in
      let n : c.live.count ≡ length (stamps_of c.live) = ap (λ (u : OpenTable). u.count) i.padded.is in
      let l : t.count ≡ length (versions_of t) = ap (λ (u : Versions). u.count) v.is in
      record {
        sound = record {
          opens = omega (arith, i.padded.within);
          rising = i.rising;
          opened = i.begun;
          holds = omega (arith, v.within);
          sorted = v.sorted;
          proper = v.proper;
          wide = k;
          marked = marks_are marks c.last.0 p₃.1;
          header = used;
          short = omega arith;
        };
        table = i.padded.is;
        columns = v.is;
        within = within;
      }

  pub undamaged_whole : length c.live.stamps ≡ max_open → length marks ≡ 64 → Wide t → room ≤ max_log → undamaged_in c room marks t ≡ true → Whole c room marks t
  undamaged_whole o k w = checked_whole o k (columns_are t c.last.0 w)

  pub whole_undamaged : Whole c room marks t → undamaged_in c room marks t ≡ true
  unfolding undamaged_in
  whole_undamaged w =
      let s = w.sound in
      let l : t.count ≡ length (versions_of t) = ap (λ (u : Versions). u.count) w.columns in
      let o : is_intact c.live c.last.0 ≡ true = subst (λ (u : OpenTable). is_intact u c.last.0 ≡ true) (sym w.table) (intact_table (stamps_of c.live) c.last.0 s.opens s.rising s.opened) in
      let v : columns_sound t c.last.0 ≡ true = columns_of_lem t c.last.0 (record { is = w.columns; within = omega (arith, s.holds); sorted = s.sorted; proper = s.proper }) in
      let k : marks_sound marks c.last.0 ≡ true = marks_of marks c.last.0 s.marked in
      and_both _ _ (and_both _ _ (and_both _ _ (and_both _ _ (le-leb _ _ s.header) (le-leb _ _ w.within)) o) k) v

  -- what that gives the code
  pub can_decide : {kind : Kind} {op : Op} → Whole c room marks t → Good op → number_of kind ≡ op.kind → CanDecide c kind op room marks t
  can_decide w g k = record {
    asked = k;
    opens = ap (λ (u : OpenTable). u.count) w.table;
    holds = ap (λ (u : Versions). u.count) w.columns;
    deciding = record { sound = w.sound; good = g; within = w.within };
  }

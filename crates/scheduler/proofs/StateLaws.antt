-- A state passes the damage check exactly where it is the picture of a sound model within the room; on such states the meaning loses nothing.
-- Assumes nothing.
use Prim.Native.Nat.{ℕ, ◌≤◌}
use mathlib.Core.Path.{◌≡◌, refl, sym, ap, subst}
use mathlib.Core.Bool.{true}
use Rattle.log_format.specs.Whole.{max_log}
use Rattle.scheduler_rules.specs.Model.{Model}
use Rattle.scheduler_rules.specs.Sound.{Sound}
use Rattle.open_table.proofs.TableLaws.{stamps_of_table}
use Rattle.version_columns.proofs.RowLaws.{Wide, versions_columns}
use Rattle.decision.specs.declared.Core.{Core}
use Rattle.decision.specs.Decided.{Whole}
use Rattle.decision.proofs.WholeLaws.{undamaged_whole, whole_undamaged}
use Rattle.scheduler.specs.declared.State.{State}
use Rattle.scheduler.specs.State.{abs, state_of, undamaged, Undamaged, Full}

-- states with the same parts
pub state_eq : {s t : State} → s.core ≡ t.core → s.marks ≡ t.marks → s.versions ≡ t.versions → s ≡ t
state_eq p q r = λ i. record { core = p i; marks = q i; versions = r i }

pub core_eq : {c d : Core} → c.last ≡ d.last → c.used ≡ d.used → c.live ≡ d.live → c ≡ d
core_eq p q r = λ i. record { last = p i; used = q i; live = r i }

model_eq : {a b : Model} → a.last ≡ b.last → a.live ≡ b.live → a.held ≡ b.held → a.marks ≡ b.marks → a.used ≡ b.used → a ≡ b
model_eq p q r s t = λ i. record { last = p i; live = q i; held = r i; marks = s i; used = t i }

-- the state that a model makes means that model
pub abs_state : (m : Model) → abs (state_of m) ≡ m
abs_state m = model_eq refl (stamps_of_table m.live) (versions_columns m.held) refl refl

module _ (s : State) (room : ℕ) where
  -- the whole of the small part, the marks and the versions is the whole state
  pub whole_state : Whole s.core room s.marks s.versions → Undamaged s room
  whole_state r = record { sound = r.sound; is = state_eq (core_eq refl refl r.table) refl r.columns; within = r.within }

  pub undamaged_is : Full s → room ≤ max_log → undamaged s room ≡ true → Undamaged s room
  undamaged_is f small h =
      let w : Wide s.versions = record { items = f.items; stamps = f.stamps; values = f.values; marks = f.readers } in
      whole_state (undamaged_whole s.core room s.marks s.versions f.opens f.marks w small h)

  pub is_undamaged : Undamaged s room → undamaged s room ≡ true
  is_undamaged u =
      whole_undamaged s.core room s.marks s.versions (record {
        sound = u.sound;
        table = ap (λ (t : State). t.core.live) u.is;
        columns = ap (λ (t : State). t.versions) u.is;
        within = u.within;
      })

-- a sound model makes an undamaged state
pub sound_undamaged : (m : Model) (room : ℕ) → Sound m → m.used ≤ room → undamaged (state_of m) room ≡ true
sound_undamaged m room z h = is_undamaged (state_of m) room (record { sound = subst Sound (sym (abs_state m)) z; is = ap state_of (sym (abs_state m)); within = h })

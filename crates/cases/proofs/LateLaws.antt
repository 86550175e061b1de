-- Case J: a late write takes 8 bytes. In 41 bytes, of which 34 are used, it is 10, and code 10 changes nothing; in 42 it is 8. And so of any late write, since
-- the room decides only row 10.
-- Assumes nothing.
use Prim.Native.Nat.{ℕ, ◌+◌, ◌≤◌}
use native.Mathlib.Omega.{arith}
use native.Mathlib.Decide.{ℕ_discrete, dec_le, dec_lt}
use mathlib.Core.Path.{◌≡◌, refl, sym, ap, ◌∙◌}
use mathlib.Core.Bool.{true}
use mathlib.Core.List.{List, [], ◌∷◌}
use lib.ListN.{length}
use Rattle.lists.specs.Choice.{pick, both, either, isnt}
use Rattle.lists.specs.Member.{◌∈◌, memb, any?}
use Rattle.scheduler_rules.specs.Model.{Model, start, below, put}
use Rattle.scheduler_rules.specs.Table.{Outcome, good?, due, fine, table}
use Rattle.scheduler_rules.specs.Run.{play, reply, ok}
use Rattle.scheduler_rules.specs.PageCases.{late_run}
use Rattle.scheduler_rules.specs.declared.Op.{Op}
use Rattle.scheduler_rules.specs.declared.Reply.{Reply}
use Rattle.scheduler_rules.proofs.PageRun.{cases_g_to_j}
use Rattle.scheduler_rules.proofs.RoomLaws.{Elsewhere, late_elsewhere}
use Rattle.scheduler.specs.declared.State.{State}
use Rattle.scheduler.specs.State.{abs, undamaged, Full}
use Rattle.scheduler.specs.Calls.{room_of, reply_to, state_after, log_after}
use Rattle.scheduler.proofs.StateLaws.{undamaged_is, is_undamaged}
use Rattle.scheduler_laws.specs.Reach.{used_of}
use Rattle.scheduler_laws.specs.InTurn.{calls}
use Rattle.scheduler_laws.proofs.OneCall.{refusals_change_nothing}
use Rattle.scheduler_laws.proofs.InTurnLaws.{reply_is}
use Rattle.cases.specs.PageTable.{FromFresh, read_above, late, LateWith, LateKeeps}
use Rattle.cases.proofs.FreshLaws.{whole, starts}

-- 34 bytes are used before it
record Before : Type 0 where
  in_41 : (play 41 read_above start).left.used ≡ 34
  in_42 : (play 42 read_above start).left.used ≡ 34

before : Before
unfolding pick table fine due good? memb both either isnt any? below put dec_le dec_lt ℕ_discrete
before = record { in_41 = refl; in_42 = refl }

-- the last reply
abbrev last_or : Reply → List Reply → Reply
last_or r [] = r
last_or r (a ∷ rs) = last_or a rs

late_with : (n left : ℕ) (r : Reply) (live : List ℕ) → 4 ≤ n → n ≤ 65536 → (play n read_above start).left.used + left ≡ n → last_or ok (play n late_run start).replies ≡ r
    → (play n late_run start).left.live ≡ live → (b₀ : List ℕ) → length b₀ ≡ n → FromFresh b₀ read_above (LateWith left r live)
late_with n left r live h l u e o b₀ q c b w =
    let room : room_of b₀ ≡ n = omega arith in
    let t = starts b₀ (omega arith) w read_above in
    let v = starts b₀ (omega arith) w late_run in (
      t.reply,
      record {
        bytes = omega (arith, ap (λ (m : Model). m.used) t.means, ap (λ (k : ℕ). (play k read_above start).left.used) room, t.long);
        answer = ap (last_or ok) v.replies ∙ ap (λ (k : ℕ). last_or ok (play k late_run start).replies) room ∙ e;
        stay = ap (λ (m : Model). m.live) v.means ∙ ap (λ (k : ℕ). (play k late_run start).left.live) room ∙ o;
      },
    )

pub late_in_41 : (b₀ : List ℕ) → length b₀ ≡ 41 → FromFresh b₀ read_above (LateWith 7 (reply 10 0 0) (1 ∷ 2 ∷ []))
late_in_41 = late_with 41 7 (reply 10 0 0) (1 ∷ 2 ∷ []) (omega arith) (omega arith) (omega (arith, before.in_41)) (ap (last_or ok) cases_g_to_j.J_7) cases_g_to_j.J_7_open

pub late_in_42 : (b₀ : List ℕ) → length b₀ ≡ 42 → FromFresh b₀ read_above (LateWith 8 (reply 8 2 0) (2 ∷ []))
late_in_42 = late_with 42 8 (reply 8 2 0) (2 ∷ []) (omega arith) (omega arith) (omega (arith, before.in_42)) (ap (last_or ok) cases_g_to_j.J_8) cases_g_to_j.J_8_open

-- code 10 changes no state and no byte
pub kept_in_41 : (b₀ : List ℕ) → length b₀ ≡ 41 → FromFresh b₀ read_above LateKeeps
kept_in_41 b₀ q c b w =
    let t = starts b₀ (omega arith) w read_above in
    let z = calls read_above c.state b in
    let e : (reply_to z.state late z.buffer).code ≡ 10 = ap (λ (r : Reply). r.code) (late_in_41 b₀ q c b w).1.answer in
    let k = refusals_change_nothing z.state late z.buffer t.full (omega arith) (omega arith) in
    (t.reply, record { state = k.0; buffer = k.1 })

-- ---- any late write

module _ (s : State) (op : Op) (b : List ℕ) (f : Full s) (e : (reply_to s op b).code ≡ 8) where
  -- it was called in an undamaged state
  sound : undamaged s (room_of b) ≡ true
  sound = whole s op b (omega arith)

  module _ (c : List ℕ) (fits : used_of s ≤ room_of c) where
    here_too : undamaged s (room_of c) ≡ true
    here_too =
        let u = undamaged_is s (room_of b) f (omega arith) sound in
        is_undamaged s (room_of c) (record { sound = u.sound; is = u.is; within = fits })

    moved : Elsewhere (room_of c) op (abs s) (table (room_of b) op (abs s))
    moved = late_elsewhere (room_of b) op (abs s) (ap (λ (r : Reply). r.code) (sym (reply_is s op b sound)) ∙ e) (room_of c)

  pub each_7 : (c : List ℕ) → used_of s + 7 ≡ room_of c → (reply_to s op c ≡ reply 10 0 0) × (state_after s op c ≡ s) × (log_after s op c ≡ c) × (op.stamp.0 ∈ (abs s).live)
  each_7 c q =
      let m = moved c (omega arith) in
      let a : reply_to s op c ≡ reply 10 0 0 = reply_is s op c (here_too c (omega arith)) ∙ ap (λ (o : Outcome). o.reply) (m.tight (omega arith)) in
      let n : (reply_to s op c).code ≡ 10 = ap (λ (r : Reply). r.code) a in
      let k = refusals_change_nothing s op c f (omega arith) (omega arith) in
      (a, k.0, k.1, m.live)

  pub each_8 : (c : List ℕ) → used_of s + 8 ≡ room_of c → reply_to s op c ≡ reply_to s op b
  each_8 c q =
      let m = moved c (omega arith) in
      reply_is s op c (here_too c (omega arith)) ∙ ap (λ (o : Outcome). o.reply) (m.roomy (omega arith)) ∙ sym (reply_is s op b sound)

-- Calls after a fresh start are a run of the reply table from the start, with the room that the first buffer has; where the run does not fill that room, it
-- is the run with all of 65,536 bytes.
-- Assumes nothing.
use Prim.Native.Nat.{ℕ, ◌≤◌}
use native.Mathlib.Omega.{arith}
use mathlib.Core.Path.{◌≡◌, refl, sym, ap, ◌∙◌, subst}
use mathlib.Core.Bool.{Bool, true, false}
use mathlib.Core.Logic.{◌≢◌}
use mathlib.Core.List.{List, []}
use lib.ListN.{length}
use borrow.Author.Tests.{le-leb}
use Rattle.log_format.specs.Whole.{max_log}
use Rattle.scheduler_rules.specs.Model.{start}
use Rattle.scheduler_rules.specs.Table as rules
use Rattle.scheduler_rules.specs.Run.{Played, play, ok}
use Rattle.scheduler_rules.specs.declared.Op.{Op}
use Rattle.scheduler_rules.specs.declared.Reply.{Reply}
use Rattle.scheduler_rules.proofs.SoundLaws.{reached_sound}
use Rattle.scheduler_rules.proofs.RoomLaws.{play-fits}
use Rattle.scheduler.specs.declared.State.{State}
use Rattle.scheduler.specs.declared.Called.{Called}
use Rattle.scheduler.specs.State.{abs, state_of, undamaged, Full}
use Rattle.scheduler.specs.Calls.{room_of, reply_to, FreshIs}
use Rattle.scheduler.proofs.StateLaws.{abs_state}
use Rattle.scheduler_laws.specs.Reach.{Reach}
use Rattle.scheduler_laws.specs.InTurn.{calls}
use Rattle.scheduler_laws.proofs.OneCall.{one_is_damaged, full_state}
use Rattle.scheduler_laws.proofs.FromFresh.{fresh_reaches, never_damaged, length_is}
use Rattle.scheduler_laws.proofs.InTurnLaws.{plays}
use Rattle.cases.specs.PageTable.{Answers}

-- a state that answers another code than 1 is not damaged
pub whole : (s : State) (op : Op) (b : List ℕ) → (reply_to s op b).code ≢ 1 → undamaged s (room_of b) ≡ true
whole s op b n = go (undamaged s (room_of b)) refl
  where
    go : (t : Bool) → undamaged s (room_of b) ≡ t → undamaged s (room_of b) ≡ true
    go true h = h
    go false h = absurd (n ((one_is_damaged s op b).1 h))

-- what a fresh start and then these calls come to
pub record Starts (b₀ : List ℕ) (r : Called) (b : List ℕ) (ops : List Op) : Type 0 where
  pub reply : r.reply ≡ ok
  pub replies : (calls ops r.state b).replies ≡ (play (room_of b₀) ops start).replies
  pub means : abs (calls ops r.state b).state ≡ (play (room_of b₀) ops start).left
  pub full : Full (calls ops r.state b).state
  pub long : length (calls ops r.state b).buffer ≡ length b₀

module _ (b₀ : List ℕ) (long : 4 ≤ length b₀) {r : Called} {b : List ℕ} (w : FreshIs b₀ r b) where
  reply_is : r.reply ≡ ok
  reply_is = w.reply ∙ rw (le-leb 4 (length b₀) long)

  state_is : r.state ≡ state_of start
  state_is = w.state ∙ rw (le-leb 4 (length b₀) long)

  reach : Reach b₀ r.state b []
  reach = fresh_reaches w (ap (λ (p : Reply). p.code) reply_is)

  full : Full r.state
  full = subst Full (sym state_is) (full_state start (reached_sound rules.fresh))

  pub starts : (ops : List Op) → Starts b₀ r b ops
  starts ops =
      let t = plays ops r.state b full (never_damaged reach) in
      let n : room_of b ≡ room_of b₀ = rw (length_is reach) in
      let m : abs r.state ≡ start = ap abs state_is ∙ abs_state start in
      let e : play (room_of b) ops (abs r.state) ≡ play (room_of b₀) ops start = ap (λ (k : ℕ). play k ops (abs r.state)) n ∙ ap (play (room_of b₀) ops) m in
      record {
        reply = reply_is;
        replies = t.replies ∙ ap (λ (p : Played). p.replies) e;
        means = t.means ∙ ap (λ (p : Played). p.left) e;
        full = t.full;
        long = t.long ∙ length_is reach;
      }

-- ---- the replies, in a buffer of a given length and in any that is long enough

pub answers_in : (n : ℕ) (ops : List Op) (rs : List Reply) → 4 ≤ n → n ≤ max_log → (play n ops start).replies ≡ rs → (b₀ : List ℕ) → length b₀ ≡ n → Answers b₀ ops rs
answers_in n ops rs h l e b₀ q r b w =
    let t = starts b₀ (omega arith) w ops in
    let room : room_of b₀ ≡ n = omega arith in
    (t.reply, t.replies ∙ ap (λ (k : ℕ). (play k ops start).replies) room ∙ e)

pub answers_from : (n : ℕ) (ops : List Op) (rs : List Reply) → 4 ≤ n → (play 65536 ops start).left.used ≤ n → n ≤ 65536 → (play 65536 ops start).replies ≡ rs
    → (b₀ : List ℕ) → n ≤ length b₀ → Answers b₀ ops rs
answers_from n ops rs h u l e b₀ q r b w =
    let t = starts b₀ (omega arith) w ops in
    let same : play (room_of b₀) ops start ≡ play 65536 ops start = play-fits (room_of b₀) 65536 (omega arith) ops start (omega arith) in
    (t.reply, t.replies ∙ ap (λ (p : Played). p.replies) same ∙ e)

-- Calls in turn from an undamaged state are a run of the reply table from the model that it means: a call answers and leaves what the table says, damages
-- nothing, and keeps the buffer's length, so the next one has the same room. By recursion on the operations.
-- Assumes nothing.
use Prim.Native.Nat.{ℕ}
use mathlib.Core.Path.{◌≡◌, refl, sym, ap, ◌∙◌, subst}
use mathlib.Core.Bool.{true}
use mathlib.Core.List.Memᴰ
use mathlib.Core.List.{List, [], ◌∷◌, ◌++◌, reverse_aux, reverse_aux-append}
use lib.ListN.{length}
use Rattle.lists.specs.Member.{◌∈◌}
use Rattle.log_format.specs.Events.{Event}
use Rattle.scheduler_rules.specs.Table.{table}
use Rattle.scheduler_rules.specs.Run.{Played, play}
use Rattle.scheduler_rules.specs.declared.Op.{Op}
use Rattle.scheduler_rules.specs.declared.Reply.{Reply}
use Rattle.scheduler_rules.proofs.RunLaws.{one_event}
use Rattle.scheduler.specs.declared.State.{State}
use Rattle.scheduler.specs.State.{abs, state_of, undamaged, Full}
use Rattle.scheduler.specs.Calls.{room_of, reply_to, state_after, log_after}
use Rattle.scheduler.proofs.StateLaws.{abs_state}
use Rattle.scheduler_laws.specs.Reach.{Fits32, due_to, Reach, called}
use Rattle.scheduler_laws.specs.InTurn.{calls}
use Rattle.scheduler_laws.proofs.OneCall.{length-kept, undamaged_stays, full_stays}
use Rattle.scheduler_laws.proofs.FromFresh.{never_damaged}

-- ---- one call

module _ (s : State) (op : Op) (b : List ℕ) where
  -- the next call has the same room
  room_kept : room_of (log_after s op b) ≡ room_of b
  room_kept = rw (length-kept s op b)

  module _ (h : undamaged s (room_of b) ≡ true) where
    pub reply_is : reply_to s op b ≡ (table (room_of b) op (abs s)).reply
    reply_is = rw h

    pub events_are : due_to s op b ≡ (table (room_of b) op (abs s)).due
    events_are = rw h

    pub state_is : state_after s op b ≡ state_of (table (room_of b) op (abs s)).next
    state_is = rw h

    -- the state left means the table's next model
    means_next : abs (state_after s op b) ≡ (table (room_of b) op (abs s)).next
    means_next = ap abs state_is ∙ abs_state (table (room_of b) op (abs s)).next

    -- the rest of a run, from the state and with the room that the call leaves
    rest_is : (ops : List Op) → play (room_of (log_after s op b)) ops (abs (state_after s op b)) ≡ play (room_of b) ops (table (room_of b) op (abs s)).next
    rest_is ops = ap (λ (n : ℕ). play n ops (abs (state_after s op b))) room_kept ∙ ap (play (room_of b) ops) means_next

-- ---- calls in turn

-- what calls answer and leave is what the run of the table says
pub record Plays (ops : List Op) (s : State) (b : List ℕ) : Type 0 where
  pub replies : (calls ops s b).replies ≡ (play (room_of b) ops (abs s)).replies
  pub means : abs (calls ops s b).state ≡ (play (room_of b) ops (abs s)).left
  pub undamaged : undamaged (calls ops s b).state (room_of (calls ops s b).buffer) ≡ true
  pub full : Full (calls ops s b).state
  pub long : length (calls ops s b).buffer ≡ length b

pub plays : (ops : List Op) (s : State) (b : List ℕ) → Full s → undamaged s (room_of b) ≡ true → Plays ops s b
plays [] s b f h = record { replies = refl; means = refl; undamaged = h; full = f; long = refl }
plays (op ∷ ops) s b f h =
    let t = plays ops (state_after s op b) (log_after s op b) (full_stays s op b f) (undamaged_stays s op b f h) in
    let e = rest_is s op b h ops in
    record {
      replies = ap (λ (r : Reply). r ∷ (calls ops (state_after s op b) (log_after s op b)).replies) (reply_is s op b h)
          ∙ ap (λ (rs : List Reply). (table (room_of b) op (abs s)).reply ∷ rs) (t.replies ∙ ap (λ (p : Played). p.replies) e);
      means = t.means ∙ ap (λ (p : Played). p.left) e;
      undamaged = t.undamaged;
      full = t.full;
      long = t.long ∙ length-kept s op b;
    }

-- where calls from fresh have led, calls lead on; the events that they write come on top, newest first
pub calls_reach : (ops : List Op) → ((op : Op) → op ∈ ops → Fits32 op) → {b₀ : List ℕ} (s : State) (b : List ℕ) (es : List Event) → Reach b₀ s b es
    → Reach b₀ (calls ops s b).state (calls ops s b).buffer (reverse_aux (play (room_of b) ops (abs s)).written es)
calls_reach [] f s b es r = r
calls_reach (op ∷ ops) f {b₀} s b es r =
    let h = never_damaged r in
    let o = table (room_of b) op (abs s) in
    let rest = (play (room_of b) ops o.next).written in
    let s' = state_after s op b in
    let b' = log_after s op b in
    let t = calls_reach ops (λ p m. f p (Memᴰ.tail m)) s' b' (due_to s op b ++ es) (called s b es op (f op (Memᴰ.head refl)) r) in
    let q : reverse_aux (play (room_of b') ops (abs s')).written (due_to s op b ++ es) ≡ reverse_aux (o.due ++ rest) es =
    ap (λ (p : Played). reverse_aux p.written (due_to s op b ++ es)) (rest_is s op b h ops)
    ∙ ap (λ (ds : List Event). reverse_aux rest (ds ++ es)) (events_are s op b h)
    ∙ ap (reverse_aux rest) (sym (one_event (room_of b) op (abs s) es)) ∙ sym (reverse_aux-append o.due rest es) in
    subst (Reach b₀ (calls ops s' b').state (calls ops s' b').buffer) q t

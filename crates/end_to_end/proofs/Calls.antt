-- Runs of the reply table are runs of calls. From a state that a model makes a call is what the table says: such a state was never damaged, and the
-- buffer keeps its length. So a run of operations is one of calls, and n transactions begun and committed in turn are reached, 14 bytes each.
-- Assumes nothing.
use Prim.Native.Nat.{ℕ, zero, suc, ◌+◌, ◌*◌, ◌≤◌, ◌<◌, ◌^◌}
use native.Mathlib.Omega.{arith}
use mathlib.Core.Path.{◌≡◌, refl, sym, ap, ◌∙◌, subst}
use mathlib.Core.Logic.{◌⊎◌, inl, inr}
use mathlib.Core.List.Memᴰ
use mathlib.Core.List.{List, [], ◌∷◌, ◌++◌, reverse, reverse-reverse}
use native.Mathlib.Decide.{ℕ_discrete}
use lib.ListN.{length, replicate}
use Rattle.lists.specs.Choice.{isnt}
use Rattle.lists.specs.Member.{◌∈◌}
use Rattle.lists.proofs.ChoiceLaws.{ite_by}
use Rattle.log_format.specs.Bytes.{splice}
use Rattle.log_format.specs.Whole.{max_log, header}
use Rattle.log_format.specs.Events.{Event, begins, commits}
use Rattle.scheduler_rules.specs.Model.{Model, start, close, begun, ended}
use Rattle.scheduler_rules.specs.Table.{answer, Outcome, table, Good}
use Rattle.scheduler_rules.specs.Replies.{Passed, began, committed}
use Rattle.scheduler_rules.specs.Run.{Played, play, begin, commit}
use Rattle.scheduler_rules.specs.declared.Op.{Op}
use Rattle.scheduler_rules.proofs.Rows.{due_begin, due_commit, roomy}
use Rattle.scheduler_rules.proofs.ReplyLaws.{replies_only}
use Rattle.scheduler.specs.declared.State.{State}
use Rattle.scheduler.specs.State.{abs, state_of}
use Rattle.scheduler.specs.Calls.{room_of, state_after, log_after}
use Rattle.scheduler.proofs.StateLaws.{abs_state}
use Rattle.scheduler_laws.specs.Reach.{Fits32, due_to, Reach, fresh, called}
use Rattle.scheduler_laws.specs.InTurn.{calls}
use Rattle.scheduler_laws.proofs.FromFresh.{never_damaged, length_is, log_tells}
use Rattle.scheduler_laws.proofs.InTurnLaws.{state_is, events_are, calls_reach}
use Rattle.end_to_end.specs.NotEmptily.{Leaves}

-- ---- a call is what the table says

module _ (b₀ : List ℕ) where
  -- some buffer is reached with s and es
  abbrev Reaches : State → List Event → Type 0
  Reaches s es = (b : List ℕ) × Reach b₀ s b es

  -- one call, as the table answers it
  by_table : (m : Model) {es : List Event} (op : Op) (o : Outcome) → Fits32 op → table (room_of b₀) op m ≡ o → Reaches (state_of m) es → Reaches (state_of o.next) (o.due ++ es)
  by_table m {es} op o f e (b, r) =
      let room : room_of b ≡ room_of b₀ = rw (length_is r) in
      let t : table (room_of b) op (abs (state_of m)) ≡ o = ap (λ (n : ℕ). table n op (abs (state_of m))) room ∙ ap (λ (n : Model). table (room_of b₀) op n) (abs_state m) ∙ e in
      let p : state_after (state_of m) op b ≡ state_of o.next = state_is (state_of m) op b (never_damaged r) ∙ ap (λ (z : Outcome). state_of z.next) t in
      let q : due_to (state_of m) op b ≡ o.due = events_are (state_of m) op b (never_damaged r) ∙ ap (λ (z : Outcome). z.due) t in (
        log_after (state_of m) op b,
        subst (λ (z : State). Reach b₀ z (log_after (state_of m) op b) (o.due ++ es)) p
            (subst (λ (ds : List Event). Reach b₀ (state_after (state_of m) op b) (log_after (state_of m) op b) (ds ++ es)) q (called (state_of m) b es op f r)),
      )

-- ---- a run of operations

module _ (b₀ : List ℕ) where
  -- a log is left where its events, newest first, are reached
  pub leaves : (s : State) (log : List Event) → Reaches b₀ s (reverse log) → Leaves b₀ log
  leaves s log (b, r) = record { state = s; buffer = b; reach = r; tells = log_tells r ∙ reverse-reverse log }

  pub any_run : 4 ≤ length b₀ → (ops : List Op) → ((op : Op) → op ∈ ops → Fits32 op) → Leaves b₀ (play (room_of b₀) ops start).written
  any_run h ops f =
      let s = state_of start in
      let b = splice b₀ 0 header in
      let r : Reach b₀ s b [] = fresh h in
      let room : room_of b ≡ room_of b₀ = rw (length_is r) in
      let e : play (room_of b) ops (abs s) ≡ play (room_of b₀) ops start = ap (λ (n : ℕ). play n ops (abs s)) room ∙ ap (play (room_of b₀) ops) (abs_state start) in
      let z = calls ops s b in
      leaves z.state (play (room_of b₀) ops start).written
      (z.buffer, subst (λ (p : Played). Reach b₀ z.state z.buffer (reverse p.written)) e (calls_reach ops f s b [] r))

-- ---- n transactions in turn

-- none is open, n begun and ended, nothing written
abbrev idle : ℕ → Model
idle n = record { last = n; live = []; held = []; marks = replicate 64 0; used = 4 + 14 * n }

-- their events, newest first
abbrev pub turns : ℕ → List Event
turns zero = []
turns (suc n) = commits (suc n) ∷ begins (suc n) ∷ turns n

-- the only open one ends
close_one : (k : ℕ) → close k (k ∷ []) ≡ []
close_one k = ite_by (λ (l : List ℕ). l ≡ []) (isnt (ℕ_discrete k k)) (λ n. absurd (n refl)) (λ _. refl)

-- a begin or a commit of a stamp from 1 on
good : (op : Op) → (op.kind ≡ 1) ⊎ (op.kind ≡ 4) → 1 ≤ op.stamp.0 → op.item ≡ 0 → op.value ≡ 0 → Good op
good op k h i v = record { known = elim k [ inl e ↦ (omega arith, omega arith) | inr e ↦ (omega arith, omega arith) ]; positive = h; item = omega arith; value = omega arith }

module _ (room n : ℕ) (fits : 4 + 14 * suc n ≤ room) where
  begin_passed : Passed room (begin (suc n)) (idle n)
  begin_passed = record {
    not2 = λ h. h (good (begin (suc n)) (inl refl) (omega arith) refl refl);
    not3 = λ h. absurd (omega (arith, h.1));
    not4 = λ h. absurd (omega (arith, h.1));
    not5 = λ h. h.0 refl;
    not6 = λ h. absurd (omega (arith, h.0));
    not7 = λ h. absurd (omega (arith, h.0));
    not9 = λ h. absurd (omega (arith, h.0));
    not10 = roomy room (begin (suc n)) (idle n) (begins (suc n)) (due_begin (begin (suc n)) (idle n) refl) (λ h. absurd (omega arith));
  }

  begin-answer : table room (begin (suc n)) (idle n) ≡ answer 0 0 0 (begun (suc n) (idle n)) (begins (suc n) ∷ [])
  begin-answer = replies_only room (begin (suc n)) (idle n) (began begin_passed refl)

  abbrev opened : Model
  opened = begun (suc n) (idle n)

  commit_passed : Passed room (commit (suc n)) opened
  commit_passed = record {
    not2 = λ h. h (good (commit (suc n)) (inr refl) (omega arith) refl refl);
    not3 = λ h. absurd (omega (arith, h.0));
    not4 = λ h. absurd (omega (arith, h.0));
    not5 = λ h. h.1 (Memᴰ.head refl);
    not6 = λ h. absurd (omega (arith, h.0));
    not7 = λ h. absurd (omega (arith, h.0));
    not9 = λ h. absurd (omega (arith, h.0));
    not10 = roomy room (commit (suc n)) opened (commits (suc n)) (due_commit (commit (suc n)) opened refl) (λ h. absurd (omega arith));
  }

  commit-answer : table room (commit (suc n)) opened ≡ answer 0 0 0 (ended (suc n) opened) (commits (suc n) ∷ [])
  commit-answer = replies_only room (commit (suc n)) opened (committed commit_passed refl)

  -- then none is open again
  idle_again : ended (suc n) opened ≡ idle (suc n)
  idle_again = let u : 4 + 14 * n + 7 + 7 ≡ 4 + 14 * suc n = omega arith in λ i. record { last = suc n; live = close_one (suc n) i; held = []; marks = replicate 64 0; used = u i }

fits32 : (kind k : ℕ) → kind < 2 ^ 32 → k < 2 ^ 32 → Fits32 (record { kind = kind; stamp = record { 0 = k }; item = 0; value = 0 })
fits32 kind k h l = record { kind = h; stamp = l; item = omega arith; value = omega arith }

in_turn : (b₀ : List ℕ) (n : ℕ) → 4 + 14 * n ≤ length b₀ → 4 + 14 * n ≤ max_log → Reaches b₀ (state_of (idle n)) (turns n)
in_turn b₀ zero h l = (_, fresh (omega arith))
in_turn b₀ (suc n) h l =
    let w : 4 + 14 * suc n ≤ room_of b₀ = omega arith in
    let r = in_turn b₀ n (omega arith) (omega arith) in
    let p = by_table b₀ (idle n) (begin (suc n)) _ (fits32 1 (suc n) (omega arith) (omega arith)) (begin-answer (room_of b₀) n w) r in
    let q = by_table b₀ (begun (suc n) (idle n)) (commit (suc n)) _ (fits32 4 (suc n) (omega arith) (omega arith)) (commit-answer (room_of b₀) n w) p in
    subst (λ (m : Model). Reaches b₀ (state_of m) (turns (suc n))) (idle_again (room_of b₀) n w) q

pub turns_left : (b₀ : List ℕ) (n : ℕ) → 4 + 14 * n ≤ length b₀ → 4 + 14 * n ≤ max_log → Leaves b₀ (reverse (turns n))
turns_left b₀ n h l = leaves b₀ (state_of (idle n)) (reverse (turns n)) (subst (λ (t : List Event). Reaches b₀ (state_of (idle n)) t) (sym (reverse-reverse (turns n))) (in_turn b₀ n h l))

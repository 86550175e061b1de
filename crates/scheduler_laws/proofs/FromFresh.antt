-- The page's sentences for every state and log that a fresh start and any calls lead to. Each is a part of what joins state, buffer and
-- events, or a law of the rules about the model that the state means.
-- Assumes nothing.
use Prim.Native.Nat.{ℕ, ◌≤◌}
use native.Mathlib.Omega.{arith}
use mathlib.Core.Path.{◌≡◌, refl, sym, ap, ◌∙◌}
use mathlib.Core.Bool.{Bool, true, false}
use mathlib.Core.List.{List, [], ◌∷◌, ◌++◌, map, reverse}
use mathlib.Core.Logic.{◌↔◌, ◌≢◌}
use lib.Dec.{leb}
use lib.ListN.{length, take, drop, get_or}
use lib.Seq.{length-take-le}
use borrow.Author.Tests.{leb-true}
use Rattle.lists.specs.Member.{◌∈◌}
use Rattle.log_format.specs.Whole.{max_log, log_of, Good, log_read, records}
use Rattle.log_format.specs.Events.{Event, event_of, record_of, events_of, events}
use Rattle.log_format.specs.Told.{Put, Active}
use Rattle.log_format.proofs.WholeLaws.{write_read}
use Rattle.log_format.proofs.EventLaws.{event_of_record}
use Rattle.scheduler_rules.specs.Model.{Version, max_item}
use Rattle.scheduler_rules.specs.Table.{Reached}
use Rattle.scheduler_rules.specs.Invariant.{OpenOrDone, Holds, MarkOf}
use Rattle.scheduler_rules.specs.declared.Op.{Op}
use Rattle.scheduler_rules.proofs.InvariantLaws.{invariant}
use Rattle.scheduler_rules.proofs.Reachable as rules
use Rattle.scheduler_rules.proofs.SoundLaws.{reached_sound}
use Rattle.scheduler.specs.declared.State.{State}
use Rattle.scheduler.specs.declared.Called.{Called}
use Rattle.scheduler.specs.State.{abs, state_of, undamaged}
use Rattle.scheduler.specs.Calls.{room_of, reply_to, CallIs, FreshIs}
use Rattle.scheduler_laws.specs.Reach.{used_of, Fits32, Reach, fresh, called, oldest_first}
use Rattle.scheduler_laws.specs.Said.{said_by}
use Rattle.scheduler_laws.proofs.FitLaws.{lawful_good}
use Rattle.scheduler_laws.proofs.OneCall as call
use Rattle.scheduler_laws.proofs.ReachLaws.{joined, joined_undamaged}

-- ---- what the contracts of fresh and call lead to

-- a fresh start that answers 0 is where runs begin
pub fresh_reaches : {b : List ℕ} {r : Called} {b' : List ℕ} → FreshIs b r b' → r.reply.code ≡ 0 → Reach b r.state b' []
fresh_reaches {b} {r} {b'} w z = go (leb 4 (length b)) refl
  where
    go : (t : Bool) → leb 4 (length b) ≡ t → Reach b r.state b' []
    go true h = let p = w.state in let q = w.log in rw (p, q, h) (fresh (leb-true _ _ h))
    go false h = absurd (let e : r.reply.code ≡ 10 = rw (w.reply, h) in omega arith)

-- a call leads on, and the event that its reply tells of is the newest
pub call_reaches : {b₀ : List ℕ} {s : State} {op : Op} {b : List ℕ} {es : List Event} {r : Called} {b' : List ℕ}
    → Reach b₀ s b es → Fits32 op → CallIs s op b r b' → Reach b₀ r.state b' (said_by op r.reply ++ es)
call_reaches {s = s} {op} {b} {es} a f w = rw (w.state, w.log, w.reply, ← call.record_is_said s op b) (called s b es op f a)

-- the events that records tell are told by these records
pub retold : (es : List Event) → map event_of (map record_of es) ≡ es
retold [] = refl
retold (e ∷ es) = rw (event_of_record e) (ap (λ (l : List Event). e ∷ l) (retold es))

module _ {b₀ : List ℕ} {s : State} {b : List ℕ} {es : List Event} (r : Reach b₀ s b es) where
  -- ---- the state

  -- it is the picture of a model
  pub state_is_model : s ≡ state_of (abs s)
  state_is_model = (joined r).is

  -- that model is one that the rules reach from fresh, with the same events
  pub model_is_reached : Reached (abs s) es
  model_is_reached = (joined r).reached

  -- it is never damaged
  pub never_damaged : undamaged s (room_of b) ≡ true
  never_damaged = joined_undamaged (joined r)

  -- so code 1 never comes from fresh
  pub never_one : (op : Op) → (reply_to s op b).code ≢ 1
  never_one op e = let z : ◌≡◌ {A = Bool} true false = sym never_damaged ∙ (call.one_is_damaged s op b).0 e in let w : ◌≡◌ {A = ℕ} 0 1 = cc in omega arith

  -- the open transactions are those that have begun and not ended
  pub open_is_active : (k : ℕ) → k ∈ (abs s).live ↔ Active k es
  open_is_active = rules.open_is_active model_is_reached

  -- the versions held are exactly the writes of open and committed transactions
  pub held_are_writes : (k x v : ℕ) → Holds k x v (abs s).held ↔ (Put k x v es × OpenOrDone k (abs s) es)
  held_are_writes k x v = (
    (λ h. of h.0 h.1 h.2 h.3 h.4),
    (λ p. rules.writes_are_held model_is_reached k x v p.0 p.1),
  )
    where
      of : (u : Version) → u ∈ (abs s).held → u.item ≡ x → u.stamp ≡ k → u.value ≡ v → Put k x v es × OpenOrDone k (abs s) es
      of u h i j w = rw (i, j, w) at (rules.held_are_writes model_is_reached u h)

  -- a mark is the largest stamp of any transaction that has read the version, including those that aborted since
  pub mark_is_largest_reader : (u : Version) → u ∈ (abs s).held → MarkOf u.item u.stamp u.mark es
  mark_is_largest_reader = rules.mark_is_largest_reader model_is_reached

  -- and so is an initial version's
  pub initial_mark_is_largest_reader : (x : ℕ) → x ≤ max_item → MarkOf x 0 (get_or s.marks x 0) es
  initial_mark_is_largest_reader = rules.initial_mark_is_largest_reader model_is_reached

  -- the open transaction with the smallest stamp is never told to wait
  pub smallest_never_waits : (op : Op) → ((i : ℕ) → i ∈ (abs s).live → op.stamp.0 ≤ i) → (reply_to s op b).code ≢ 6
  smallest_never_waits op = call.smallest_never_waits s op b

  -- ---- the log

  -- the buffer has its first length
  pub length_is : length b ≡ length b₀
  length_is = (joined r).long

  -- the bytes used are within the buffer and 65,536
  pub used_within : (used_of s ≤ length b) × (used_of s ≤ max_log)
  used_within = ((joined r).within, (reached_sound model_is_reached).short)

  -- they are the header and exactly the records of the events, oldest first
  pub log_is : take (used_of s) b ≡ log_of (oldest_first es)
  log_is = (joined r).log

  -- the bytes past them are as they were before the fresh start
  pub rest_is : drop (used_of s) b ≡ drop (used_of s) b₀
  rest_is = (joined r).rest

  -- the records can be written: their numbers fit, their causes are 0 or 1
  pub records_good : Good (oldest_first es)
  records_good = let i = invariant model_is_reached in lawful_good es i.lawful (λ k h. let l = i.begun k h in let z = (joined r).last in omega arith)

  -- reading the bytes used gives these records
  pub log_reads : log_read (take (used_of s) b) ≡ records (oldest_first es)
  log_reads =
      let w = used_within in
      let n : length (take (used_of s) b) ≡ used_of s = length-take-le (used_of s) b w.0 in
      let l : length (log_of (oldest_first es)) ≡ used_of s = sym (ap length log_is) ∙ n in
      rw log_is (write_read (oldest_first es) records_good (omega (arith, w.1)))

  -- and so the events back
  pub log_tells : events (take (used_of s) b) ≡ reverse es
  unfolding events
  log_tells = ap events_of log_reads ∙ retold (reverse es)

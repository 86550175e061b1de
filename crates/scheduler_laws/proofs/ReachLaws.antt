-- What a state, its buffer and the events written have in common, wherever a fresh start and calls lead: the state is the picture of a model
-- that the rules reach with the same events, the bytes used are the log of these events, and the bytes past them are the first buffer's.
-- It holds of a fresh start, and a call keeps it, because such a state is never damaged and so the table decides.
-- Assumes nothing.
use Prim.Native.Nat.{ℕ, ◌+◌, ◌≤◌, ◌<◌, ◌^◌}
use native.Mathlib.Omega.{arith}
use mathlib.Core.Path.{◌≡◌, refl, sym, ap, ◌∙◌, subst}
use mathlib.Core.Bool.{true}
use mathlib.Core.List.{List, [], ◌++◌}
use mathlib.Core.Logic.{inl, inr}
use lib.ListN.{length, take, drop}
use lib.Seq.{drop-drop}
use Rattle.log_format.specs.Bytes.{splice}
use Rattle.log_format.specs.Whole.{header, log_of}
use Rattle.log_format.specs.Events.{Event}
use Rattle.log_format.proofs.AppendLaws.{length-splice, header_log}
use Rattle.scheduler_rules.specs.Model.{Model, start}
use Rattle.scheduler_rules.specs.Table as rules
use Rattle.scheduler_rules.specs.Table.{Reached, table}
use Rattle.scheduler_rules.specs.Sizes.{sizes}
use Rattle.scheduler_rules.specs.declared.Op.{Op}
use Rattle.scheduler_rules.proofs.SoundLaws.{reached_sound}
use Rattle.scheduler_rules.proofs.Unchanged.{used_grows}
use Rattle.scheduler.specs.declared.State.{State}
use Rattle.scheduler.specs.State.{abs, state_of, undamaged}
use Rattle.scheduler.specs.Calls.{room_of, written, state_after, log_after}
use Rattle.scheduler.proofs.StateLaws.{abs_state, is_undamaged}
use Rattle.scheduler_laws.specs.Reach.{used_of, due_to, Reach, fresh, called, oldest_first}
use Rattle.scheduler_laws.proofs.DueLaws.{last_is, one_due, due_fits}
use Rattle.scheduler_laws.proofs.WrittenLaws.{drop-splice, length-written, written_rest, written_log}

pub record Joined (b₀ : List ℕ) (s : State) (b : List ℕ) (es : List Event) : Type 0 where
  pub log : take (used_of s) b ≡ log_of (oldest_first es)
  pub rest : drop (used_of s) b ≡ drop (used_of s) b₀
  pub long : length b ≡ length b₀
  pub within : used_of s ≤ length b
  pub reached : Reached (abs s) es
  pub is : s ≡ state_of (abs s)
  pub last : s.core.last.0 < 2 ^ 32

-- the state that a model makes is the picture of what it means
pictured : (m : Model) → state_of m ≡ state_of (abs (state_of m))
pictured m = ap state_of (sym (abs_state m))

-- and that is reached where the model is
meant : (m : Model) (es : List Event) → Reached m es → Reached (abs (state_of m)) es
meant m es r = subst (λ (x : Model). Reached x es) (sym (abs_state m)) r

module _ {b₀ : List ℕ} {s : State} {b : List ℕ} {es : List Event} (j : Joined b₀ s b es) where
  -- such a state is not damaged
  pub joined_undamaged : undamaged s (room_of b) ≡ true
  joined_undamaged =
      let z = reached_sound j.reached in
      is_undamaged s (room_of b) (record { sound = z; is = j.is; within = let w = j.within in omega (arith, z.short) })

  -- ---- what the table leaves

  module _ (op : Op) where
    abbrev room : ℕ
    room = room_of b

    abbrev m : Model
    m = abs s

    abbrev n : Model
    n = (table room op m).next

    abbrev ds : List Event
    ds = (table room op m).due

    grown : n.used ≡ used_of s + sizes ds
    grown = used_grows room op m

    -- the record fits
    fits : used_of s + sizes ds ≤ length b
    fits = let w = j.within in let z = reached_sound j.reached in let l = due_fits room op m (omega (arith, z.short)) in omega arith

    -- the bytes used are the log of the events with the new one
    log_next : take n.used (written b (used_of s) ds) ≡ log_of (oldest_first (ds ++ es))
    log_next = rw grown (written_log b (used_of s) ds es (one_due room op m) fits j.log)

    -- the bytes past them are the first buffer's
    beyond : drop (used_of s + sizes ds) b ≡ drop (used_of s + sizes ds) b₀
    beyond = sym (drop-drop (sizes ds) (used_of s) b) ∙ ap (drop (sizes ds)) j.rest ∙ drop-drop (sizes ds) (used_of s) b₀

    rest_next : drop n.used (written b (used_of s) ds) ≡ drop n.used b₀
    rest_next = rw grown (written_rest b (used_of s) ds (one_due room op m) fits ∙ beyond)

    long_next : length (written b (used_of s) ds) ≡ length b
    long_next = length-written b (used_of s) ds (one_due room op m) fits

    -- the last begun stamp fits, since the operation's does
    last_next : op.stamp.0 < 2 ^ 32 → n.last < 2 ^ 32
    last_next h = let l = j.last in elim (last_is room op m) [ inl e ↦ omega arith | inr e ↦ omega arith ]

    joined_next : op.stamp.0 < 2 ^ 32 → {s' : State} {b' : List ℕ} {es' : List Event} → s' ≡ state_of n → b' ≡ written b (used_of s) ds → es' ≡ ds ++ es → Joined b₀ s' b' es'
    joined_next h p q e = rw (p, q, e) (record {
      log = log_next;
      rest = rest_next;
      long = long_next ∙ j.long;
      within = omega (arith, fits, grown, long_next);
      reached = meant n (ds ++ es) (rules.next room op m es (omega arith) j.reached);
      is = pictured n;
      last = last_next h;
    })

    -- ---- a call leaves that

    state_left : state_after s op b ≡ state_of n
    state_left = rw joined_undamaged

    bytes_left : log_after s op b ≡ written b (used_of s) ds
    bytes_left = rw joined_undamaged

    events_left : due_to s op b ++ es ≡ ds ++ es
    events_left = rw joined_undamaged

joined_fresh : (b₀ : List ℕ) → 4 ≤ length b₀ → {b' : List ℕ} → b' ≡ splice b₀ 0 header → Joined b₀ (state_of start) b' []
joined_fresh b₀ h q = let l = length-splice b₀ 0 header (omega arith) in rw q (record {
  log = header_log b₀;
  rest = drop-splice b₀ 0 header (omega arith);
  long = l;
  within = omega arith;
  reached = meant start [] rules.fresh;
  is = pictured start;
  last = omega arith;
})

pub joined : {b₀ : List ℕ} {s : State} {b : List ℕ} {es : List Event} → Reach b₀ s b es → Joined b₀ s b es
joined {b₀} {b = b'} (fresh h) = joined_fresh b₀ (omega arith) {b' = b'} refl
joined {s = s'} {b = b'} {es = es'} (called s b es op f r) =
    let j = joined r in
    joined_next j op (omega (arith, f.stamp)) {s' = s'} {b' = b'} {es' = es'} (state_left j op) (bytes_left j op) (events_left j op)

-- What one call does, on any state, operation and buffer. A damaged state is answered 1 and nothing changes; else the table's laws speak of
-- the model that the state means, and the state left is the one that the table's next model makes.
-- Assumes nothing.
use Prim.Native.Nat.{ℕ, ◌+◌, ◌≤◌, ◌<◌}
use native.Mathlib.Omega.{arith}
use mathlib.Core.Path.{◌≡◌, refl, sym, ◌∙◌}
use mathlib.Core.Bool.{Bool, true, false, ◌&&◌}
use mathlib.Core.List.{List}
use mathlib.Core.Logic.{◌⊎◌, ◌↔◌, ◌≢◌}
use lib.Dec.{leb}
use lib.ListN.{length, get_or, length-append, length-replicate, length-map}
use borrow.Author.Tests.{leb-true}
use Rattle.lists.specs.Member.{◌∈◌}
use Rattle.log_format.specs.Bytes.{splice}
use Rattle.log_format.specs.Fields.{encode}
use Rattle.log_format.specs.Events.{record_of}
use Rattle.log_format.specs.declared.Record.TheVariants.{Abort}
use Rattle.scheduler_rules.specs.Model.{Model, dropped}
use Rattle.scheduler_rules.specs.Table.{table, due}
use Rattle.scheduler_rules.specs.Sizes.{sizes}
use Rattle.scheduler_rules.specs.Sound.{Sound}
use Rattle.scheduler_rules.specs.declared.Op.{Op}
use Rattle.scheduler_rules.proofs.Unchanged as rules
use Rattle.scheduler_rules.proofs.SoundLaws.{sound_next}
use Rattle.scheduler_rules.proofs.NeverWaits as waiting
use Rattle.open_table.specs.Intact.{is_intact}
use Rattle.open_table.proofs.IntactLaws.{and_parts}
use Rattle.version_columns.specs.declared.Versions.{Versions}
use Rattle.damage.specs.Damage.{marks_sound, columns_sound}
use Rattle.decision.specs.declared.Core.{Core}
use Rattle.decision.specs.Decided.{undamaged_in}
use Rattle.scheduler.specs.declared.State.{State}
use Rattle.scheduler.specs.State.{abs, state_of, undamaged, Full}
use Rattle.scheduler.specs.Calls.{room_of, written, reply_to, state_after, log_after}
use Rattle.scheduler.proofs.StateLaws.{undamaged_is, sound_undamaged}
use Rattle.scheduler_laws.specs.Reach.{used_of, due_to}
use Rattle.scheduler_laws.specs.Said.{said_by}
use Rattle.scheduler_laws.proofs.DueLaws.{due_said, one_due, due_fits}
use Rattle.scheduler_laws.proofs.WrittenLaws.{length-written, written_other}

-- where the damage check passes, no more bytes are used than the log may have
within : (c : Core) (room : ℕ) (marks : List ℕ) (t : Versions) → undamaged_in c room marks t ≡ true → c.used.0 ≤ room
unfolding undamaged_in
within c room marks t h =
    second (leb 4 c.used.0) (is_intact c.live c.last.0) (marks_sound marks c.last.0) (columns_sound t c.last.0) h
  where
    second : (x y z w : Bool) → (x && leb c.used.0 room && y && z && w) ≡ true → c.used.0 ≤ room
    second x y z w h = leb-true _ _ (and_parts x _ (and_parts _ y (and_parts _ z (and_parts _ w h).0).0).0).1

-- the arrays of the state that a sound model makes have the lengths that their types say
pub full_state : (m : Model) → Sound m → Full (state_of m)
full_state m s = record {
  opens = simp (length-append, length-map, length-replicate) (omega (arith, s.opens));
  marks = s.wide;
  items = simp (length-append, length-map, length-replicate) (omega (arith, s.holds));
  stamps = simp (length-append, length-map, length-replicate) (omega (arith, s.holds));
  values = simp (length-append, length-map, length-replicate) (omega (arith, s.holds));
  readers = simp (length-append, length-map, length-replicate) (omega (arith, s.holds));
}

module _ (s : State) (op : Op) (b : List ℕ) where
  -- ---- damage

  -- code 1 is given exactly when the state is damaged
  pub one_is_damaged : (reply_to s op b).code ≡ 1 ↔ undamaged s (room_of b) ≡ false
  one_is_damaged = ((λ e. go (undamaged s (room_of b)) refl e), (λ h. rw h))
    where
      go : (t : Bool) → undamaged s (room_of b) ≡ t → (reply_to s op b).code ≡ 1 → undamaged s (room_of b) ≡ false
      go false h e = h
      go true h e = absurd (rules.never_one (room_of b) op (abs s) (rw h at e))

  -- a damaged state answers 1, 0, 0 and stays as it is, and so does every byte
  pub damaged_stays : undamaged s (room_of b) ≡ false → (reply_to s op b ≡ record { code = 1; stamp = record { 0 = 0 }; value = 0 }) × (state_after s op b ≡ s) × (log_after s op b ≡ b)
  damaged_stays h = (rw h, rw h, rw h)

  -- ---- the record written

  -- the log after a call has the event's record after the bytes used, if there is one, and no other new byte
  pub log_is_written : log_after s op b ≡ written b (used_of s) (due_to s op b)
  log_is_written = go (undamaged s (room_of b)) refl
    where
      go : (t : Bool) → undamaged s (room_of b) ≡ t → log_after s op b ≡ written b (used_of s) (due_to s op b)
      go false h = rw h
      go true h = rw h

  -- a call writes at most one record
  pub one_record : length (due_to s op b) ≤ 1
  one_record = go (undamaged s (room_of b)) refl
    where
      go : (t : Bool) → undamaged s (room_of b) ≡ t → length (due_to s op b) ≤ 1
      go false h = rw h (omega arith)
      go true h = rw h (one_due (room_of b) op (abs s))

  -- and it is the one that the reply tells of
  pub record_is_said : due_to s op b ≡ said_by op (reply_to s op b)
  record_is_said = go (undamaged s (room_of b)) refl
    where
      go : (t : Bool) → undamaged s (room_of b) ≡ t → due_to s op b ≡ said_by op (reply_to s op b)
      go false h = rw h
      go true h = rw h (due_said (room_of b) op (abs s))

  -- the bytes used grow by those of the record
  pub used_grows : used_of (state_after s op b) ≡ used_of s + sizes (due_to s op b)
  used_grows = go (undamaged s (room_of b)) refl
    where
      go : (t : Bool) → undamaged s (room_of b) ≡ t → used_of (state_after s op b) ≡ used_of s + sizes (due_to s op b)
      go false h = rw h (omega arith)
      go true h = rw h (rules.used_grows (room_of b) op (abs s))

  -- ---- what does not change

  -- a call's record fits: the bytes then used are within the buffer, or nothing was written
  fits : undamaged s (room_of b) ≡ true → used_of s + sizes (table (room_of b) op (abs s)).due ≤ room_of b
  fits h = due_fits (room_of b) op (abs s) (within s.core (room_of b) s.marks s.versions h)

  -- codes 1 to 7, 9 and 10 change no state and no byte
  pub refusals_change_nothing : Full s → (reply_to s op b).code ≢ 0 → (reply_to s op b).code ≢ 8 → (state_after s op b ≡ s) × (log_after s op b ≡ b)
  refusals_change_nothing f n0 n8 = go (undamaged s (room_of b)) refl
    where
      go : (t : Bool) → undamaged s (room_of b) ≡ t → (state_after s op b ≡ s) × (log_after s op b ≡ b)
      go false h = (rw h, rw h)
      go true h =
          let q = rules.refusals_change_nothing (room_of b) op (abs s) (λ e. n0 (rw h e)) (λ e. n8 (rw h e)) in
          let u = undamaged_is s (room_of b) f (omega arith) h in
          (rw (h, q.0) (sym u.is), rw (h, q.1))

  -- code 8 writes exactly one record, an abort of cause 1, and the transaction's versions go
  pub late_aborts : (reply_to s op b).code ≡ 8 → (state_after s op b ≡ state_of (dropped op.stamp.0 (abs s))) × (log_after s op b ≡ splice b (used_of s) (encode (Abort op.stamp 1)))
  late_aborts e = go (undamaged s (room_of b)) refl
    where
      go : (t : Bool) → undamaged s (room_of b) ≡ t → (state_after s op b ≡ state_of (dropped op.stamp.0 (abs s))) × (log_after s op b ≡ splice b (used_of s) (encode (Abort op.stamp 1)))
      go false h = absurd (let z : ◌≡◌ {A = ℕ} 1 8 = rw h at e in omega arith)
      go true h = let q = rules.late_aborts (room_of b) op (abs s) (rw h at e) in (rw (h, q.0), rw (h, q.1))

  -- code 0 writes exactly one record, the one due
  pub fine_writes_due : (reply_to s op b).code ≡ 0 → log_after s op b ≡ splice b (used_of s) (encode (record_of (due op (abs s))))
  fine_writes_due e = go (undamaged s (room_of b)) refl
    where
      go : (t : Bool) → undamaged s (room_of b) ≡ t → log_after s op b ≡ splice b (used_of s) (encode (record_of (due op (abs s))))
      go false h = absurd (let z : ◌≡◌ {A = ℕ} 1 0 = rw h at e in omega arith)
      go true h = let q = rules.fine_writes_due (room_of b) op (abs s) (rw h at e) in rw (h, q)

  -- the buffer keeps its length
  pub length-kept : length (log_after s op b) ≡ length b
  length-kept = go (undamaged s (room_of b)) refl
    where
      go : (t : Bool) → undamaged s (room_of b) ≡ t → length (log_after s op b) ≡ length b
      go false h = rw h
      go true h = rw h (length-written b (used_of s) (table (room_of b) op (abs s)).due (one_due (room_of b) op (abs s)) (let l = fits h in omega arith))

  -- log bytes outside the one new record never change: those before the bytes used, and those past the bytes then used
  pub others_kept : (i : ℕ) → (i < used_of s) ⊎ (used_of (state_after s op b) ≤ i) → get_or (log_after s op b) i 0 ≡ get_or b i 0
  others_kept i o = go (undamaged s (room_of b)) refl
    where
      go : (t : Bool) → undamaged s (room_of b) ≡ t → get_or (log_after s op b) i 0 ≡ get_or b i 0
      go false h = rw h
      go true h =
          let d = (table (room_of b) op (abs s)).due in
          let g : used_of (state_after s op b) ≡ used_of s + sizes d = used_grows ∙ rw h in
          rw h (written_other b (used_of s) d (one_due (room_of b) op (abs s)) (let l = fits h in omega arith) i (rw g at o))

  -- ---- what stays true

  -- no call damages a state
  pub undamaged_stays : Full s → undamaged s (room_of b) ≡ true → undamaged (state_after s op b) (room_of (log_after s op b)) ≡ true
  undamaged_stays f h =
      let u = undamaged_is s (room_of b) f (omega arith) h in
      let m = (table (room_of b) op (abs s)).next in
      let z : Sound m = sound_next (room_of b) op (abs s) (omega arith) u.sound in
      let g = rules.used_grows (room_of b) op (abs s) in
      let l = fits h in
      let n : room_of (log_after s op b) ≡ room_of b = rw length-kept in
      rw (n, h) (sound_undamaged m (room_of b) z (omega arith))

  -- the arrays of the next state have the lengths that their types say
  pub full_stays : Full s → Full (state_after s op b)
  full_stays f = go (undamaged s (room_of b)) refl
    where
      go : (t : Bool) → undamaged s (room_of b) ≡ t → Full (state_after s op b)
      go false h = rw h f
      go true h = let u = undamaged_is s (room_of b) f (omega arith) h in rw h (full_state _ (sound_next (room_of b) op (abs s) (omega arith) u.sound))

  -- the open transaction with the smallest stamp is never told to wait
  pub smallest_never_waits : ((i : ℕ) → i ∈ (abs s).live → op.stamp.0 ≤ i) → (reply_to s op b).code ≢ 6
  smallest_never_waits least e = go (undamaged s (room_of b)) refl
    where
      go : (t : Bool) → undamaged s (room_of b) ≡ t → ⊥
      go false h = let z : ◌≡◌ {A = ℕ} 1 6 = rw h at e in omega arith
      go true h = waiting.smallest_never_waits (room_of b) op (abs s) least (rw h at e)

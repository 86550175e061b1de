-- How the fields of a log are read one after the other: what stands at a place, then the fields after it. More steps than bytes change nothing, as
-- each field has bytes. Where records stand in the bytes, the fields are those records with their places.
-- Assumes nothing.
use Prim.Native.Nat.{ℕ, zero, suc, ◌+◌, ◌-◌, ◌<◌}
use native.Mathlib.Nat.{add-zero}
use native.Mathlib.Omega.{arith}
use mathlib.Core.Path.{◌≡◌, refl, sym, ap, ◌∙◌}
use mathlib.Core.List.{List, [], ◌∷◌, ◌++◌, map, append_assoc}
use lib.ListN.{length, drop, length-append}
use lib.Seq.{drop-drop, drop-append_seam}
use Rattle.log_format.specs.Bytes.{Bytes}
use Rattle.log_format.specs.Fields.{Decoded, encode, decode_at, found}
use Rattle.log_format.specs.Whole.{write_all, Good}
use Rattle.log_format.specs.Events.{event_of}
use Rattle.log_format.specs.declared.Record.{Record}
use Rattle.log_format.specs.declared.BadField.{BadField}
use Rattle.std.specs.Prelude.{Ok, Err, Some, None}
use Rattle.log_format.proofs.Reading.{progress}
use Rattle.log_format.proofs.RoundTrip.{decode_encode}
use Rattle.history_rules.specs.History.{Entry, good, broken, following, fields_at, fields_from, events_in}

module _ (s : List ℕ) (b : Bytes s) where
  same_following : (k m at : ℕ) → length s - at < suc k → length s - at < suc m
      → ((n : ℕ) → length s - n < k → length s - n < m → fields_at k s n ≡ fields_at m s n) → (d : Decoded) → decode_at s at ≡ d
      → following (fields_at k s) at d ≡ following (fields_at m s) at d
  same_following k m at h g ih (Ok (Some (r, p))) e =
      let t = progress s b at r p.0 e in
      rw (ih p.0 (omega arith) (omega arith))
  same_following k m at h g ih (Ok None) e = refl
  same_following k m at h g ih (Err p) e = refl

  stable : (k m at : ℕ) → length s - at < k → length s - at < m → fields_at k s at ≡ fields_at m s at
  unfolding fields_at
  stable zero m at h g = absurd (omega arith)
  stable (suc k) zero at h g = absurd (omega arith)
  stable (suc k) (suc m) at h g = same_following k m at h g (λ n. stable k m n) (decode_at s at) refl

  -- a record, then the fields after it
  pub step_field : (at : ℕ) (r : Record) (n : ℕ) → decode_at s at ≡ found r n → fields_from s at ≡ good at r ∷ fields_from s n
  unfolding fields_from fields_at
  step_field at r n e =
      let t = progress s b at r n e in
      rw e (ap (λ l. good at r ∷ l) (stable (length s - at) (suc (length s - n)) n (omega arith) (omega arith)))

-- the end: no field
pub step_end : (s : List ℕ) (at : ℕ) → decode_at s at ≡ Ok None → fields_from s at ≡ []
unfolding fields_from fields_at
step_end s at e = rw e

-- a bad field is the last
pub step_bad : (s : List ℕ) (at : ℕ) (b : BadField) → decode_at s at ≡ Err b → fields_from s at ≡ broken b.0.0 ∷ []
unfolding fields_from fields_at
step_bad s at b e = rw e

-- ---- records with their places

-- the fields of records, from a place on
abbrev pub placed : ℕ → List Record → List Entry
placed at [] = []
placed at (r ∷ rs) = good at r ∷ placed (at + length (encode r)) rs

-- they tell the records' events
pub placed_events : (at : ℕ) (rs : List Record) → events_in (placed at rs) ≡ map event_of rs
placed_events at [] = refl
placed_events at (r ∷ rs) = ap (λ l. event_of r ∷ l) (placed_events (at + length (encode r)) rs)

-- where records stand from a place on, they are the fields, and then come those after them
pub front_fields : (s : List ℕ) → Bytes s → (rs : List Record) (at : ℕ) (q : List ℕ) → Good rs → drop at s ≡ write_all rs ++ q
    → fields_from s at ≡ placed at rs ++ fields_from s (at + length (write_all rs))
unfolding Good
front_fields s b [] at q g h = rw add-zero
front_fields s b (r ∷ rs) at q g h =
    let d = h ∙ append_assoc (encode r) (write_all rs) q in
    let n = decode_encode s (write_all rs ++ q) at r g.0 g.1 d in
    let t : drop (at + length (encode r)) s ≡ write_all rs ++ q = sym (drop-drop (length (encode r)) at s) ∙ ap (drop (length (encode r))) d
    ∙ drop-append_seam (encode r) (write_all rs ++ q) in
    let l : at + length (encode r) + length (write_all rs) ≡ at + length (encode r ++ write_all rs) = omega (arith, length-append (encode r) (write_all rs)) in
    step_field s b at r _ n ∙ ap (λ l. good at r ∷ l)
    (front_fields s b rs (at + length (encode r)) q g.2 t ∙ ap (λ (m : ℕ). placed (at + length (encode r)) rs ++ fields_from s m) l)

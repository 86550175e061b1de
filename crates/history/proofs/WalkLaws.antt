-- The first walk, turn by turn: what is left of the scan is the scan from the place on, after the events noted, and the commits so far are those of the
-- fields passed. A field that is bad ends it; one that is right is noted, and each takes 7 bytes, so the rows do not run out.
-- Assumes nothing.
use Prim.Native.Nat.{ℕ, ◌+◌, ◌-◌, ◌*◌, ◌≤◌, ◌<◌}
use native.Mathlib.Nat.{add-zero}
use native.Mathlib.Omega.{arith}
use mathlib.Core.Path.{◌≡◌, refl, sym, ap, ◌∙◌}
use mathlib.Core.List.{List, [], ◌∷◌}
use mathlib.Core.Bool.{Bool, true, false, cond, ◌||◌}
use lib.ListN.{length}
use lib.Dec.{eqb, ltb}
use borrow.Author.Tests.{eq-eqb, ltb-false}
use Rattle.log_format.specs.Bytes.{Bytes}
use Rattle.log_format.specs.Fields.{decode_at, found}
use Rattle.log_format.specs.Whole.{max_log}
use Rattle.log_format.specs.Events.{Event, begins, reads, writes, commits, aborts, event_of}
use Rattle.log_format.specs.declared.Record.{Record}
use Rattle.log_format.specs.declared.BadField.{BadField}
use Rattle.std.specs.Prelude.{Ok, Err, None}
use Rattle.log_format.proofs.Reading.{progress}
use Rattle.history_rules.specs.WellFormed.{most_item, is_commit, count_commits}
use Rattle.history_rules.specs.Faults.{idle, fault_by, fault}
use Rattle.history_rules.specs.History.{fields_from, events_in, wrong, scanned}
use Rattle.history_rules.specs.Held.{Holds, Kept}
use Rattle.history_rules.proofs.FieldSteps.{step_field, step_end, step_bad}
use Rattle.history_rules.proofs.HeldLaws.{holds_none, holds_more, fault_same}
use Rattle.index.specs.Index.{max_rows, table_of, Table, Room}
use Rattle.index.proofs.RowLaws.{room_fewer}
use Rattle.transactions.specs.Transactions.{told_code, fault_in, Noted}
use Rattle.std.specs.Prelude.{Result, ⊤}
use Rattle.std.specs.Result.{MatchResult, IsErrAnd}
use Rattle.std.proofs.lemmas.Result.{err_from_is_err_and}
use Rattle.log_format.specs.declared.Place.{Place}
use Rattle.history_rules.specs.declared.Fault.{Fault}
use Rattle.history_rules.specs.declared.Fault.TheVariants.{Stamp, Item, Version}
use Rattle.history_rules.specs.declared.BadLog.{BadLog}
use Rattle.history_rules.specs.declared.BadLog.TheVariants.{Wrong, BadField as BadLog-as-BadField}
use Rattle.history_rules.specs.Refusals.{fault_code}
use Rattle.history.specs.Judging.{Lent, Walked}

-- ---- a record without a fault can be noted

kept_item : (i j : Bool) (x : ℕ) → cond {A = ℕ} i 23 (cond (ltb most_item x || j) 24 0) ≡ 0 → x ≤ most_item
kept_item true j x e = absurd (omega arith)
kept_item false j x e = go (ltb most_item x) refl e
  where
    go : (b : Bool) → ltb most_item x ≡ b → cond {A = ℕ} (b || j) 24 0 ≡ 0 → x ≤ most_item
    go true f e = absurd (omega arith)
    go false f e = ltb-false most_item x f

kept : (st : ℕ → ℕ) (wr : ℕ → ℕ → ℕ) (e : Event) → fault_by st wr e ≡ 0 → Kept e
kept st wr (begins t) e = tt
kept st wr (reads t x j v) e = tt
kept st wr (writes t x v) e = kept_item (idle st t) _ x e
kept st wr (commits t) e = tt
kept st wr (aborts t c) e = tt

-- what `map_err` gives: the fault with its place, or nothing is wrong
module _ {P : Fault → BadLog → Type 0} (p : Place) (is : (f : Fault) (e : BadLog) → P f e → e ≡ Wrong f p) {w : Result ⊤ BadLog} where
  pub told_wrong : (v : Result ⊤ Fault) {x : BadLog} → MatchResult v (λ u. w ≡ Ok u) (λ f. IsErrAnd w (P f)) → w ≡ Err x
      → (f : Fault) × ((v ≡ Err f) × (x ≡ Wrong f p))
  told_wrong (Ok u) k e = let z : ◌≡◌ {A = ℕ} 0 1 = cc in absurd (omega arith)
  told_wrong (Err f) {x} k e = let q = err_from_is_err_and w k in let y : x ≡ q.0 = cc in (f, (refl, y ∙ is f q.0 q.2))

  pub told_right : (v : Result ⊤ Fault) {u : ⊤} → MatchResult v (λ u. w ≡ Ok u) (λ f. IsErrAnd w (P f)) → w ≡ Ok u → told_code v ≡ 0
  told_right (Ok u) k e = refl
  told_right (Err f) k e =
      let q = err_from_is_err_and w k in
      let y : w ≡ Err q.0 = q.1 in
      let z : ◌≡◌ {A = ℕ} 0 1 = cc in
      absurd (omega arith)

fault-code_not_0 : (x : Fault) → eqb (fault_code x) 0 ≡ false
fault-code_not_0 Stamp = refl
fault-code_not_0 Item = refl
fault-code_not_0 Version = refl

-- ---- the walk

-- at the place `at`, with the events so far in the map and k of them commits; `free` rows more have room, so many that the bytes run out before they do
pub record Walking (s m : List ℕ) (z at k : ℕ) : Type 0 where
  pub past : List Event
  pub table : Table m
  pub size : length m ≡ z
  pub free : ℕ
  pub room : Room free m
  pub rows : max_log < at + 7 * free
  pub holds : Holds past (table_of m)
  pub rest : scanned [] (fields_from s 4) ≡ scanned past (fields_from s at)
  pub count : count_commits (events_in (fields_from s 4)) ≡ k + count_commits (events_in (fields_from s at))
  pub within : at ≤ length s
  pub few : k ≤ at

pub walk_start : {s m : List ℕ} → Lent m → 4 ≤ length s → Walking s m (length m) 4 0
walk_start {s} {m} t l = record {
  past = [];
  table = t.table;
  size = refl;
  free = max_rows;
  room = t.room;
  rows = omega arith;
  holds = holds_none (table_of m) t.blank;
  rest = refl;
  count = omega arith;
  within = l;
  few = omega arith;
}

module _ {s m : List ℕ} {z at k : ℕ} (i : Walking s m z at k) where
  -- no field is left
  pub walk_end : decode_at s at ≡ Ok None → Walked s m (Ok k)
  unfolding scanned
  walk_end e = record {
    table = i.table;
    is = (i.past, i.rest ∙ rw (step_end s at e), sym (i.count ∙ rw (step_end s at e, add-zero)), i.holds);
  }

  -- no record stands there
  pub walk_broken : (x : BadField) → decode_at s at ≡ Err x → Walked s m (Err (BadLog-as-BadField x.0))
  unfolding scanned
  walk_broken x e = record { table = i.table; is = i.rest ∙ rw (step_bad s at x e) }

  module _ (b : Bytes s) {r : Record} {n : ℕ} (e : decode_at s at ≡ found r n) {c : ℕ} (f : c ≡ fault_in (table_of m) (event_of r)) where
    one : scanned [] (fields_from s 4) ≡ cond (eqb c 0) (scanned (event_of r ∷ i.past) (fields_from s n)) (wrong c at)
    unfolding scanned
    one =
        let q : fault i.past (event_of r) ≡ c = sym (f ∙ fault_same i.past (table_of m) i.holds (event_of r)) in
        i.rest ∙ rw (step_field s b at r n e) (ap (λ x. cond (eqb x 0) (scanned (event_of r ∷ i.past) (fields_from s n)) (wrong x at)) q)

    -- it is bad
    pub walk_bad : (x : Fault) → c ≡ fault_code x → Walked s m (Err (Wrong x (record { 0 = at })))
    walk_bad x h = record { table = i.table; is = one ∙ rw (h, fault-code_not_0 x) }

    pub walk_room : length s ≤ max_log → Room 1 m
    walk_room l =
        let p = progress s b at r n e in
        let q = i.rows in
        room_fewer m 1 i.free (omega arith) i.room

    -- it is right
    pub walk_next : c ≡ 0 → length s ≤ max_log → {m' : List ℕ} {j : ℕ} → Noted m (event_of r) m'
        → (j ≡ is_commit (event_of r)) × (j ≤ 1) → Walking s m' z n (k + j)
    walk_next ok short {m'} {j} o (g, h) =
        let p = progress s b at r n e in
        let q = i.rows in
        let y = i.few in
        let d : count_commits (events_in (fields_from s 4)) ≡ k + (j + count_commits (events_in (fields_from s n))) =
        i.count ∙ rw (step_field s b at r n e, g) in
        record {
          past = event_of r ∷ i.past;
          table = o.table;
          size = o.size ∙ i.size;
          free = i.free - 1;
          room = o.room (i.free - 1) (room_fewer m (i.free - 1 + 1) i.free (omega arith) i.room);
          rows = omega arith;
          holds = holds_more i.past (table_of m) (table_of m') i.holds (event_of r) (kept _ _ (event_of r) (sym f ∙ ok)) o.is;
          rest = one ∙ rw (eq-eqb c 0 ok);
          count = omega arith;
          within = p.1;
          few = omega arith;
        }

-- Whatever the page answers for a log, going through it finds: the fields before the one that decides are passed, and that one stops with its code and
-- place.
-- Assumes nothing.
use Prim.Native.Nat.{ℕ, ◌+◌, ◌≤◌, ◌<◌}
use native.Mathlib.Omega.{arith}
use mathlib.Core.Path.{◌≡◌, refl, sym, ap, ◌∙◌}
use mathlib.Core.List.Memᴰ
use mathlib.Core.List.{List, [], ◌∷◌, ◌++◌, map, reverse, append-nil}
use mathlib.Core.Logic.{inl, inr}
use mathlib.Core.Bool.{Bool, true, false, cond, false≢true}
use lib.ListN.{length, drop, length-drop, take-append-drop, drop_of_length-le}
use borrow.Author.Tests.{lt-ltb, le-ltb}
use Rattle.lists.specs.Member.{◌∈◌}
use Rattle.log_format.specs.Bytes.{Bytes}
use Rattle.log_format.specs.Fields.{Decoded, decode_at, bad}
use Rattle.log_format.specs.Whole.{records, no_log, before, header_ok, fields, log_read, write_all, log_of}
use Rattle.log_format.specs.Events.{event_of}
use Rattle.log_format.specs.declared.Record.{Record}
use Rattle.std.specs.Prelude.{Ok, Err, Some, None}
use Rattle.log_format.proofs.DecodeCases.{ended, at_end, decoded_bad}
use Rattle.log_format.proofs.RoundTrip.{encode_decode, decode_fits, stands_decode}
use Rattle.log_format.proofs.WholeLaws.{header_is, is_header, read-write, read_good}
use Rattle.history_rules.specs.WellFormed.{AllRight, most_committed, count_commits}
use Rattle.history_rules.specs.Faults.{stage}
use Rattle.history_rules.specs.History.{Entry, fields_from, wrong, right, scanned, History, passed, refused, settled, judged, history_of}
use Rattle.history_rules.specs.Answers.{Headed, Front, Broken, BadAt, no_record, no_right, FirstBadField, Dangles, FirstDangling}
use Rattle.history_rules.specs.Answers.{Answers, no_log_lem, bad_field_lem, too_many, dangling, well}
use Rattle.history_rules.specs.History as history
use Rattle.history_rules.proofs.Tells.{Tells, holds, fails, tell, is_true, is_false}
use Rattle.history_rules.proofs.Stages.{Views, no_views, views_all}
use Rattle.history_rules.proofs.OrderLaws.{retells_reverse, retells_straight, same_lowest}
use Rattle.history_rules.proofs.FieldSteps.{step_field, step_end, step_bad, placed, placed_events, front_fields}
use Rattle.history_rules.proofs.ScanLaws.{scan_stop, scan_all, placed_append}
use Rattle.history_rules.proofs.DanglingLaws.{dangles_or_not, from_calm, settle_pass, settle_stop}

-- ---- the fields of a log

module _ (s : List ℕ) (b : Bytes s) where
  -- a log that is read has its records as fields
  pub whole_fields : (rs : List Record) → log_read s ≡ records rs → fields_from s 4 ≡ placed 4 rs
  whole_fields rs e =
      let w = read-write s b rs e in
      let l : length s ≤ 4 + length (write_all rs) = omega (arith, ap length w) in
      let z : drop (4 + length (write_all rs)) s ≡ [] = drop_of_length-le s l in
      front_fields s b rs 4 [] (read_good s b rs e) (ap (drop 4) (sym w) ∙ sym (append-nil (write_all rs)))
      ∙ ap (λ (l : List Entry). placed 4 rs ++ l) (step_end s (4 + length (write_all rs)) (at_end s (4 + length (write_all rs)) z))
      ∙ append-nil (placed 4 rs)

  -- records at its front come first
  fields-after : (rs : List Record) (p : ℕ) → Front s rs p → fields_from s 4 ≡ placed 4 rs ++ fields_from s p
  fields-after rs p f =
      let e : s ≡ log_of rs ++ drop p s = sym (take-append-drop p s) ∙ ap (λ (l : List ℕ). l ++ drop p s) f.bytes in
      let l : 4 + length (write_all rs) ≡ p = omega (arith, f.place) in
      front_fields s b rs 4 (drop p s) f.fit (ap (drop 4) e) ∙ ap (λ (n : ℕ). placed 4 rs ++ fields_from s n) l

  -- where bytes are left and no record stands, decoding refuses
  broken_bad : (p : ℕ) → Broken s p → decode_at s p ≡ bad p
  broken_bad p k = go (decode_at s p) refl
    where
      go : (d : Decoded) → decode_at s p ≡ d → decode_at s p ≡ bad p
      go (Ok (Some (r, n))) e = absurd (k.none r n.0 (decode_fits s b p r n.0 e) (encode_decode s b p r n.0 e))
      go (Ok None) e = let l = k.more in absurd (omega (arith, length-drop p s, ap length (ended s p e)))
      go (Err q) e = e ∙ ap Err (decoded_bad s p q e)

-- ---- what going through the fields answers

module _ (rs : List Record) (ok : AllRight [] (map event_of rs)) where
  -- after right records, the events are known, newest first
  pub seen : Views (reverse (map event_of rs))
  seen = views_all (map event_of rs) [] no_views ok

  scanned_right : scanned [] (placed 4 rs) ≡ right (reverse (map event_of rs))
  unfolding scanned
  scanned_right = ap (scanned []) (sym (append-nil (placed 4 rs))) ∙ scan_all rs [] no_views 4 [] ok

  answers_26 : most_committed < count_commits (map event_of rs) → judged (placed 4 rs) ≡ refused 26 0
  answers_26 h = rw (scanned_right, placed_events 4 rs, lt-ltb most_committed (count_commits (map event_of rs)) h)

  module _ (few : count_commits (map event_of rs) ≤ most_committed) where
    settling : judged (placed 4 rs) ≡ settled (stage (reverse (map event_of rs))) (passed (map event_of rs)) (placed 4 rs)
    settling = rw (scanned_right, placed_events 4 rs, le-ltb most_committed (count_commits (map event_of rs)) few)

    test : (q : Record) → Tells (Dangles (map event_of rs) (event_of q)) (¬ Dangles (map event_of rs) (event_of q))
        (history.dangling (stage (reverse (map event_of rs))) (event_of q))
    test q = dangles_or_not (map event_of rs) seen (event_of q)

    answers_27 : (p : ℕ) → FirstDangling rs p → judged (placed 4 rs) ≡ refused 27 p
    answers_27 p f =
        let st = stage (reverse (map event_of rs)) in
        let a = passed (map event_of rs) in
        let l : 4 + length (write_all f.before) ≡ p = omega (arith, f.place) in
        settling
        ∙ ap (λ (l : List Record). settled st a (placed 4 l)) f.splits
        ∙ ap (settled st a) (placed_append f.before (f.read ∷ f.after) 4)
        ∙ settle_pass st a f.before 4 _ (λ q m. is_false (test q) (f.first q m))
        ∙ settle_stop st a (4 + length (write_all f.before)) f.read _ (is_true (test f.read) f.dangles)
        ∙ ap (refused 27) l

    answers_0 : ((q : Record) → q ∈ rs → ¬ Dangles (map event_of rs) (event_of q)) → judged (placed 4 rs) ≡ passed (map event_of rs)
    unfolding settled
    answers_0 n =
        let st = stage (reverse (map event_of rs)) in
        let a = passed (map event_of rs) in
        settling ∙ ap (settled st a) (sym (append-nil (placed 4 rs))) ∙ settle_pass st a rs 4 [] (λ q m. is_false (test q) (n q m))

-- ---- the page's answer is found

pub of_map : {A B : Type 0} {e : B} (f : A → B) (l : List A) → e ∈ map f l → (a : A) × (a ∈ l) × (e ≡ f a)
of_map f [] m = absurd (Memᴰ.not-nil m)
of_map f (x ∷ l) m = elim (Memᴰ.cases_cons m) [
  | inl e ↦ (x, Memᴰ.head refl, e)
  | inr t ↦ (let r = of_map f l t in (r.0, Memᴰ.tail r.1, r.2))
]

to_map : {A B : Type 0} {a : A} (f : A → B) (l : List A) → a ∈ l → f a ∈ map f l
to_map f [] m = absurd (Memᴰ.not-nil m)
to_map f (x ∷ l) m = elim (Memᴰ.cases_cons m) [ inl e ↦ Memᴰ.head (ap f e) | inr t ↦ Memᴰ.tail (to_map f l t) ]

pub header_or_not : (s : List ℕ) → Tells (Headed s) (¬ Headed s) (header_ok s)
header_or_not s = go (header_ok s) refl
  where
    go : (t : Bool) → header_ok s ≡ t → Tells (Headed s) (¬ Headed s) t
    go true e = holds (header_is s e)
    go false e = fails (λ h. false≢true (sym e ∙ is_header s h.0 h.1))

-- a log that is read has its header
pub read_headed : (s : List ℕ) (rs : List Record) → log_read s ≡ records rs → Headed s
unfolding log_read
read_headed s rs e = go (header_or_not s) e
  where
    go : {t : Bool} → Tells (Headed s) (¬ Headed s) t → cond t (fields (length s) s 4) no_log ≡ records rs → Headed s
    go (holds h) e = h
    go (fails n) e = let z : ◌≡◌ {A = ℕ} 0 1 = cc in absurd (omega arith)

module _ (s : List ℕ) (b : Bytes s) where
  through : Headed s → history_of s ≡ judged (fields_from s 4)
  unfolding history_of
  through h = rw (is_header s h.0 h.1)

  refusing : ¬ Headed s → history_of s ≡ refused 21 0
  unfolding history_of
  refusing n = tell (λ (a : History). a ≡ refused 21 0) (header_or_not s) (λ h. absurd (n h)) (λ _. refl)

  -- the bad field stops the scan
  stopped : (before : List Record) → AllRight [] (map event_of before) → (p c : ℕ) → BadAt s p (map event_of before) c
      → scanned (reverse (map event_of before)) (fields_from s p) ≡ wrong c p
  unfolding scanned
  stopped before ok p c (no_record k) = rw (step_bad s p (record { 0 = record { 0 = p } }) (broken_bad s b p k))
  stopped before ok p c (no_right r n ft st nz l) =
      rw (step_field s b p r n (stands_decode s b p r n ft st))
      (scan_stop _ (seen before ok) p r (fields_from s n) c nz (same_lowest (retells_reverse (map event_of before)) (retells_straight (map event_of before)) l))

  answers_bad : (c p : ℕ) → FirstBadField s c p → judged (fields_from s 4) ≡ refused c p
  answers_bad c p f =
      let e : scanned [] (fields_from s 4) ≡ wrong c p = ap (scanned []) (fields-after s b f.before p f.front)
      ∙ scan_all f.before [] no_views 4 _ f.right ∙ stopped f.before f.right p c f.bad in
      rw e

  -- whatever the page answers, the checker answers
  pub answers_history : (h : History) → Answers s h → history_of s ≡ h
  answers_history h (no_log_lem n) = refusing n
  answers_history h (bad_field_lem c p hd f) = through hd ∙ answers_bad c p f
  answers_history h (too_many rs e ok n) = through (read_headed s rs e) ∙ ap judged (whole_fields s b rs e) ∙ answers_26 rs ok n
  answers_history h (dangling rs p e ok few f) = through (read_headed s rs e) ∙ ap judged (whole_fields s b rs e) ∙ answers_27 rs ok few p f
  answers_history h (well rs e w) =
      through (read_headed s rs e) ∙ ap judged (whole_fields s b rs e)
      ∙ answers_0 rs w.right w.few (λ q m. from_calm (map event_of rs) w.from (event_of q) (to_map event_of rs m))

-- The page answers something for every log: its header is right or not, its fields are all records or there is a first that is none, its records are all
-- right or there is a first wrong one, and so on down the table.
-- Assumes nothing.
use Prim.Native.Nat.{ℕ, zero, suc, ◌+◌, ◌≤◌, ◌<◌}
use native.Mathlib.Omega.{arith}
use mathlib.Core.Path.{◌≡◌, refl, sym, ap, ◌∙◌, subst}
use mathlib.Core.List.{List, [], ◌∷◌, ◌++◌, map, reverse, append_assoc, append-nil}
use mathlib.Core.Logic.{◌≢◌}
use mathlib.Core.Bool.{Bool, true}
use lib.ListN.{length, take, drop, length-append, length-drop, take-append-drop, drop_of_length-le}
use lib.Seq.{take-append_seam, drop-append_seam}
use Rattle.log_format.specs.Bytes.{Bytes}
use Rattle.log_format.specs.Fields.{Decoded, encode, cause_ok, Fits, decode_at, bad}
use Rattle.log_format.specs.Whole.{Parsed, records, no_log, bad_field, fields, log_read, write_all, log_of, Good}
use Rattle.log_format.specs.Whole as whole
use Rattle.log_format.specs.Events.{Event, event_of}
use Rattle.log_format.specs.declared.Record.{Record}
use Rattle.std.specs.Prelude.{Ok, Err, Some, None}
use Rattle.log_format.proofs.DecodeCases.{at_end}
use Rattle.log_format.proofs.RoundTrip.{decode_encode, encode_decode, bad_none}
use Rattle.log_format.proofs.WholeLaws.{is_header, read-write, read_good, first-bad}
use Rattle.history_rules.specs.WellFormed.{AllRight, most_committed, count_commits}
use Rattle.history_rules.specs.Wrong.{Lowest}
use Rattle.history_rules.specs.Faults.{stage}
use Rattle.history_rules.specs.History.{History, passed, refused}
use Rattle.history_rules.specs.History as history
use Rattle.history_rules.specs.Answers.{Headed, Front, no_record, no_right, FirstBadField, Dangles, Answers, no_log_lem, bad_field_lem, too_many, dangling, well}
use Rattle.history_rules.proofs.Tells.{Tells, by_test, of_true, of_false, says_lt}
use Rattle.history_rules.proofs.Stages.{no_views}
use Rattle.history_rules.proofs.OrderLaws.{retells_reverse, retells_straight, same_lowest}
use Rattle.history_rules.proofs.ScanLaws.{Scan, all_right, first_wrong, scan}
use Rattle.history_rules.proofs.DanglingLaws.{dangles_or_not, calm_from, Search, nowhere, somewhere, search}
use Rattle.history_rules.proofs.FoundAnswers.{header_or_not, seen, of_map}

-- ---- records of a log, and those before one of them

pub write_all-append : (a c : List Record) → write_all (a ++ c) ≡ write_all a ++ write_all c
write_all-append [] c = refl
write_all-append (r ∷ a) c = rw (write_all-append a c) (sym (append_assoc (encode r) (write_all a) (write_all c)))

good_parts : (a : List Record) (r : Record) (c : List Record) → Good (a ++ r ∷ c) → Good a × Fits r × (cause_ok r ≡ true)
unfolding Good
good_parts [] r c g = (tt, g.0, g.1)
good_parts (q ∷ a) r c g = let p = good_parts a r c g.2 in ((g.0, g.1, p.0), p.1, p.2)

module _ (s : List ℕ) (b : Bytes s) where
  -- where a log begins with records, its front is theirs
  front : (rs : List Record) (q : List ℕ) → s ≡ log_of rs ++ q → Good rs → Front s rs (length (log_of rs))
  front rs q e g = record { fit = g; bytes = ap (take (length (log_of rs))) e ∙ take-append_seam (log_of rs) q; place = refl }

  module _ (rs : List Record) (q : List ℕ) (is : s ≡ log_of rs ++ q) (g : Good rs) where
    -- the first wrong record is the first bad field
    wrong_record : (early : List Record) (r : Record) (late : List Record) (c : ℕ) → rs ≡ early ++ r ∷ late → AllRight [] (map event_of early) → c ≢ 0
        → Lowest (reverse (map event_of early)) (event_of r) c → FirstBadField s c (length (log_of early))
    wrong_record early r late c e ok nz l =
        let k = good_parts early r late (subst Good e g) in
        let w : s ≡ log_of early ++ (encode r ++ (write_all late ++ q)) = is ∙ ap (λ (t : List Record). log_of t ++ q) e ∙ simp (write_all-append, append_assoc) in
        let p = length (log_of early) in
        let d : drop p s ≡ encode r ++ (write_all late ++ q) = ap (drop p) w ∙ drop-append_seam (log_of early) _ in
        let n = p + length (encode r) in
        record {
          before = early;
          front = front early _ w k.0;
          right = ok;
          bad = no_right r n k.1 (encode_decode s b p r n (decode_encode s _ p r k.1 k.2 d)) nz
              (same_lowest (retells_straight _) (retells_reverse _) l);
        }

-- ---- a log whose fields are all records

abbrev Given : List ℕ → Type 0
Given s = (h : History) × Answers s h

module _ (s : List ℕ) (rs : List Record) (e : log_read s ≡ records rs) (ok : AllRight [] (map event_of rs)) where
  abbrev test : Record → Bool
  test r = history.dangling (stage (reverse (map event_of rs))) (event_of r)

  says : (q : Record) → Tells (Dangles (map event_of rs) (event_of q)) (¬ Dangles (map event_of rs) (event_of q)) (test q)
  says q = dangles_or_not (map event_of rs) (seen rs ok) (event_of q)

  -- 27, or none
  given_few : count_commits (map event_of rs) ≤ most_committed → Search test rs → Given s
  given_few few (nowhere f) = (
    passed (map event_of rs),
    well rs e (record {
      right = ok;
      few = few;
      from = calm_from (map event_of rs) (seen rs ok)
          (λ d m. let w = of_map event_of rs m in subst (λ (i : Event). ¬ Dangles (map event_of rs) i) (sym w.2) (of_false (says w.0) (f w.0 w.1)));
    }),
  )
  given_few few (somewhere early r late z h f) = (
    refused 27 (length (log_of early)),
    dangling rs _ e ok few (record {
      before = early;
      read = r;
      after = late;
      splits = z;
      place = refl;
      dangles = of_true (says r) h;
      first = λ q m. of_false (says q) (f q m);
    }),
  )

  -- 26 before it
  given_right : Given s
  given_right =
      by_test (says_lt most_committed (count_commits (map event_of rs))) (λ h. (refused 26 0, too_many rs e ok h)) (λ few. given_few few (search test rs))

-- ---- any log

-- going through fields never says that there is no log
no_no_log : (k : ℕ) (s : List ℕ) (at : ℕ) → fields k s at ≢ no_log
unfolding fields
no_no_log zero s at = λ e. let z : ◌≡◌ {A = ℕ} 0 1 = cc in omega arith
no_no_log (suc k) s at = go (decode_at s at) (λ n. no_no_log k s n)
  where
    with : (r : Record) (q : Parsed) → q ≢ no_log → whole.before r q ≢ no_log
    with r (records ts) n e = let z : ◌≡◌ {A = ℕ} 0 1 = cc in omega arith
    with r no_log n e = n refl
    with r (bad_field p) n e = let z : ◌≡◌ {A = ℕ} 0 1 = cc in omega arith

    go : (d : Decoded) → ((n : ℕ) → fields k s n ≢ no_log) → whole.after (fields k s) d ≢ no_log
    go (Ok (Some (r, p))) ih = with r (fields k s p.0) (ih p.0)
    go (Ok None) ih = λ e. let z : ◌≡◌ {A = ℕ} 0 1 = cc in omega arith
    go (Err b) ih = λ e. let z : ◌≡◌ {A = ℕ} 0 1 = cc in omega arith

module _ (s : List ℕ) (b : Bytes s) (hd : Headed s) where
  reads_some : log_read s ≢ no_log
  unfolding log_read
  reads_some = rw (is_header s hd.0 hd.1) (no_no_log (length s) s 4)

  -- 22 to 25, where its fields are all records
  given_whole : (rs : List Record) → log_read s ≡ records rs → Given s
  given_whole rs e = go (scan rs [] no_views)
    where
      go : Scan [] rs → Given s
      go (all_right ok) = given_right s rs e ok
      go (first_wrong early r late c z ok nz l) = (
        refused c _,
        bad_field_lem c _ hd (wrong_record s b rs [] (sym (read-write s b rs e) ∙ sym (append-nil (log_of rs))) (read_good s b rs e) early
            r late c z ok nz l),
      )

  -- and where one is not
  given_cut : (p : ℕ) → log_read s ≡ bad_field p → Given s
  given_cut p e =
      let f = first-bad s b p e in
      let w : s ≡ log_of f.rs ++ drop p s = sym (take-append-drop 4 s) ∙ rw (hd.1, f.bytes) in
      let l : p ≡ length (log_of f.rs) = omega (arith, left p f.none, length-drop p s, ap length w ∙ length-append (log_of f.rs) (drop p s)) in
      go f.rs f.good w l f.none (scan f.rs [] no_views)
    where
      left : (p : ℕ) → decode_at s p ≡ bad p → p < length s
      left p n = by_test (says_lt p (length s)) (λ h. h)
          (λ h.
          let d = at_end s p (drop_of_length-le s h) in
          let z : ◌≡◌ {A = ℕ} 0 1 = cc in
          absurd (omega arith))

      go : (rs : List Record) → Good rs → s ≡ log_of rs ++ drop p s → p ≡ length (log_of rs) → decode_at s p ≡ bad p → Scan [] rs → Given s
      go rs g w l n (first_wrong early r late c z ok nz m) = (refused c _, bad_field_lem c _ hd (wrong_record s b rs (drop p s) w g early r late c z ok nz m))
      go rs g w l n (all_right ok) = (
        refused 22 p,
        bad_field_lem 22 p hd (record {
          before = rs;
          front = subst (Front s rs) (sym l) (front s b rs (drop p s) w g);
          right = ok;
          bad = no_record (record { more = left p n; none = λ r m. bad_none s b p r m n });
        }),
      )

  given_headed : Given s
  given_headed = go (log_read s) refl
    where
      go : (q : Parsed) → log_read s ≡ q → Given s
      go (records rs) e = given_whole rs e
      go no_log e = absurd (reads_some e)
      go (bad_field p) e = given_cut p e

-- the page answers something for every log
pub given : (s : List ℕ) → Bytes s → Given s
given s b = by_test (header_or_not s) (λ h. given_headed s b h) (λ n. (refused 21 0, no_log_lem n))

-- Logs and version orders of cases A to F as bytes. Over items 0 and 1 each log passes 21 to 27 and each order 28, by computing, and the order is read back
-- as the lists of the case; items are names, so this holds over any two. So the checker's answer is the verdict on the events and the lists.
-- Assumes nothing.
use Prim.Native.Nat.{ℕ, ◌≤◌, ◌<◌, ◌^◌}
use native.Mathlib.Omega.{arith}
use borrow.Author.Rules.{rules}
use mathlib.Core.Path.{◌≡◌, refl, sym, ap, ◌∙◌, subst, fun_ext}
use mathlib.Core.List.{List, [], ◌∷◌, map}
use mathlib.Core.Bool.{Bool, true, false, cond}
use lib.Dec.{eqb}
use lib.ListN.{length}
use Rattle.lists.specs.Member.{◌∈◌}
use Rattle.log_format.specs.Bytes.{Bytes}
use Rattle.log_format.specs.Fields.{Fits, decode_at, body_len}
use Rattle.log_format.specs.Whole.{log_of, Good}
use Rattle.log_format.specs.Events.{Event, record_of}
use Rattle.log_format.specs.Told.{Done}
use Rattle.scheduler_laws.proofs.FromFresh.{retold}
use Rattle.history_rules.specs.WellFormed.{WellFormed}
use Rattle.history_rules.specs.Faults.{stage, written}
use Rattle.history_rules.specs.History.{passed, fields_at, fields_from, scanned, settled, history_of}
use Rattle.history_rules.proofs.HistoryLaws.{passed_well}
use Rattle.graph_theory.specs.Verdict.{Verdict}
use Rattle.serial_theory.specs.Edges.{VersionOrder}
use Rattle.serial_theory.specs.Judged.{committed, verdict}
use Rattle.serial_theory.specs.Cases.{order, log_a, log_b, log_c, log_e}
use Rattle.order_rules.specs.Fields.{Field, field, body_of, order_of, vs_of}
use Rattle.order_rules.specs.Reading as reading
use Rattle.order_rules.specs.Reading.{found_at, read_from, read_order, fields_of}
use Rattle.order_rules.specs.Right.{some_below, each_once, sound, left_out, right_by, right_order, RightOrder}
use Rattle.order_rules.proofs.VersionLaws.{stamps_fit}
use Rattle.order_rules.proofs.RightLaws.{right_passes, right_fields, passes_order}
use Rattle.checker_rules.specs.Answers.{judged}
use Rattle.checker_rules.proofs.CheckLaws.{judged-answer}
use Rattle.end_to_end.proofs.BytesLaws.{small_bytes}
use Rattle.cases.specs.Items.{Items, over, fields_for}
use Rattle.cases.specs.PageTable.{Judges}
use Rattle.cases.proofs.OverLaws.{Uses, verdict-over, well_over, bytes-over, passes_over}
use Rattle.cases.proofs.PlacedLaws.{Placed, one, two, versions-over}

-- ---- over items 0 and 1

-- the bytes of a log pass 21 to 27 with its events, those of an order pass 28, and they are read back as lists
record Read (log : List Event) (fs : List Field) (vs : ℕ → List ℕ) : Type 0 where
  passes : history_of (log_of (map record_of log)) ≡ passed log
  right : right_order log (order_of fs) ≡ true
  lists : vs_of (fields_of (order_of fs)) ≡ vs

-- the lists of an order with a field for x alone, and of one without a field

either_way : (b : Bool) (l : List ℕ) → cond b l l ≡ l
either_way true l = refl
either_way false l = refl

x_alone : (l : List ℕ) → vs_of (field 0 l ∷ []) ≡ order l []
unfolding vs_of
x_alone l = fun_ext (λ (i : ℕ). ap (cond (eqb i 0) l) (sym (either_way (eqb i 1) [])))

no_field : vs_of [] ≡ order [] []
unfolding vs_of
no_field = fun_ext (λ (i : ℕ). sym (ap (cond (eqb i 0) []) (either_way (eqb i 1) []) ∙ either_way (eqb i 0) []))

-- the cases
record Reads : Type 0 where
  A : Read log_a (field 0 (2 ∷ []) ∷ field 1 (1 ∷ []) ∷ []) (order (2 ∷ []) (1 ∷ []))
  B : Read log_b (field 0 (1 ∷ []) ∷ []) (order (1 ∷ []) [])
  C : Read log_c (field 0 (1 ∷ 2 ∷ []) ∷ []) (order (1 ∷ 2 ∷ []) [])
  D : Read log_c (field 0 (2 ∷ 1 ∷ []) ∷ []) (order (2 ∷ 1 ∷ []) [])
  E : Read log_e (field 0 (2 ∷ []) ∷ field 1 (2 ∷ []) ∷ []) (order (2 ∷ []) (2 ∷ []))
  F : Read [] [] (order [] [])

reads : Reads
unfolding history_of fields_from fields_at scanned stage written settled decode_at body_len right_order right_by left_out sound each_once some_below read_order read_from reading.fields_at found_at fields_of vs_of committed
reads = record {
  A = record { passes = refl; right = refl; lists = refl };
  B = record { passes = refl; right = refl; lists = x_alone (1 ∷ []) };
  C = record { passes = refl; right = refl; lists = x_alone (1 ∷ 2 ∷ []) };
  D = record { passes = refl; right = refl; lists = x_alone (2 ∷ 1 ∷ []) };
  E = record { passes = refl; right = refl; lists = refl };
  F = record { passes = refl; right = refl; lists = no_field };
}

-- the header alone has no item
pub header_alone : (v : Verdict) → verdict [] (order [] []) ≡ v → Judges [] [] v
header_alone v e a room = judged-answer (log_of []) [] a [] reads.F.passes reads.F.right room ∙ ap judged (ap (verdict []) reads.F.lists ∙ e)

-- ---- what the log has over any two items

pub record Base (log : List Event) (vs : ℕ → List ℕ) : Type 0 where
  pub uses : Uses log
  pub good : Good (map record_of log)
  pub few : length log ≤ 4000
  pub well : WellFormed log
  pub lists : VersionOrder log vs

base : (log : List Event) (fs : List Field) (vs : ℕ → List ℕ) → Read log fs vs → Uses log → Good (map record_of log) → length log ≤ 4000
    → Bytes (log_of (map record_of log)) → Bytes (order_of fs) → Base log vs
base log fs vs r u g few b c =
    let w = (passed_well (log_of (map record_of log)) b log r.passes).3 in
    record { uses = u; good = g; few = few; well = w; lists = subst (VersionOrder log) r.lists (passes_order log w (order_of fs) c r.right) }

-- its stamps fit
stamps_of_lem : {log : List Event} {vs : ℕ → List ℕ} → Base log vs → (i k : ℕ) → k ∈ vs i → k < 2 ^ 32
stamps_of_lem {log} b i k m = stamps_fit (map record_of log) b.good k (subst (Done k) (sym (retold log)) ((b.lists i).only k m).0)

zero_one : Items 0 1
zero_one = record { first = omega arith; second = omega arith; apart = omega arith }

pub record Bases : Type 0 where
  pub A : Base log_a (order (2 ∷ []) (1 ∷ []))
  pub B : Base log_b (order (1 ∷ []) [])
  pub C : Base log_c (order (1 ∷ 2 ∷ []) [])
  pub D : Base log_c (order (2 ∷ 1 ∷ []) [])
  pub E : Base log_e (order (2 ∷ []) (2 ∷ []))

pub bases : Bases
unfolding Good Fits
bases = record {
  A = base log_a (field 0 (2 ∷ []) ∷ field 1 (1 ∷ []) ∷ []) _ reads.A (search rules) (search rules) (omega arith) (bytes-over 0 1 zero_one log_a (search rules)) (small_bytes (order_of (field 0 (2 ∷ []) ∷ field 1 (1 ∷ []) ∷ [])) (search rules));
  B = base log_b (field 0 (1 ∷ []) ∷ []) _ reads.B (search rules) (search rules) (omega arith) (bytes-over 0 1 zero_one log_b (search rules)) (small_bytes (order_of (field 0 (1 ∷ []) ∷ [])) (search rules));
  C = base log_c (field 0 (1 ∷ 2 ∷ []) ∷ []) _ reads.C (search rules) (search rules) (omega arith) (bytes-over 0 1 zero_one log_c (search rules)) (small_bytes (order_of (field 0 (1 ∷ 2 ∷ []) ∷ [])) (search rules));
  D = base log_c (field 0 (2 ∷ 1 ∷ []) ∷ []) _ reads.D (search rules) (search rules) (omega arith) (bytes-over 0 1 zero_one log_c (search rules)) (small_bytes (order_of (field 0 (2 ∷ 1 ∷ []) ∷ [])) (search rules));
  E = base log_e (field 0 (2 ∷ []) ∷ field 1 (2 ∷ []) ∷ []) _ reads.E (search rules) (search rules) (omega arith) (bytes-over 0 1 zero_one log_e (search rules)) (small_bytes (order_of (field 0 (2 ∷ []) ∷ field 1 (2 ∷ []) ∷ [])) (search rules));
}

-- ---- over any two items

module _ (x y : ℕ) (it : Items x y) (log : List Event) where
  placed : (fs : List Field) (vs : ℕ → List ℕ) (v : Verdict) → Base log vs → Placed x y it fs vs → verdict log vs ≡ v → Judges (over x y log) fs v
  placed fs vs v b p e a room =
      let w = well_over x y it log b.uses b.well in
      let r : RightOrder (over x y log) (order_of fs) =
      record { fields = fs; fit = p.fit; bytes = refl; rise = p.rise; filled = p.filled; versions = versions-over x y it log b.uses fs vs b.lists p } in
      judged-answer (log_of (map record_of (over x y log))) (order_of fs) a (over x y log) (passes_over x y it log b.uses b.good b.few b.well) (right_passes (over x y log) w (order_of fs) r) (omega (arith, room))
      ∙ ap judged (ap (λ (gs : List Field). verdict (over x y log) (vs_of gs)) (right_fields (over x y log) w (order_of fs) r) ∙ verdict-over x y it log vs (vs_of fs) b.uses p.alike ∙ e)

  -- an order with a field for x
  pub placed_one : (k : ℕ) (ks : List ℕ) → Base log (order (k ∷ ks) []) → body_of (length (k ∷ ks)) < 65536 → Placed x y it (field x (k ∷ ks) ∷ []) (order (k ∷ ks) [])
  placed_one k ks b h = one x y it k ks (record { stamps = stamps_of_lem b 0; body = h })

  pub judges_one : (k : ℕ) (ks : List ℕ) (v : Verdict) → Base log (order (k ∷ ks) []) → body_of (length (k ∷ ks)) < 65536
      → verdict log (order (k ∷ ks) []) ≡ v → Judges (over x y log) (field x (k ∷ ks) ∷ []) v
  judges_one k ks v b h = placed (field x (k ∷ ks) ∷ []) (order (k ∷ ks) []) v b (placed_one k ks b h)

  -- an order with a field for each
  pub placed_two : (k l : ℕ) → Base log (order (k ∷ []) (l ∷ [])) → Placed x y it (fields_for x (k ∷ []) y (l ∷ [])) (order (k ∷ []) (l ∷ []))
  placed_two k l b = two x y it k [] l [] (record { stamps = stamps_of_lem b 0; body = omega arith }) (record { stamps = stamps_of_lem b 1; body = omega arith })

  pub judges_two : (k l : ℕ) (v : Verdict) → Base log (order (k ∷ []) (l ∷ [])) → verdict log (order (k ∷ []) (l ∷ [])) ≡ v
      → Judges (over x y log) (fields_for x (k ∷ []) y (l ∷ [])) v
  judges_two k l v b = placed (fields_for x (k ∷ []) y (l ∷ [])) (order (k ∷ []) (l ∷ [])) v b (placed_two k l b)

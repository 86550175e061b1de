-- The timestamp order is right, in stamp order, and the only one that is both: each list is the committed transactions that wrote the item, which rise, and
-- two rising lists with the same members are one list.
-- Assumes nothing.
use Prim.Native.Nat.{ℕ, ◌+◌, ◌*◌, ◌≤◌, ◌<◌, ◌^◌}
use native.Mathlib.Omega.{arith}
use mathlib.Core.Path.{◌≡◌, refl, sym, ap, ◌∙◌, fun_ext}
use mathlib.Core.List.Memᴰ
use mathlib.Core.List.{List, [], ◌∷◌, reverse}
use mathlib.Core.Bool.{Bool, true, false}
use lib.Dec.{leb}
use lib.ListN.{length}
use borrow.Author.Tests.{leb-true, leb-false}
use Rattle.lists.specs.Member.{Rising}
use Rattle.lists.specs.Order.{Lists}
use Rattle.lists.proofs.RisingLaws.{rising_distinct, rising_same}
use Rattle.log_format.specs.Events.{Event}
use Rattle.log_format.specs.Told.{Done}
use Rattle.history_rules.specs.WellFormed.{most_item, most_committed, WellFormed}
use Rattle.history_rules.specs.Faults.{written}
use Rattle.serial_theory.specs.Edges.{Version, VersionOrder}
use Rattle.serial_theory.specs.Judged.{committed}
use Rattle.serial_theory.proofs.CommittedLaws.{committed_is, committed_rising, committed-number}
use Rattle.order_rules.specs.Fields.{Field, order_of, vs_of, FieldFits}
use Rattle.order_rules.specs.Reading.{fields_of}
use Rattle.order_rules.specs.Right.{all_items, right_order, RightOrder}
use Rattle.order_rules.specs.Timestamps.{fields_up, timestamp_versions, timestamp_order, InStampOrder}
use Rattle.order_rules.proofs.VersionLaws.{put_item, written_puts}
use Rattle.order_rules.proofs.RightLaws.{right_passes, right_fields}
use Rattle.order_rules.proofs.UpwardLaws.{versions_in, in_versions, versions_rising, versions_few, up_rising, up_filled, up_fits}
use Rattle.order_rules.proofs.UpwardLaws.{up_vs, up_none, length_up, fields_same}

-- ---- of any log

pub timestamps_rise : (log : List Event) (x : ℕ) → Rising 0 (timestamp_versions log x)
unfolding timestamp_versions
timestamps_rise log x = versions_rising (written (reverse log)) x (committed log) 0 (committed_rising log)

-- the lists are the committed versions, each once
pub timestamp_versions_lem : (log : List Event) → VersionOrder log (timestamp_versions log)
unfolding timestamp_versions
timestamp_versions_lem log x = record {
  once = rising_distinct 0 (timestamp_versions log x) (timestamps_rise log x);
  all = λ k v. in_versions (written (reverse log)) x (committed log) k ((committed_is log k).1 v.0) ((written_puts log k x).1 v.1);
  only = λ k m. let r = versions_in (written (reverse log)) x (committed log) k m in ((committed_is log k).0 r.0, (written_puts log k x).0 r.1);
}

-- and no other version order rises
pub rising_is_timestamp : (log : List Event) (vs : ℕ → List ℕ) → VersionOrder log vs → (x : ℕ) → Rising 0 (vs x) → vs x ≡ timestamp_versions log x
rising_is_timestamp log vs vo x r =
    let t = timestamp_versions_lem log x in
    rising_same 0 0 (vs x) (timestamp_versions log x) r (timestamps_rise log x) (λ i. (λ m. t.all i ((vo x).only i m), λ m. (vo x).all i (t.only i m)))

-- ---- of a well-formed log, as bytes

module _ (log : List Event) (w : WellFormed log) where
  abbrev vs : ℕ → List ℕ
  vs = timestamp_versions log

  -- its fields
  abbrev pub stamp_fields : List Field
  stamp_fields = fields_up vs all_items 0

  -- no item over 63 has a version
  over : (x : ℕ) → most_item < x → (l : List ℕ) → Lists (Version log x) l → l ≡ []
  over x h [] v = refl
  over x h (k ∷ l) v = let p = put_item log w k x (v.only k (Memᴰ.head refl)).1 in absurd (omega arith)

  -- each item's list is its own
  pub stamp_lists : vs_of stamp_fields ≡ vs
  stamp_lists = fun_ext (λ (x : ℕ). go x (leb x most_item) refl)
    where
      go : (x : ℕ) (b : Bool) → leb x most_item ≡ b → vs_of stamp_fields x ≡ vs x
      go x true e = let h = leb-true x most_item e in up_vs vs all_items 0 x (omega arith) (omega arith)
      go x false e = let h = leb-false x most_item e in up_none vs all_items 0 x (omega arith)
          ∙ sym (over x (omega arith) (vs x) (timestamp_versions_lem log x))

  stamp-versions : VersionOrder log (vs_of stamp_fields)
  stamp-versions = rw stamp_lists (timestamp_versions_lem log)

  -- it is in stamp order
  stamp-rises : InStampOrder stamp_fields
  stamp-rises x = rw stamp_lists (timestamps_rise log x)

  few : (x : ℕ) → length (vs x) ≤ most_committed
  unfolding timestamp_versions
  few x =
      let a = versions_few (written (reverse log)) x (committed log) in
      let b = committed-number [] log w.right in
      let c = w.few in
      omega arith

  -- its length: at most 4 bytes an item and 4 a version
  pub timestamp_length : length (timestamp_order log) ≤ all_items * (4 + 4 * most_committed)
  unfolding timestamp_order
  timestamp_length = length_up vs most_committed all_items 0 few

  -- stamps that are read from a log fit 4 bytes
  module _ (fit : (t : ℕ) → Done t log → t < 2 ^ 32) where
    stamp-fits : (y : ℕ) → y < 0 + all_items → FieldFits y (vs y)
    stamp-fits y h = let n = few y in record {
      item = omega arith;
      stamps = λ k m. fit k ((timestamp_versions_lem log y).only k m).0;
      body = omega arith;
    }

    -- what is written is a right order, and passes 28
    pub timestamp_right : RightOrder log (timestamp_order log)
    unfolding timestamp_order
    timestamp_right = record {
      fields = stamp_fields;
      fit = up_fits vs all_items 0 stamp-fits;
      bytes = refl;
      rise = up_rising vs all_items 0;
      filled = up_filled vs all_items 0;
      versions = stamp-versions;
    }

    pub timestamp_passes : right_order log (timestamp_order log) ≡ true
    timestamp_passes = right_passes log w (timestamp_order log) timestamp_right

    -- its fields are read from it, and they are in stamp order
    pub timestamp_fields : fields_of (timestamp_order log) ≡ stamp_fields
    unfolding timestamp_right
    timestamp_fields = right_fields log w (timestamp_order log) timestamp_right

    pub timestamp_rises : InStampOrder (fields_of (timestamp_order log))
    timestamp_rises = rw timestamp_fields stamp-rises

  -- no other right order is in stamp order
  pub timestamp_unique : (s : List ℕ) (r : RightOrder log s) → InStampOrder r.fields → s ≡ timestamp_order log
  unfolding timestamp_order
  timestamp_unique s r o =
      r.bytes ∙ ap order_of (fields_same 0 r.fields stamp_fields r.rise (up_rising vs all_items 0) r.filled
      (up_filled vs all_items 0)
      (λ x. rising_is_timestamp log (vs_of r.fields) r.versions x (o x) ∙ sym (ap (λ (f : ℕ → List ℕ). f x) stamp_lists)))

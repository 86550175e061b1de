-- Each small order is what the table says, by computing.
-- Assumes nothing.
use mathlib.Core.Path.{refl}
use Rattle.log_format.specs.Fields.{body_len}
use Rattle.history_rules.specs.Faults.{written}
use Rattle.serial_theory.specs.Judged.{committed}
use Rattle.order_rules.specs.Fields.{vs_of}
use Rattle.order_rules.specs.Reading.{found_at, fields_at, read_from, read_order}
use Rattle.order_rules.specs.Right.{some_below, each_once, sound, left_out, right_by, right_order}
use Rattle.order_rules.specs.Timestamps.{fields_up, versions_by, timestamp_versions, timestamp_order}
use Rattle.order_rules.specs.Cases.{Cases}

pub cases : Cases
unfolding right_order right_by left_out sound each_once some_below read_order read_from fields_at found_at body_len vs_of written committed timestamp_order
    timestamp_versions versions_by fields_up
cases = record {
  rising = refl;
  falling = refl;
  timestamp = refl;
  initial = refl;
  aborted = refl;
  unfinished = refl;
  foreign = refl;
  doubled = refl;
  left_out_lem = refl;
  item_left_out = refl;
  nothing = refl;
  last_item_left_out = refl;
  items_fall = refl;
  items_equal = refl;
  item_in_parts = refl;
  empty_field = refl;
  item_64 = refl;
  other_tag = refl;
  byte_more = refl;
  cut = refl;
  none_committed = refl;
}

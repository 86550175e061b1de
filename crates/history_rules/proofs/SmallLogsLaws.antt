-- The answers of the small logs, computed.
-- Assumes nothing.
use mathlib.Core.Path.{refl}
use Rattle.log_format.specs.Fields.{decode_at, body_len}
use Rattle.history_rules.specs.Faults.{stage, written}
use Rattle.history_rules.specs.History.{fields_at, fields_from, scanned, settled, history_of}
use Rattle.history_rules.specs.SmallLogs.{SmallLogs}

pub small_logs : SmallLogs
unfolding history_of fields_from fields_at scanned stage written settled decode_at body_len
small_logs = record {
  header_alone = refl;
  nothing = refl;
  half_header = refl;
  unknown_tag = refl;
  second_header = refl;
  cut_field = refl;
  cause_two = refl;
  stamp_zero = refl;
  begun_twice = refl;
  begun-after_end = refl;
  not_begun = refl;
  ended_twice = refl;
  falling = refl;
  item_64_read = refl;
  item_64_written = refl;
  written_twice = refl;
  item_63 = refl;
  two_writers = refl;
  unwritten = refl;
  written-later = refl;
  aborted_earlier = refl;
  other_value = refl;
  initial_value = refl;
  own_passed_over = refl;
  own_read_lem = refl;
  two_ways = refl;
  two_fields = refl;
  wrong_then_broken = refl;
  never_commits = refl;
  aborted-later = refl;
  first_of_two = refl;
  reader_open = refl;
  commits_later = refl;
}

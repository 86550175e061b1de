-- The page's worked run as text and the edges of a line hold: each is computed.
-- Assumes nothing.
use mathlib.Core.Path.{refl}
use native.Mathlib.Decide.{ℕ_discrete, dec_le, dec_lt}
use Rattle.lists.specs.Choice.{pick, both, either, isnt}
use Rattle.lists.specs.Member.{memb, any?}
use Rattle.scheduler_rules.specs.Model.{below, put}
use Rattle.scheduler_rules.specs.Table.{good?, due, fine, table}
use Rattle.line_format.specs.Decimals.{digits, digits_in, more_digits, first_digit}
use Rattle.line_format.specs.Lines.{starts, one_number, two_numbers, three_numbers, parse_line}
use Rattle.line_format.specs.ReplyLines.{reply_line}
use Rattle.line_format.specs.PageLines.{PageLines, LineEdges}

pub page_lines : PageLines
unfolding pick table fine due good? memb both either isnt any? below put dec_le dec_lt ℕ_discrete digits digits_in more_digits first_digit starts one_number two_numbers three_numbers parse_line reply_line
page_lines = record { asked = refl; replied = refl }

pub line_edges : LineEdges
unfolding more_digits first_digit starts one_number two_numbers three_numbers parse_line
line_edges = record {
  largest = refl;
  over = refl;
  far_over = refl;
  longest-write = refl;
  stamp_0 = refl;
  item_64 = refl;
  zeros = refl;
  leading = refl;
  leading_item = refl;
  two_spaces = refl;
  two_between = refl;
  in_front = refl;
  behind = refl;
  cut_short = refl;
  capital = refl;
  empty = refl;
  no_number = refl;
  no_space = refl;
  one_short = refl;
  one_more = refl;
  no_digit = refl;
  negative = refl;
  limit = refl;
}

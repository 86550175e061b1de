-- The page's worked run as text, and both sides of the edges of a line.
-- Assumes nothing.
use Rattle.std.specs.Prelude.{ℕ, ◌≡◌, List, [], ◌∷◌, ◌++◌, map, Some, None}
use Rattle.scheduler_rules.specs.Model.{start}
use Rattle.scheduler_rules.specs.Run.{play, begin, read, write, abort}
use Rattle.scheduler_rules.specs.PageCases.{page}
use Rattle.scheduler_rules.specs.declared.Op.{Op}
use Rattle.scheduler_rules.specs.declared.Reply.{Reply}
use Rattle.line_format.specs.Decimals.{bytes}
use Rattle.line_format.specs.Lines.{longest, parse_line}
use Rattle.line_format.specs.ReplyLines.{reply_line, log_line}

-- the input of the run program, line by line
abbrev pub page_input : List (List ℕ)
page_input =
    bytes "begin 10" ∷ bytes "write 10 1 7" ∷ bytes "begin 20" ∷ bytes "read 20 1" ∷ bytes "commit 10" ∷ bytes "read 20 1"
    ∷ bytes "begin 30" ∷ bytes "read 30 2" ∷ bytes "write 20 2 9" ∷ bytes "commit 20" ∷ bytes "begin 20" ∷ bytes "commit 30" ∷ []

-- its output
abbrev pub page_output : List ℕ
page_output = bytes "ok\nok\nok\nwait 10\nok\nvalue 7 from 10\nok\nvalue 0 from 0\nlate 30\nno 5\nno 3\nok\nlog 91\n"

-- the lines that say the replies to operations
abbrev pub reply_lines : List Op → List Reply → List ℕ
reply_lines (op ∷ ops) (r ∷ rs) = reply_line op r ++ reply_lines ops rs
reply_lines [] rs = []
reply_lines (op ∷ ops) [] = []

-- the input is read as the page's operations, and the replies to them, with the bytes used, are the output
pub record PageLines : Type 0 where
  pub asked : map parse_line page_input ≡ map Some page
  pub replied : reply_lines page (play 65536 page start).replies ++ log_line (play 65536 page start).left.used ≡ page_output

pub record LineEdges : Type 0 where
  -- the largest number, and one more
  pub largest : parse_line (bytes "begin 4294967295") ≡ Some (begin 4294967295)
  pub over : parse_line (bytes "begin 4294967296") ≡ None
  pub far_over : parse_line (bytes "begin 10000000000000000000000") ≡ None
  pub longest-write : parse_line (bytes "write 4294967295 4294967295 4294967295") ≡ Some (write 4294967295 4294967295 4294967295)
  -- what the scheduler judges is a line
  pub stamp_0 : parse_line (bytes "abort 0") ≡ Some (abort 0)
  pub item_64 : parse_line (bytes "read 1 64") ≡ Some (read 1 64)
  -- no leading zero
  pub zeros : parse_line (bytes "begin 00") ≡ None
  pub leading : parse_line (bytes "begin 01") ≡ None
  pub leading_item : parse_line (bytes "read 1 01") ≡ None
  -- single spaces, and none at the end
  pub two_spaces : parse_line (bytes "begin  1") ≡ None
  pub two_between : parse_line (bytes "read 1  2") ≡ None
  pub in_front : parse_line (bytes " begin 1") ≡ None
  pub behind : parse_line (bytes "begin 1 ") ≡ None
  -- the keyword exactly, and its numbers
  pub cut_short : parse_line (bytes "beg 1") ≡ None
  pub capital : parse_line (bytes "Begin 1") ≡ None
  pub empty : parse_line [] ≡ None
  pub no_number : parse_line (bytes "commit ") ≡ None
  pub no_space : parse_line (bytes "commit1") ≡ None
  pub one_short : parse_line (bytes "write 1 2") ≡ None
  pub one_more : parse_line (bytes "read 1 2 3") ≡ None
  pub no_digit : parse_line (bytes "begin 1x") ≡ None
  pub negative : parse_line (bytes "begin -1") ≡ None
  -- the page's limit; no line that says an operation comes near it
  pub limit : longest ≡ 63

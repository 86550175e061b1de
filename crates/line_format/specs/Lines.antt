-- Operation lines: the line that says an operation, and what a line of bytes asks.
-- Assumes nothing.
use Rattle.std.specs.Prelude.{ℕ, ◌+◌, ◌≤◌, ◌≡◌, Bool, true, false, cond, List, [], ◌∷◌, ◌++◌, length, get_or, leb, eqb, Option, Some, None}
use Rattle.scheduler_rules.specs.Run.{begin, read, write, commit, abort}
use Rattle.scheduler_rules.specs.declared.Op.{Op}
use Rattle.line_format.specs.Decimals.{bytes, most, digits, decimal_at}

-- the longest line, in bytes
abbrev pub longest : ℕ
longest = 63

-- ---- saying an operation

-- a line of each kind, as the page writes them
abbrev pub begin_line : ℕ → List ℕ
begin_line k = bytes "begin " ++ digits k

abbrev pub read_line : ℕ → ℕ → List ℕ
read_line k x = bytes "read " ++ digits k ++ bytes " " ++ digits x

abbrev pub write_line : ℕ → ℕ → ℕ → List ℕ
write_line k x v = bytes "write " ++ digits k ++ bytes " " ++ digits x ++ bytes " " ++ digits v

abbrev pub commit_line : ℕ → List ℕ
commit_line k = bytes "commit " ++ digits k

abbrev pub abort_line : ℕ → List ℕ
abort_line k = bytes "abort " ++ digits k

-- s is a line that says an operation
pub data Says : List ℕ → Op → Type 0 where
  says_begin : (k : ℕ) → k ≤ most → Says (begin_line k) (begin k)
  says_read : (k x : ℕ) → k ≤ most → x ≤ most → Says (read_line k x) (read k x)
  says_write : (k x v : ℕ) → k ≤ most → x ≤ most → v ≤ most → Says (write_line k x v) (write k x v)
  says_commit : (k : ℕ) → k ≤ most → Says (commit_line k) (commit k)
  says_abort : (k : ℕ) → k ≤ most → Says (abort_line k) (abort k)

-- an operation that a line can say: one of the five kinds, each number in range, one that the kind has no use for 0
pub record Sayable (op : Op) : Type 0 where
  pub known : (1 ≤ op.kind) × (op.kind ≤ 5)
  pub stamp : op.stamp.0 ≤ most
  pub item : op.item ≤ most
  pub value : op.value ≤ most
  pub no_item : ¬ (op.kind ≡ 2) → ¬ (op.kind ≡ 3) → op.item ≡ 0
  pub no_value : ¬ (op.kind ≡ 3) → op.value ≡ 0

-- the line that says an operation; none for a kind that is not one of the five
unfoldable pub line_of : Op → List ℕ
line_of op =
    cond (eqb op.kind 1) (begin_line op.stamp.0)
    (cond (eqb op.kind 2) (read_line op.stamp.0 op.item)
    (cond (eqb op.kind 3) (write_line op.stamp.0 op.item op.value)
    (cond (eqb op.kind 4) (commit_line op.stamp.0)
    (cond (eqb op.kind 5) (abort_line op.stamp.0)
    []))))

-- ---- reading a line

-- a line begins with the bytes of a word
unfoldable pub starts : List ℕ → List ℕ → Bool
starts [] s = true
starts (w ∷ ws) [] = false
starts (w ∷ ws) (b ∷ s) = cond (eqb b w) (starts ws s) false

-- one space at a place, and a decimal after it
abbrev pub spaced_at : List ℕ → ℕ → Option (ℕ × ℕ)
spaced_at s at = cond (eqb (get_or s at 0) 32) (decimal_at s (at + 1)) None

-- what is made of a number and the place after it; where there is none, the line is bad
abbrev pub with_number : Option (ℕ × ℕ) → (ℕ → ℕ → Option Op) → Option Op
with_number (Some (n, at)) f = f n at
with_number None f = None

-- an operation, where the line ends at the place
abbrev pub ended : List ℕ → ℕ → Op → Option Op
ended s at op = cond (eqb at (length s)) (Some op) None

-- an operation of a stamp alone: begin, commit or abort
abbrev pub stamp_op : ℕ → ℕ → Op
stamp_op kind k = record { kind = kind; stamp = record { 0 = k }; item = 0; value = 0 }

-- one number after the keyword
unfoldable pub one_number : (ℕ → Op) → List ℕ → ℕ → Option Op
one_number f s at = with_number (decimal_at s at) (λ k a. ended s a (f k))

-- two numbers
unfoldable pub two_numbers : (ℕ → ℕ → Op) → List ℕ → ℕ → Option Op
two_numbers f s at = with_number (decimal_at s at) (λ k a. with_number (spaced_at s a) (λ x b. ended s b (f k x)))

-- three numbers
unfoldable pub three_numbers : (ℕ → ℕ → ℕ → Op) → List ℕ → ℕ → Option Op
three_numbers f s at = with_number (decimal_at s at) (λ k a. with_number (spaced_at s a) (λ x b. with_number (spaced_at s b) (λ v c. ended s c (f k x v))))

-- the keyword decides
abbrev pub by_keyword : List ℕ → Option Op
by_keyword s =
    cond (starts (bytes "begin ") s) (one_number begin s 6)
    (cond (starts (bytes "read ") s) (two_numbers read s 5)
    (cond (starts (bytes "write ") s) (three_numbers write s 6)
    (cond (starts (bytes "commit ") s) (one_number commit s 7)
    (cond (starts (bytes "abort ") s) (one_number abort s 6)
    None))))

-- what a line asks: an operation, or a bad line, answered by `no 2`
unfoldable pub parse_line : List ℕ → Option Op
parse_line s = cond (leb (length s) longest) (by_keyword s) None

-- Reply lines: the bytes that say a reply, each line with its newline.
-- Assumes nothing.
use Rattle.std.specs.Prelude.{ℕ, ◌≡◌, cond, List, ◌++◌, eqb}
use Prim.Native.String.{String}
use Rattle.scheduler_rules.specs.declared.Op.{Op}
use Rattle.scheduler_rules.specs.declared.Reply.{Reply}
use Rattle.line_format.specs.Decimals.{bytes, digits}

-- a word and a number
abbrev pub said : String → ℕ → List ℕ
said word n = bytes word ++ digits n ++ bytes "\n"

-- a read's value, and the stamp of the version that was read
abbrev pub value_line : ℕ → ℕ → List ℕ
value_line v k = bytes "value " ++ digits v ++ bytes " from " ++ digits k ++ bytes "\n"

-- code 0 says a read's value, and ok of the other kinds; 6 wait, 8 late; every other code is no
unfoldable pub reply_line : Op → Reply → List ℕ
reply_line op r =
    cond (eqb r.code 0) (cond (eqb op.kind 2) (value_line r.value r.stamp.0) (bytes "ok\n"))
    (cond (eqb r.code 6) (said "wait " r.stamp.0)
    (cond (eqb r.code 8) (said "late " r.stamp.0)
    (said "no " r.code)))

-- at the end, the bytes used
abbrev pub log_line : ℕ → List ℕ
log_line n = said "log " n

-- what a bad line is answered
abbrev pub bad_line : List ℕ
bad_line = bytes "no 2\n"

-- the same as a relation: the line that says a reply, by its code and the kind of the operation
pub data Replied (op : Op) (r : Reply) : List ℕ → Type 0 where
  value : r.code ≡ 0 → op.kind ≡ 2 → Replied op r (value_line r.value r.stamp.0)
  ok : r.code ≡ 0 → ¬ (op.kind ≡ 2) → Replied op r (bytes "ok\n")
  wait : r.code ≡ 6 → Replied op r (said "wait " r.stamp.0)
  late : r.code ≡ 8 → Replied op r (said "late " r.stamp.0)
  refused : ¬ (r.code ≡ 0) → ¬ (r.code ≡ 6) → ¬ (r.code ≡ 8) → Replied op r (said "no " r.code)

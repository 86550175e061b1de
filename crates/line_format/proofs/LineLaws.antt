-- A line is read as an operation exactly when it is the line of one that can be said; every other line is bad.
-- Assumes nothing.
use Prim.Native.Nat.{ℕ, zero, suc, ◌≤◌, ◌<◌}
use native.Mathlib.Omega.{arith}
use mathlib.Core.Path.{◌≡◌, refl}
use mathlib.Core.List.{List}
use lib.ListN.{length}
use borrow.Author.Tests.{lt-leb}
use Rattle.std.specs.Prelude.{Option, Some, None}
use Rattle.scheduler_rules.specs.declared.Op.{Op}
use Rattle.line_format.specs.Lines.{line_of}
use Rattle.line_format.specs.Lines.{Says, says_begin, says_read, says_write, says_commit, says_abort, Sayable}
use Rattle.line_format.specs.Lines.{parse_line}
use Rattle.line_format.proofs.SaysRead.{says_short, says_parse}
use Rattle.line_format.proofs.ReadSays.{parse_says}

-- a line that says an operation is the one line of it, and the operation can be said
pub says_line : {s : List ℕ} {op : Op} → Says s op → Sayable op × (s ≡ line_of op)
unfolding line_of
says_line (says_begin k h) = (record { known = (omega arith, omega arith); stamp = h; item = omega arith; value = omega arith; no_item = λ _ _. refl; no_value = λ _. refl }, refl)
says_line (says_read k x h i) = (record { known = (omega arith, omega arith); stamp = h; item = i; value = omega arith; no_item = λ n _. absurd (n refl); no_value = λ _. refl }, refl)
says_line (says_write k x v h i j) = (record { known = (omega arith, omega arith); stamp = h; item = i; value = j; no_item = λ _ n. absurd (n refl); no_value = λ n. absurd (n refl) }, refl)
says_line (says_commit k h) = (record { known = (omega arith, omega arith); stamp = h; item = omega arith; value = omega arith; no_item = λ _ _. refl; no_value = λ _. refl }, refl)
says_line (says_abort k h) = (record { known = (omega arith, omega arith); stamp = h; item = omega arith; value = omega arith; no_item = λ _ _. refl; no_value = λ _. refl }, refl)

-- an operation that can be said is said by its line
pub line_says : (op : Op) → Sayable op → Says (line_of op) op
unfolding line_of
line_says op h = go op.kind op.stamp.0 op.item op.value h
  where
    go : (kind k x v : ℕ) → Sayable (record { kind = kind; stamp = record { 0 = k }; item = x; value = v })
        → Says (line_of (record { kind = kind; stamp = record { 0 = k }; item = x; value = v })) (record { kind = kind; stamp = record { 0 = k }; item = x; value = v })
    go zero k x v h = absurd (omega (arith, h.known.0))
    go (suc zero) k x v h = rw (h.no_item (λ e. omega arith) (λ e. omega arith), h.no_value (λ e. omega arith)) (says_begin k h.stamp)
    go (suc (suc zero)) k x v h = rw (h.no_value (λ e. omega arith)) (says_read k x h.stamp h.item)
    go (suc (suc (suc zero))) k x v h = says_write k x v h.stamp h.item h.value
    go (suc (suc (suc (suc zero)))) k x v h = rw (h.no_item (λ e. omega arith) (λ e. omega arith), h.no_value (λ e. omega arith)) (says_commit k h.stamp)
    go (suc (suc (suc (suc (suc zero))))) k x v h = rw (h.no_item (λ e. omega arith) (λ e. omega arith), h.no_value (λ e. omega arith)) (says_abort k h.stamp)
    go (suc (suc (suc (suc (suc (suc n)))))) k x v h = absurd (omega (arith, h.known.1))

-- the line of an operation that can be said is read as that operation
pub parse_line_lem : (op : Op) → Sayable op → parse_line (line_of op) ≡ Some op
parse_line_lem op h = says_parse (line_says op h)

-- a line that is read as an operation is the line of it, the operation can be said, and the line has at most 63 bytes
pub line_parse : (s : List ℕ) (op : Op) → parse_line s ≡ Some op → Sayable op × (s ≡ line_of op) × (length s ≤ 63)
line_parse s op e =
    let r = parse_says s op e in
    let w = says_line r in
    (w.0, w.1, says_short r)

-- the line of an operation that can be said has at most 63 bytes
pub line_short : (op : Op) → Sayable op → length (line_of op) ≤ 63
line_short op h = says_short (line_says op h)

-- two operations that can be said have two lines
pub one_line : (a b : Op) → Sayable a → Sayable b → line_of a ≡ line_of b → a ≡ b
one_line a b h g e =
    let p : parse_line (line_of a) ≡ Some a = parse_line_lem a h in
    let q : parse_line (line_of b) ≡ Some b = parse_line_lem b g in
    cc

-- ---- bad lines

-- a line over 63 bytes is bad
pub long_bad : (s : List ℕ) → 63 < length s → parse_line s ≡ None
unfolding parse_line
long_bad s h = simp (lt-leb (length s) 63 h)

-- a bad line says nothing
pub bad_says : {s : List ℕ} {op : Op} → parse_line s ≡ None → ¬ Says s op
bad_says e r =
    let p = says_parse r in
    let z : ◌≡◌ {A = ℕ} 0 1 = cc in
    omega arith

-- a line that says nothing is bad
pub not_said : (s : List ℕ) → ((op : Op) → ¬ Says s op) → parse_line s ≡ None
not_said s h = go (parse_line s) refl
  where
    go : (p : Option Op) → parse_line s ≡ p → parse_line s ≡ None
    go (Some op) e = absurd (h op (parse_says s op e))
    go None e = e

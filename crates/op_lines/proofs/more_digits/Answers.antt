use Rattle.std.proofs.Common.{◌≡◌, ◌≤◌, ◌<◌, ◌+◌, ◌*◌, ◌-◌, get_or, sym, ◌∙◌, arith, length}
use Rattle.line_format.specs.Decimals.{most}
use Rattle.line_format.proofs.PlaceLaws.{digit_found, digits_next, digits-over, digits_stop, digits_end}
use Rattle.op_lines.proofs.more_digits.Goals as goal

pub returns-then-not-is_ascii_digit : goal.returns-then-not-is_ascii_digit
returns-then-not-is_ascii_digit c =
    let l = c.loop-at in
    let stop = digit_found (get_or c.args.line.now l.at 0) c.is_ascii_digit.ensures.value c.if-not-is_ascii_digit.true in
    sym (l.invariant ∙ digits_stop _ l.n l.at c.loop-at-test.true stop)

pub returns-in_err-checked_mul : goal.returns-in_err-checked_mul
returns-in_err-checked_mul c =
    let l = c.loop-at in
    let digit = digit_found (get_or c.args.line.now l.at 0) c.is_ascii_digit.ensures.value c.if-not-is_ascii_digit.false in
    let over : 4294967296 ≤ l.n * 10 = omega (arith, c.in_err-checked_mul.ensures) in
    c.from_residual.ensures ∙ sym (l.invariant ∙ digits-over _ l.n l.at c.loop-at-test.true digit (omega (arith, over)))

pub returns-in_err-n : goal.returns-in_err-n
returns-in_err-n c =
    let l = c.loop-at in
    let digit = digit_found (get_or c.args.line.now l.at 0) c.is_ascii_digit.ensures.value c.if-not-is_ascii_digit.false in
    let ten = c.in_ok-checked_mul.ensures in
    let over : most < l.n * 10 + (get_or c.args.line.now l.at 0 - 48) = omega (arith, ten.1, c.from.ensures, c.in_err-n.ensures) in
    c.from_residual-in_err-n.ensures ∙ sym (l.invariant ∙ digits-over _ l.n l.at c.loop-at-test.true digit over)

pub loop-at-preserved : goal.loop-at-preserved
loop-at-preserved c =
    let l = c.loop-at in
    let digit = digit_found (get_or c.args.line.now l.at 0) c.is_ascii_digit.ensures.value c.if-not-is_ascii_digit.false in
    let ten = c.in_ok-checked_mul.ensures in
    let next = c.in_ok-n.ensures in
    let n : c.in_ok-n.n ≡ l.n * 10 + (get_or c.args.line.now l.at 0 - 48) = omega (arith, ten.1, next.1, c.from.ensures) in
    rw n (l.invariant ∙ digits_next _ l.n l.at c.loop-at-test.true digit (omega (arith, ten.1, next.0, c.from.ensures)))

pub returns : goal.returns
returns c =
    let l = c.loop-at in
    let e : l.at ≡ length c.args.line.now = omega arith in
    rw (← e) (sym (l.invariant ∙ digits_end _ l.n l.at c.loop-at-test.false))

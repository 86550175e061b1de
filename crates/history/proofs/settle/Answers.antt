use Rattle.history.proofs.SettleLaws.{settle_end, settle_broken, settle_bad, settle_next}
use Rattle.log_format.proofs.Reading.{progress}
use mathlib.Core.Path.{sym, ◌∙◌}
use native.Mathlib.Omega.{arith}
use borrow.Author.Rules.{rules}
use Rattle.history.proofs.settle.Goals as goal

pub returns-in_default : goal.returns-in_default
returns-in_default c = settle_end c.loop-record.invariant c.requires.1 (omega arith) (search rules)

pub returns-in_default-2 : goal.returns-in_default-2
returns-in_default-2 c = settle_broken c.loop-record.invariant c.requires.1 (omega arith) _ (sym c.decode_at.ensures ∙ c.in_default.is)

pub returns-then-dangling_read : goal.returns-then-dangling_read
returns-then-dangling_read c =
    settle_bad c.loop-record.invariant c.requires.1 (omega arith) (λ i. (c.type_inv.log i).fits) (sym (rw c.in-Ok-Some.field-0-is at c.in-Ok-Some.ensures))
    (sym c.dangling_read.ensures ∙ c.if-dangling_read.true)

pub loop-record-smaller : goal.loop-record-smaller
loop-record-smaller c = omega (arith, progress _ (λ i. (c.type_inv.log i).fits) _ _ _ (sym (rw c.in-Ok-Some.field-0-is at c.in-Ok-Some.ensures)), c.loop-record.invariant.within)

pub loop-record-preserved : goal.loop-record-preserved
loop-record-preserved c =
    settle_next c.loop-record.invariant (λ i. (c.type_inv.log i).fits) (sym (rw c.in-Ok-Some.field-0-is at c.in-Ok-Some.ensures)) (sym c.dangling_read.ensures ∙ c.if-dangling_read.false)

use mathlib.Core.Path.{◌≡◌, sym, ◌∙◌}
use native.Mathlib.Omega.{arith}
use borrow.Author.Rules.{rules}
use Rattle.log_format.specs.Bytes.{Bytes}
use Rattle.log_format.specs.Fields.{decode_at, found}
use Rattle.log_format.proofs.Reading.{progress}
use Rattle.drawing.proofs.WalkLaws.{drawing_start, drawing_all, drawing_broken, drawing_next}
use Rattle.drawing.proofs.draw_log.Goals as goal

pub loop-record-init : goal.loop-record-init
loop-record-init c = drawing_start _ _ _ _ _ c.requires

pub returns-in_default : goal.returns-in_default
returns-in_default c =
    let l = c.loop-record in
    let b : Bytes c.args.log.now = λ i. (c.type_inv.log i).fits in
    drawing_all _ _ _ _ _ b l.at.0 l.invariant (search rules)

pub returns-in_default-2 : goal.returns-in_default-2
returns-in_default-2 c =
    let l = c.loop-record in
    let b : Bytes c.args.log.now = λ i. (c.type_inv.log i).fits in
    drawing_broken _ _ _ _ _ b l.at.0 l.invariant _ (sym c.decode_at.ensures ∙ c.in_default.is)

pub draw_record-requires : goal.draw_record-requires
draw_record-requires c = record { tables = c.requires.tables; matrix_fits = omega (arith, c.loop-record.invariant.size) }

pub loop-record-smaller : goal.loop-record-smaller
loop-record-smaller c =
    let f = c.in-Ok-Some in
    let e : decode_at c.args.log.now c.loop-record.at.0 ≡ found f.record f.next.0 = sym (rw f.field-0-is at f.ensures) in
    let p = progress _ (λ i. (c.type_inv.log i).fits) _ _ _ e in
    omega arith

pub loop-record-preserved : goal.loop-record-preserved
loop-record-preserved c =
    let f = c.in-Ok-Some in
    let b : Bytes c.args.log.now = λ i. (c.type_inv.log i).fits in
    let e : decode_at c.args.log.now c.loop-record.at.0 ≡ found f.record f.next.0 = sym (rw f.field-0-is at f.ensures) in
    drawing_next _ _ _ _ _ b c.loop-record.at.0 c.loop-record.invariant f.record f.next.0 e _ c.draw_record.ensures

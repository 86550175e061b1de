use Rattle.history.proofs.WalkLaws.{walk_start, walk_end, walk_broken, walk_bad, walk_room, walk_next, told_wrong, told_right}
use Rattle.log_format.proofs.Reading.{progress}
use Rattle.std.specs.Prelude.{Ok}
use mathlib.Core.Path.{sym, ap, ◌∙◌}
use Rattle.transactions.specs.Transactions.{told_code}
use native.Mathlib.Omega.{arith}
use borrow.Author.Rules.{rules}
use Rattle.std.proofs.lemmas.Result.{err_from_is_err_and}
use Rattle.history.proofs.walk.Goals as goal

pub loop-record-init : goal.loop-record-init
loop-record-init c = walk_start c.requires.0 c.requires.1.0

-- no field is left
pub returns-in_default : goal.returns-in_default
returns-in_default c = walk_end c.loop-record.invariant (sym c.decode_at.ensures ∙ c.in_ok-record.was ∙ ap Ok c.in_default.is)

-- no record stands there
pub returns-in_err-record : goal.returns-in_err-record
returns-in_err-record c =
    let p = err_from_is_err_and c.from_residual.result c.from_residual.ensures.1 in
    rw (p.1, p.2) (walk_broken c.loop-record.invariant _ (sym c.decode_at.ensures ∙ c.in_err-record.was))

pub returns-in_err-map_err : goal.returns-in_err-map_err
returns-in_err-map_err c =
    let p = err_from_is_err_and c.from_residual-in_err-map_err.result c.from_residual-in_err-map_err.ensures.1 in
    let w = told_wrong c.loop-record.at (λ f e k. search rules) c.check.result c.map_err.ensures.cases c.in_err-map_err.was in
    rw (p.1, p.2, w.1.1) (walk_bad c.loop-record.invariant (λ i. (c.type_inv.log i).fits) (sym c.decode_at.ensures ∙ c.in_ok-record.was ∙ ap Ok c.in-Some.is) c.check.ensures w.0 (ap told_code w.1.0))

pub note-requires : goal.note-requires
note-requires c =
    let i = c.loop-record.invariant in
    (i.table, walk_room i (λ j. (c.type_inv.log j).fits) (sym c.decode_at.ensures ∙ c.in_ok-record.was ∙ ap Ok c.in-Some.is) c.check.ensures c.requires.1.1)

pub loop-record-smaller : goal.loop-record-smaller
loop-record-smaller c = omega (arith, progress _ (λ i. (c.type_inv.log i).fits) _ _ _ (sym c.decode_at.ensures ∙ c.in_ok-record.was ∙ ap Ok c.in-Some.is), c.loop-record.invariant.within)

pub loop-record-preserved : goal.loop-record-preserved
loop-record-preserved c =
    walk_next c.loop-record.invariant (λ i. (c.type_inv.log i).fits) (sym c.decode_at.ensures ∙ c.in_ok-record.was ∙ ap Ok c.in-Some.is) c.check.ensures
    (told_right c.loop-record.at (λ f e k. search rules) c.check.result c.map_err.ensures.cases c.in_ok-map_err.was) c.requires.1.1 c.note.ensures
    c.commits_in-commits.ensures

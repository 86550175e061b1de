use Rattle.log_format.specs.Bytes.{Bytes}
use Rattle.version_order.specs.Judging.{passes}
use Rattle.version_order.proofs.WalkLaws.{walked_none, walked_clear, walked_next, walked_end, walked_bad, head_stands, stands_few, falls, too_large, refused}
use Rattle.std.proofs.lemmas.Result.{err_from_is_err_and}
use borrow.Author.Rules.{rules}
use mathlib.Core.Path.{refl, sym, ap, ◌∙◌}
use native.Mathlib.Omega.{arith}
use Rattle.std.specs.Prelude.{◌≡◌, ◌+◌, ◌*◌, Ok}
use Rattle.version_order.proofs.ranks.Goals.{then-head-least-via-then-head-least, then-head-least-via-else-head-least+then-head-gt-MAX_ITEM}
use Rattle.version_order.proofs.ranks.Goals as goal

pub loop-head-init : goal.loop-head-init
loop-head-init c = (walked_none c.requires.1, refl)

-- no field stands at the place
pub returns-in_err-head : goal.returns-in_err-head
returns-in_err-head c =
    let p = err_from_is_err_and c.from_residual.result c.from_residual.ensures.1 in
    rw p.1 (walked_bad c.loop-head.invariant.0 (sym c.found_at.ensures ∙ c.in_err-head.was))

-- ---- the field that was found stands at the place

pub returns-then-head-least : goal.returns-then-head-least
returns-then-head-least c =
    let t = head_stands c.found_at.ensures c.in_ok-head.was c.in-Some.is in
    elim c.then-head-least.branch [
      | then-head-least-via-then-head-least w ↦ falls c.loop-head.invariant.0 t w.if-head-least.true
      | then-head-least-via-else-head-least+then-head-gt-MAX_ITEM w ↦ too_large c.loop-head.invariant.0 t w.if-head-gt-MAX_ITEM.true
    ]

pub note_all-requires : goal.note_all-requires
note_all-requires c =
    let t = head_stands c.found_at.ensures c.in_ok-head.was c.in-Some.is in
    let w = t.within in
    let b : Bytes c.args.order.now = λ i. (c.type_inv.order i).fits in
    (omega arith, stands_few _ b _ _ _ t, omega arith, omega arith, walked_clear c.loop-head.invariant.0 _ (omega arith) (omega arith))

pub returns-in_err-note_all : goal.returns-in_err-note_all
returns-in_err-note_all c =
    let t = head_stands c.found_at.ensures c.in_ok-head.was c.in-Some.is in
    let p = err_from_is_err_and c.from_residual-in_err-note_all.result c.from_residual-in_err-note_all.ensures.1 in
    rw p.1 (refused c.loop-head.invariant.0 t (omega arith) (omega arith) c.note_all.ensures (ap passes c.in_err-note_all.was))

pub overflow_mul-at : goal.overflow_mul-at
overflow_mul-at c = let w = (head_stands c.found_at.ensures c.in_ok-head.was c.in-Some.is).within in omega arith

pub overflow_add-at : goal.overflow_add-at
overflow_add-at c = let w = (head_stands c.found_at.ensures c.in_ok-head.was c.in-Some.is).within in omega arith

pub overflow_add-at-in-Some : goal.overflow_add-at-in-Some
overflow_add-at-in-Some c = let w = (head_stands c.found_at.ensures c.in_ok-head.was c.in-Some.is).within in omega arith

pub loop-head-smaller : goal.loop-head-smaller
loop-head-smaller c = let w = (head_stands c.found_at.ensures c.in_ok-head.was c.in-Some.is).within in omega arith

pub loop-head-preserved : goal.loop-head-preserved
loop-head-preserved c =
    let t = head_stands c.found_at.ensures c.in_ok-head.was c.in-Some.is in
    let z : c.loop-head.at + (4 + 4 * c.in-Some.head.stamps) ≡ c.loop-head.at + 4 + 4 * c.in-Some.head.stamps = omega arith in
    (rw z (walked_next c.loop-head.invariant.0 t (omega arith) (omega arith) c.note_all.ensures (ap passes c.in_ok-note_all.was)), search rules)

-- ---- nothing stands there any more

pub returns-then-all_ranked : goal.returns-then-all_ranked
returns-then-all_ranked c =
    walked_end c.loop-head.invariant.0 (sym c.found_at.ensures ∙ c.in_ok-head.was ∙ ap Ok c.in_default.is) _ (sym c.if-all_ranked.true ∙ c.all_ranked.ensures)

pub returns-else-all_ranked : goal.returns-else-all_ranked
returns-else-all_ranked c =
    walked_end c.loop-head.invariant.0 (sym c.found_at.ensures ∙ c.in_ok-head.was ∙ ap Ok c.in_default.is) _ (sym c.if-all_ranked.false ∙ c.all_ranked.ensures)

-- `checker::svelmings_check` meets its contract: it is `check`, whose every answer is small enough for one number.
use mathlib.Core.Path.{subst, sym}
use Rattle.checker_rules.specs.Answers.{Small}
use Rattle.checker_rules.proofs.PanelLaws.{small, panel}
use Rattle.checker.proofs.svelmings_check.Goals as goal

pub one_number-requires : goal.one_number-requires
one_number-requires c =
    subst Small (sym c.check.ensures.answer) (small _ _ (λ i. (c.type_inv.log i).fits) (λ i. (c.type_inv.order i).fits) _)

pub returns : goal.returns
returns c = panel c.check.ensures c.one_number.ensures

-- `decision::planned` meets its contract: a damaged state first, then a bad operation, then the decision.
use Rattle.std.proofs.Common.{◌≡◌, ◌∙◌, sym, rules, Err}
use Rattle.decision.specs.declared.Refusal.TheVariants.{Malformed}
use Rattle.decision.proofs.WholeLaws.{can_decide, plan_decided}
use Rattle.decision.proofs.PlanLaws.{bad_decided}
use Rattle.decision.proofs.planned.Goals as goal

pub returns-in_err-kind : goal.returns-in_err-kind
returns-in_err-kind c =
    let bad = c.in_err-kind.ensures.err in
    let refused : c.from_residual.result ≡ Err Malformed = search rules in
    record {
      plan = rw refused (plan_decided (sym c.is_sound.ensures.is ∙ c.if-not-is_sound.false) (bad_decided _ _ _ bad.1));
      whole = λ h. c.is_sound.ensures.whole (c.is_sound.ensures.is ∙ h);
    }

pub decide-requires : goal.decide-requires
decide-requires c =
    let good = c.in_ok-kind.ensures.ok in
    can_decide _ _ _ _ (c.is_sound.ensures.whole c.if-not-is_sound.false) good.0 good.1

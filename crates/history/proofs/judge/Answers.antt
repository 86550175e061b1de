-- Without the header it is 21; else the first walk's refusal is handed up, or the second walk decides.
use Rattle.history.proofs.SettleLaws.{judge_unheaded, judge_stopped, judge_settled}
use borrow.Author.Rules.{rules}
use Rattle.std.proofs.lemmas.Result.{err_from_is_err_and}
use Rattle.history.proofs.judge.Goals as goal

pub returns-in_err-commits : goal.returns-in_err-commits
returns-in_err-commits c =
    let p = err_from_is_err_and c.from_residual.result c.from_residual.ensures.1 in
    rw (p.1, p.2) (judge_stopped (search rules) c.walk.ensures _ c.in_err-commits.was)

pub returns : goal.returns
returns c = judge_settled (search rules) c.walk.ensures c.in_ok-commits.was c.settle.ensures

pub returns-then-not-header_ok : goal.returns-then-not-header_ok
returns-then-not-header_ok c = judge_unheaded (search rules) c.requires

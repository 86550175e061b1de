-- `checker::check` meets its contract: the history refuses the log, or it was read, and is judged under the order.
use borrow.Author.Rules.{rules}
use Rattle.std.proofs.lemmas.Result.{err_from_is_err_and}
use Rattle.history.proofs.JudgedLaws.{lent_zeros, was_refused}
use Rattle.checker_rules.proofs.CheckLaws.{history_refused}
use Rattle.checker.proofs.check.Goals as goal

pub read_history-requires : goal.read_history-requires
read_history-requires c = (lent_zeros, search rules)

pub returns-in_err-count : goal.returns-in_err-count
returns-in_err-count c =
    let p = err_from_is_err_and c.from_residual.result c.from_residual.ensures.1 in
    rw (p.1, p.2) (history_refused _ _ _ _ (was_refused _ _ _ c.read_history.ensures c.in_err-count.was))

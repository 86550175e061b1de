-- `checker::check_read` meets its contract: the ranks say whether the order is right; with room for the answer, the verdict on the graph is it.
use mathlib.Core.Path.{ap}
use Rattle.std.proofs.lemmas.Result.{err_from_is_err_and}
use Rattle.version_order.specs.Judging.{passes}
use Rattle.checker.proofs.CheckedLaws.{blank_ranks, order_wrong, no_room_left, checked}
use Rattle.checker.proofs.check_read.Goals as goal

pub ranks-requires : goal.ranks-requires
ranks-requires c = blank_ranks c.requires.few

pub returns-in_err-ranks : goal.returns-in_err-ranks
returns-in_err-ranks c =
    let p = err_from_is_err_and c.from_residual.result c.from_residual.ensures.1 in
    rw (p.1, p.2) (order_wrong c.requires c.ranks.ensures (ap passes c.in_err-ranks.was))

pub returns-then-answer-committed : goal.returns-then-answer-committed
returns-then-answer-committed c = no_room_left c.requires c.ranks.ensures (ap passes c.in_ok-ranks.was) c.if-answer-committed.true

pub returns : goal.returns
returns c = checked c.requires c.ranks.ensures (λ i. (c.type_inv.order i).fits) (ap passes c.in_ok-ranks.was) c.if-answer-committed.false c.check_graph.ensures

-- `checker::order_read` meets its contract: the nodes are the log's committed transactions, so the order written is its timestamp order.
use Rattle.std.proofs.lemmas.Result.{err_from_is_err_and}
use Rattle.checker.proofs.OrderedLaws.{ordered, no_room}
use Rattle.checker.proofs.order_read.Goals as goal

pub returns-in_err-write_timestamp_order : goal.returns-in_err-write_timestamp_order
returns-in_err-write_timestamp_order c =
    let p = err_from_is_err_and c.from_residual.result c.from_residual.ensures.1 in
    rw (p.1, p.2) (no_room c.requires c.write_timestamp_order.ensures c.in_err-write_timestamp_order.was)

pub returns : goal.returns
returns c = ordered c.requires c.write_timestamp_order.ensures c.in_ok-write_timestamp_order.was

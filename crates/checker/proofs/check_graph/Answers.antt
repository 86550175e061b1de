-- `checker::check_graph` meets its contract: the matrix drawn has the log's edges, so the verdict on it is the log's.
use Rattle.checker.proofs.GraphLaws.{graph_is}
use Rattle.checker.proofs.check_graph.Goals as goal

pub returns : goal.returns
returns c = graph_is _ _ _ _ _ _ _ _ c.draw_log.ensures c.judge_graph.ensures

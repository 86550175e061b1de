-- `graph::put_cycle` meets its contract: the part from the smallest on is written first, then the part before it.
use Rattle.graph.proofs.AnswerLaws.{turned}
use Rattle.graph.proofs.put_cycle.Goals as goal

pub returns : goal.returns
returns c =
    let s = c.split_at.ensures in
    let back = rw s.back at c.put_stamps.ensures in
    let front = rw (s.back, s.front) at c.put_stamps-2.ensures in
    turned c.args.nodes.now c.args.cycle.now c.least_at.result c.args.answer.now c.put_stamps.new.answer _ c.least_at.ensures c.requires.room back front

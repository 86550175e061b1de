-- `order_writer::put_if` meets its contract: four stores in a row are one write; where the node did not write the item, nothing is written.
use Rattle.history_rules.specs.Held.{written_in}
use Rattle.index.specs.Index.{table_of}
use Rattle.order_writer.proofs.WritingLaws.{placed_none}
use mathlib.Core.Path.{sym, ◌∙◌}
use Rattle.order_writer.proofs.put_if.Goals as goal

pub returns : goal.returns
returns c =
    let a = c.args in
    placed_none (written_in (table_of a.committed.now.map.now)) a.item a.stamp a.out.now a.at (sym c.wrote.ensures ∙ c.if-wrote.false)

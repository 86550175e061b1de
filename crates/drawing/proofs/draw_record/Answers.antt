-- A record of another kind draws nothing, nor does a read whose reader is none of the nodes, or of no item; any other read draws its edges.
use Rattle.drawing.proofs.RecordLaws.{unfinished_drawn, no_item_drawn, read_drawn}
use Rattle.drawing.proofs.draw_record.Goals as goal

pub returns-in_default-find : goal.returns-in_default-find
returns-in_default-find c = rw c.in-Read.is (unfinished_drawn _ _ _ _ _ _ _ _ c.in_default-find.ensures)

pub returns-then-item-gt-MAX_ITEM : goal.returns-then-item-gt-MAX_ITEM
returns-then-item-gt-MAX_ITEM c = rw c.in-Read.is (no_item_drawn _ _ _ _ _ _ _ _ c.if-item-gt-MAX_ITEM.true)

pub returns : goal.returns
returns c =
    let t = c.requires.tables in
    rw c.in-Read.is (read_drawn _ _ _ _ _ _ _ _ _ _ t.few t.within c.in-Some.ensures c.find-source.ensures _ (rw c.from.ensures at c.draw_read.ensures))

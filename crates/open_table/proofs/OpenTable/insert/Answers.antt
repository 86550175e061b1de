-- `OpenTable::insert` meets its contract: one place and the count differ, which is the table of one stamp more.
use Rattle.open_table.proofs.TableLaws.{insert_padded}
use Rattle.open_table.proofs.OpenTable.insert.Goals as goal

pub returns : goal.returns
returns c = insert_padded c.args.self c.args.k c.requires.padded c.requires.room

-- Each kind of record but a read pushes one row at its key.
use Rattle.transactions.proofs.NoteLaws.{note_read}
use Rattle.transactions.proofs.note.Goals as goal

pub returns-in-Read : goal.returns-in-Read
returns-in-Read c = note_read c.in-Read.is c.requires.0

-- `version_order::note_all` meets its contract: at each turn the stamps so far are noted, and a stamp that `note` refuses fails the field's test.
use Prim.Native.Nat.{◌+◌}
use Rattle.history_rules.specs.Held.{written_in}
use Rattle.index.specs.Index.{table_of}
use Rattle.version_order.proofs.NoteLaws.{Noting}
use Rattle.version_order.proofs.note_all.Given as goal

abbrev pub invariant-loop-i : goal.invariant-loop-i
invariant-loop-i l =
    Noting (written_in (table_of l.committed.map.now)) l.committed.nodes.now l.head.item l.order (l.at + 4) l.head.stamps l.fn.rank l.rank l.i

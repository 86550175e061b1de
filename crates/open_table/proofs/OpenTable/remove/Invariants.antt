-- The loop's invariant: the new table is made of the stamps passed that are not the one to go.
use Rattle.std.proofs.Common.{◌≡◌, map, take}
use Rattle.scheduler_rules.specs.Model.{close}
use Rattle.open_table.specs.Open.{number, table_of}
use Rattle.open_table.proofs.OpenTable.remove.Given as goal

abbrev pub invariant-loop-s : goal.invariant-loop-s
invariant-loop-s l = l.kept ≡ table_of (close l.k.0 (map number (take l.s-index l.s-items)))

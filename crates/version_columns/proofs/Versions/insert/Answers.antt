use Rattle.std.proofs.Common.{refl}
use Rattle.version_columns.proofs.Joined.{versions_eq}
use Rattle.version_columns.proofs.Versions.insert.Goals as goal

pub returns : goal.returns
returns c = versions_eq c.insert_in.ensures c.insert_in-2.ensures c.insert_in-3.ensures c.insert_in-4.ensures refl

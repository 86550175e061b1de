-- The small graphs have the verdicts said. Each is computed.
-- Assumes nothing.
use mathlib.Core.Path.{refl}
use Rattle.graph_theory.specs.SmallGraphs.{SmallGraphs}

pub small_graphs : SmallGraphs
small_graphs = record { ordered = refl; ring = refl; aside = refl; least = refl }

-- The run with edges and case A under the timestamp order, computed.
-- Assumes nothing.
use native.Mathlib.Decide.{ℕ_discrete, dec_le, dec_lt}
use mathlib.Core.Path.{◌≡◌, refl}
use mathlib.Core.List.{[], ◌∷◌}
use Rattle.lists.specs.Choice.{pick, both, either, isnt}
use Rattle.lists.specs.Member.{memb, any?}
use Rattle.scheduler_rules.specs.Model.{below, put}
use Rattle.scheduler_rules.specs.Table.{good?, due, fine, table}
use Rattle.graph_theory.specs.Verdict.{cycle}
use Rattle.serial_theory.specs.EdgeTest.{edge}
use Rattle.serial_theory.specs.Judged.{committed, verdict}
use Rattle.serial_theory.specs.Cases.{log_a}
use Rattle.serial_theory.proofs.EdgeLaws.{edge_true}
use Rattle.history_rules.specs.Faults.{written}
use Rattle.order_rules.specs.Timestamps.{versions_by, timestamp_versions}
use Rattle.end_to_end.specs.NotEmptily.{out_of_turn_log, OutOfTurn}

pub out_of_turn_lem : OutOfTurn
unfolding pick table fine due good? memb both either isnt any? below put dec_le dec_lt ℕ_discrete verdict edge committed timestamp_versions versions_by written
out_of_turn_lem = record {
  written = refl;
  by_stamp = refl;
  before = edge_true out_of_turn_log (timestamp_versions out_of_turn_log) 1 2 refl;
  from = edge_true out_of_turn_log (timestamp_versions out_of_turn_log) 2 3 refl;
  by_commit = refl;
}

pub A_cycle : verdict log_a (timestamp_versions log_a) ≡ cycle (1 ∷ 2 ∷ [])
unfolding verdict edge committed timestamp_versions versions_by written
A_cycle = refl

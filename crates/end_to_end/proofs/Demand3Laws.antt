-- Demand 3. The bytes used tell the events written, which the model behind the state is reached with; so what holds of its events in timestamp order
-- holds of the log, and what the checker reads from these bytes passes with them.
-- Assumes nothing.
use Prim.Native.Nat.{ℕ, ◌≤◌}
use mathlib.Core.Path.{◌≡◌, sym, ap, ◌∙◌, subst}
use mathlib.Core.List.{List, map}
use lib.ListN.{take}
use Rattle.log_format.specs.Bytes.{Bytes}
use Rattle.log_format.specs.Events.{Event, event_of, events_of, events}
use Rattle.scheduler_rules.proofs.Reachable.{events_lawful}
use Rattle.scheduler.specs.declared.State.{State}
use Rattle.scheduler_laws.specs.Reach.{used_of, Reach, oldest_first}
use Rattle.scheduler_laws.proofs.OneCall.{record_is_said}
use Rattle.scheduler_laws.proofs.FromFresh.{model_is_reached, log_is, rest_is, log_reads, log_tells, smallest_never_waits}
use Rattle.history_rules.specs.WellFormed.{most_committed, count_commits, WellFormed}
use Rattle.history_rules.specs.History.{passed, history_of}
use Rattle.history_rules.proofs.HistoryLaws.{well_passed}
use Rattle.end_to_end.specs.Demand3.{told, InTimestampOrder, Demand3}
use Rattle.end_to_end.proofs.BytesLaws.{lawful_bytes}
use Rattle.end_to_end.proofs.RisingEdges.{in_timestamp_order}

module _ {b₀ : List ℕ} {s : State} {b : List ℕ} {es : List Event} (r : Reach b₀ s b es) where
  ordered : InTimestampOrder (told s b)
  ordered = subst InTimestampOrder (sym (log_tells r)) (in_timestamp_order (model_is_reached r))

  well_formed : count_commits (told s b) ≤ most_committed → WellFormed (told s b)
  well_formed few = record { right = ordered.regular.right; few = few; from = ordered.regular.from }

  pub are_bytes : Bytes (take (used_of s) b)
  are_bytes = rw (log_is r) (lawful_bytes es (events_lawful (model_is_reached r)))

  -- what is told are the events of the records read
  pub told_is : told s b ≡ map event_of (oldest_first es)
  unfolding events
  told_is = ap events_of (log_reads r)

  passes : count_commits (told s b) ≤ most_committed → history_of (take (used_of s) b) ≡ passed (told s b)
  passes few = well_passed (take (used_of s) b) are_bytes (oldest_first es) (log_reads r) (subst WellFormed told_is (well_formed few)) ∙ ap passed (sym told_is)

  pub demand3 : Demand3 b₀ s b es
  demand3 = record {
    said = λ op. record_is_said s op b;
    bytes = log_is r;
    rest = rest_is r;
    tells = log_tells r;
    ordered = ordered;
    well_formed = well_formed;
    passes = passes;
    never_waits = smallest_never_waits r;
  }

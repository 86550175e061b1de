-- The timestamp order as bytes passes 28, and is read back as its lists, under which the log's verdict is accepted.
-- Assumes nothing.
use Prim.Native.Nat.{ℕ, ◌≤◌, ◌<◌, ◌^◌}
use native.Mathlib.Omega.{arith}
use mathlib.Core.Path.{◌≡◌, ap, ◌∙◌, subst}
use mathlib.Core.List.{List}
use lib.ListN.{take}
use Rattle.log_format.specs.Events.{Event}
use Rattle.log_format.specs.Told.{Done}
use Rattle.log_format.proofs.WholeLaws.{read_good}
use Rattle.scheduler.specs.declared.State.{State}
use Rattle.scheduler_laws.specs.Reach.{used_of, Reach, oldest_first}
use Rattle.scheduler_laws.proofs.FromFresh.{log_reads}
use Rattle.history_rules.specs.WellFormed.{most_committed, count_commits, WellFormed}
use Rattle.graph_theory.specs.Verdict.{accepted}
use Rattle.serial_theory.specs.Judged.{committed, verdict}
use Rattle.order_rules.specs.Fields.{vs_of}
use Rattle.order_rules.specs.Reading.{fields_of}
use Rattle.order_rules.specs.Timestamps.{timestamp_versions, timestamp_order}
use Rattle.order_rules.proofs.VersionLaws.{stamps_fit}
use Rattle.order_rules.proofs.TimestampLaws.{timestamp_passes, timestamp_fields, stamp_lists}
use Rattle.checker_rules.specs.Answers.{judged}
use Rattle.checker_rules.proofs.CheckLaws.{judged-answer}
use Rattle.checker_rules.proofs.OrderLaws.{written}
use Rattle.end_to_end.specs.Demand3.{told}
use Rattle.end_to_end.specs.Checked.{Checked}
use Rattle.end_to_end.proofs.Demand3Laws.{are_bytes, told_is, demand3}

module _ {b₀ : List ℕ} {s : State} {b : List ℕ} {es : List Event} (r : Reach b₀ s b es) where
  -- the stamps of a log that was read fit 4 bytes
  fit : (t : ℕ) → Done t (told s b) → t < 2 ^ 32
  fit t d = stamps_fit (oldest_first es) (read_good (take (used_of s) b) (are_bytes r) (oldest_first es) (log_reads r)) t (subst (Done t) (told_is r) d)

  module _ (few : count_commits (told s b) ≤ most_committed) where
    well : WellFormed (told s b)
    well = (demand3 r).well_formed few

    -- the lists that are read from the bytes are the timestamp order's
    lists_are : vs_of (fields_of (timestamp_order (told s b))) ≡ timestamp_versions (told s b)
    lists_are = ap vs_of (timestamp_fields (told s b) well fit) ∙ stamp_lists (told s b) well

    verdict_is : verdict (told s b) (vs_of (fields_of (timestamp_order (told s b)))) ≡ accepted (committed (told s b))
    verdict_is = ap (verdict (told s b)) lists_are ∙ (demand3 r).ordered.accepts

  pub checked : (a : List ℕ) → Checked s b a
  checked a = record {
    orders = λ few room. written (take (used_of s) b) a (told s b) ((demand3 r).passes few) room;
    accepts =
        λ few room. judged-answer (take (used_of s) b) (timestamp_order (told s b)) a (told s b) ((demand3 r).passes few)
        (timestamp_passes (told s b) ((demand3 r).well_formed few) fit) (omega (arith, room)) ∙ ap judged (verdict_is few);
  }

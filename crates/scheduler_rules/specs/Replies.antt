-- The page's table as a relation: what is answered, left and written, given exactly when no earlier row applies and the row's own words hold.
-- Assumes nothing.
use Rattle.std.specs.Prelude.{ℕ, ◌≡◌, [], ◌∷◌}
use Rattle.log_format.specs.Events.{begins, reads, writes, commits, aborts}
use Rattle.scheduler_rules.specs.Model.{Model, begun, got, stored, ended, dropped}
use Rattle.scheduler_rules.specs.Table.{Outcome, answer, refuse, seen, overlaid}
use Rattle.scheduler_rules.specs.Table.{Row2, Row3, Row4, Row5, Row6, Row7, Row8, Row9, Row10}
use Rattle.scheduler_rules.specs.declared.Op.{Op}

-- no row before 8 and 0 applies
pub record Passed (room : ℕ) (op : Op) (m : Model) : Type 0 where
  pub not2 : ¬ Row2 op m
  pub not3 : ¬ Row3 op m
  pub not4 : ¬ Row4 op m
  pub not5 : ¬ Row5 op m
  pub not6 : ¬ Row6 op m
  pub not7 : ¬ Row7 op m
  pub not9 : ¬ Row9 op m
  pub not10 : ¬ Row10 room op m

-- the outcome of an operation, in the order of checking
pub data Given (room : ℕ) (op : Op) (m : Model) : Outcome → Type 0 where
  given2 : Row2 op m → Given room op m (refuse 2 m)
  given3 : ¬ Row2 op m → Row3 op m → Given room op m (refuse 3 m)
  given4 : ¬ Row2 op m → ¬ Row3 op m → Row4 op m → Given room op m (refuse 4 m)
  given5 : ¬ Row2 op m → ¬ Row3 op m → ¬ Row4 op m → Row5 op m → Given room op m (refuse 5 m)
  given6 : ¬ Row2 op m → ¬ Row3 op m → ¬ Row4 op m → ¬ Row5 op m → Row6 op m → Given room op m (answer 6 (seen op m).stamp 0 m [])
  given7 : ¬ Row2 op m → ¬ Row3 op m → ¬ Row4 op m → ¬ Row5 op m → ¬ Row6 op m → Row7 op m → Given room op m (refuse 7 m)
  given9 : ¬ Row2 op m → ¬ Row3 op m → ¬ Row4 op m → ¬ Row5 op m → ¬ Row6 op m → ¬ Row7 op m → Row9 op m → Given room op m (refuse 9 m)
  given10 : ¬ Row2 op m → ¬ Row3 op m → ¬ Row4 op m → ¬ Row5 op m → ¬ Row6 op m → ¬ Row7 op m → ¬ Row9 op m → Row10 room op m → Given room op m (refuse 10 m)
  -- a late write: the transaction is aborted
  given8 : Passed room op m → Row8 op m → Given room op m (answer 8 (overlaid op m).mark 0 (dropped op.stamp.0 m) (aborts op.stamp.0 1 ∷ []))
  -- otherwise 0, by kind
  began : Passed room op m → op.kind ≡ 1 → Given room op m (answer 0 0 0 (begun op.stamp.0 m) (begins op.stamp.0 ∷ []))
  read : Passed room op m → op.kind ≡ 2
      → Given room op m (answer 0 (seen op m).stamp (seen op m).value (got op.stamp.0 op.item (seen op m).stamp m)
      (reads op.stamp.0 op.item (seen op m).stamp (seen op m).value ∷ []))
  written : Passed room op m → ¬ Row8 op m → op.kind ≡ 3
      → Given room op m (answer 0 0 0 (stored op.stamp.0 op.item op.value m) (writes op.stamp.0 op.item op.value ∷ []))
  committed : Passed room op m → op.kind ≡ 4 → Given room op m (answer 0 0 0 (ended op.stamp.0 m) (commits op.stamp.0 ∷ []))
  aborted : Passed room op m → op.kind ≡ 5 → Given room op m (answer 0 0 0 (dropped op.stamp.0 m) (aborts op.stamp.0 0 ∷ []))

-- The part from `at` to the count is copied one place on, and the new entry stands where it began.
use Rattle.std.proofs.Common.{◌∙◌, List, ℕ, ap, set, arith}
use Rattle.lists.proofs.ShiftLaws.{opened_set}
use Rattle.version_columns.proofs.ColumnLaws.{copied_opened}
use Rattle.version_columns.proofs.insert_in.Goals as goal

pub returns : goal.returns
returns c =
    let a = c.args in
    let l = a.column.now in
    ap (λ (r : List ℕ). set r a.at a.x) (c.copy_within.ensures.after ∙ copied_opened l a.at a.count (omega arith) (omega arith))
    ∙ opened_set l a.at a.count a.x 0 (omega arith) (omega arith)

-- `damage::columns_sound` meets its contract: the tests of the definition, in its order, which pass on undamaged columns alone.
use Rattle.std.proofs.Common.{◌≡◌, ◌≤◌, ◌&&◌, ◌∙◌, sym, arith}
use borrow.Author.Tests.{le-leb, lt-leb}
use Rattle.scheduler_rules.specs.Model.{max_versions}
use Rattle.version_columns.proofs.RowLaws.{Wide}
use Rattle.damage.specs.Damage.{columns_sound}
use Rattle.damage.proofs.DamageLaws.{columns_are}
use Rattle.damage.proofs.columns_sound.Goals as goal

pub returns-then-count-gt-MOST-clause-is : goal.returns-then-count-gt-MOST-clause-is
unfolding columns_sound
returns-then-count-gt-MOST-clause-is c = rw (lt-leb c.args.versions.now.count max_versions c.if-count-gt-MOST.true)

pub returns : goal.returns
unfolding columns_sound
returns c =
    let t = c.args.versions.now in
    let w : Wide t = record { items = omega arith; stamps = omega arith; values = omega arith; marks = omega arith } in
    let within : t.count ≤ max_versions = c.if-count-gt-MOST.false in
    let is : (c.rows_sound.result && c.is_zero_from.result && c.is_zero_from-2.result && c.is_zero_from-3.result && c.is_zero_from-4.result) ≡ columns_sound t c.args.last.0 =
    rw (c.rows_sound.ensures, c.is_zero_from.ensures, c.is_zero_from-2.ensures, c.is_zero_from-3.ensures, c.is_zero_from-4.ensures, le-leb t.count max_versions within) in
    record { is = is; undamaged = λ h. columns_are t c.args.last.0 w (sym is ∙ h) }

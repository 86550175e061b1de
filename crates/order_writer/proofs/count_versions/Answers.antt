use Rattle.std.specs.Prelude.{ℕ, ◌≡◌, count_by}
use Rattle.std.proofs.lemmas.List.Sums.{count_by-le-length}
use Rattle.history_rules.specs.Faults.{differ}
use Rattle.history_rules.specs.Held.{written_in}
use Rattle.index.specs.Index.{table_of}
use Rattle.order_writer.proofs.WritingLaws.{versions_count}
use borrow.Author.Rules.{rules}
use mathlib.Core.Path.{◌∙◌}
use native.Mathlib.Omega.{arith}
use Rattle.order_writer.proofs.count_versions.Goals as goal

pub returns : goal.returns
returns c =
    let nodes = c.args.committed.now.nodes.now in
    let wr = written_in (table_of c.args.committed.now.map.now) in
    let e : c.count.result ≡ count_by (λ (i : ℕ). differ (wr i c.args.item) 0) nodes = search rules in
    (e ∙ versions_count wr c.args.item nodes, omega (arith, e, count_by-le-length (λ (i : ℕ). differ (wr i c.args.item) 0) nodes))

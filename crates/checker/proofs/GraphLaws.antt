-- The verdict on a matrix that has a log's edges is the log's; so what judging the matrix answers is the answer for the log.
-- Assumes nothing.
use Prim.Native.Nat.{ℕ}
use mathlib.Core.Path.{subst}
use mathlib.Core.List.{List}
use Rattle.graph_theory.specs.Verdict.{Verdict}
use Rattle.drawing.specs.Drawing.{DrewAll}
use Rattle.graph.specs.Answer.{Answered, verdict_at}
use Rattle.graph_theory.specs.declared.Verdict.{Verdict as Counted}
use Rattle.graph.proofs.StampLaws.{drawn_verdict}
use Rattle.checker.specs.Reads.{GraphIs}

pub graph_is : (s nodes rank : List ℕ) (count : ℕ) (m b b' : List ℕ) (r : Counted) → DrewAll s nodes rank count m → Answered (verdict_at m count nodes) b b' r
    → GraphIs s nodes rank count b r b'
graph_is s nodes rank count m b b' r d a = record {
  answered =
      λ log vs p vo k. subst (λ (v : Verdict). Answered v b b' r)
      (drawn_verdict log vs nodes count k.room k.all m (d.edges log vs p vo k)) a;
}

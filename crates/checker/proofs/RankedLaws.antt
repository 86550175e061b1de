-- The ranks that judging a version order leaves are the ranks that drawing the edges takes.
-- Assumes nothing.
use Prim.Native.Nat.{ℕ, ◌≤◌}
use native.Mathlib.Omega.{arith}
use mathlib.Core.Path.{◌≡◌, sym, ap, ◌∙◌, subst}
use mathlib.Core.List.{List}
use lib.ListN.{length, get_or, take}
use lib.Seq.{length-take-le, get_or-take}
use Rattle.log_format.specs.Events.{Event}
use Rattle.serial_theory.specs.Judged.{committed}
use Rattle.order_rules.specs.Ranks.{rank_in, Ranks}
use Rattle.order_rules.proofs.RankLaws.{in_rank, rank_in_lem, rank_at_lem}
use Rattle.edges.specs.Ranked.{IsRank, Ranked}

is_rank : (k : ℕ) (l : List ℕ) → IsRank k l (rank_in k l)
is_rank k l = record {
  none = λ e m. absurd (omega (arith, e, (in_rank k 1 l m).0));
  place =
      λ p e. let m = rank_in_lem k l (omega (arith, e)) in
      (omega (arith, e, (in_rank k 1 l m).1), rank_at_lem k 1 l m p (omega (arith, e)));
}

pub ranked : (log : List Event) (vs : ℕ → List ℕ) (nodes rank : List ℕ) (count : ℕ) → count ≤ length nodes → take count nodes ≡ committed log
    → Ranks (take count nodes) vs rank → Ranked log vs nodes rank count
ranked log vs nodes rank count w all r = record {
  room = w;
  all = all;
  ranks =
      λ i x h hx. let g = get_or-take count nodes i 0 h in
      let n = length-take-le count nodes w in
      subst (IsRank (get_or nodes i 0) (vs x)) (sym (r i x (omega arith) hx ∙ ap (λ (k : ℕ). rank_in k (vs x)) g)) (is_rank (get_or nodes i 0) (vs x));
}

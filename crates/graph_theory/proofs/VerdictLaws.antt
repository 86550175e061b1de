-- The verdict: what computes it follows the page's rule, the rule has one answer, and the answer says what it should. Where all are taken the
-- order is topological, so there is no cycle; where some are left the walk among them shows one.
-- Assumes nothing.
use Prim.Native.Nat.{ℕ, suc, ◌≤◌, ◌<◌}
use native.Mathlib.Omega.{arith}
use mathlib.Core.Path.{◌≡◌, refl, sym, ap, subst}
use mathlib.Core.Logic.{◌↔◌}
use mathlib.Core.List.Memᴰ
use mathlib.Core.List.{List, [], ◌∷◌}
use mathlib.Core.Bool.{Bool}
use borrow.Author.Tests.{eq-eqb}
use Rattle.lists.specs.Member.{◌∈◌, Rising}
use Rattle.lists.specs.Order.{Distinct}
use Rattle.lists.proofs.OrderLaws.{in_nil, distinct_short}
use Rattle.lists.proofs.RisingLaws.{rising_above, rising_distinct}
use Rattle.graph_theory.specs.Graph.{Decides, Cycle}
use Rattle.graph_theory.specs.Taking.{Takes, take_all}
use Rattle.graph_theory.specs.Walking.{Turned, Walks}
use Rattle.graph_theory.specs.Verdict.{Verdict, accepted, cycle, Accepts, Rule, takes_all, sticks, Says, judge, verdict_of}
use Rattle.graph_theory.proofs.GraphLaws.{topological_no_cycle}
use Rattle.graph_theory.proofs.TakingLaws.{takes_any, takes_unique, left_in, left_stuck, left_rising, taken_number, all_taken, same_left, take_all_rule}
use Rattle.graph_theory.proofs.TurningLaws.{turned_smallest, turned_cycle, turned_distinct, turned_unique}
use Rattle.graph_theory.proofs.WalkingLaws.{walks_cycle, walks_distinct, walks_unique, walked_rule, cycle_of_turned}

module _ (R : ℕ → ℕ → Type 0) (n : ℕ) (ns : List ℕ) (rises : Rising n ns) where
  -- what follows from the rule, for either answer
  pub rule_says : (v : Verdict) → Rule R ns v → Says R ns v
  rule_says (accepted o) (takes_all t) =
      let u = takes_any R o ns [] t in
      record { topological = all_taken R o ns (rising_distinct n ns rises) u; smallest = t; number = omega (arith, taken_number R o ns [] u) }
  rule_says (cycle c) (sticks o {a} {l} {w} t k r) =
      let y = walks_cycle R (a ∷ l) a w (Memᴰ.head refl) k in
      let z : Cycle R ns c = turned_cycle r R ns (record { nodes = λ x m. left_in R o ns (a ∷ l) t x (y.nodes x m); closed = y.closed }) in
      let d : Distinct c = turned_distinct r (walks_distinct R k (in_nil, tt)) in
      record { cycle = z; once = d; smallest = turned_smallest r; number = distinct_short c ns d z.nodes }

-- the first of a rising list can be taken first where edges only lead upward
upward_takes : (R : ℕ → ℕ → Type 0) (n : ℕ) (l : List ℕ) → Rising n l → ((a b : ℕ) → a ∈ l → b ∈ l → R a b → a < b) → Takes R l l []
upward_takes R n [] r h = (refl, λ k m. in_nil m)
upward_takes R n (k ∷ l) r h = (
  record {
    left = Memᴰ.head refl;
    clear = λ j m e. absurd (omega (arith, h j k m (Memᴰ.head refl) e, low j m));
    least = λ i m c. low i m;
  },
  rw (eq-eqb k k refl) (upward_takes R (suc k) l r.1 (λ a b m o e. h a b (Memᴰ.tail m) (Memᴰ.tail o) e)),
)
  where
    low : (x : ℕ) → x ∈ k ∷ l → k ≤ x
    low x m = rising_above k (k ∷ l) (omega arith, r.1) x m

module _ (E : ℕ → ℕ → Bool) (R : ℕ → ℕ → Type 0) (d : Decides E R) (n : ℕ) (ns : List ℕ) (rises : Rising n ns) where
  taken : Takes R ns (take_all E ns).taken (take_all E ns).left
  taken = take_all_rule E R d n ns rises

  judge_rule : (o r : List ℕ) → Takes R ns o r → Rule R ns (judge E o r)
  judge_rule o [] t = takes_all t
  judge_rule o (a ∷ l) t =
      let u = takes_any R o ns (a ∷ l) t in
      let s = left_rising R n o ns (a ∷ l) u rises in
      let k = left_stuck R o ns (a ∷ l) u in
      sticks o u (walked_rule E R d n a l s k) (cycle_of_turned E R d n a l s k)

  -- what computes the verdict follows the rule
  pub verdict_rule : Rule R ns (verdict_of E ns)
  verdict_rule = judge_rule (take_all E ns).taken (take_all E ns).left taken

  -- the rule has one answer
  pub rule_unique : (u v : Verdict) → Rule R ns u → Rule R ns v → u ≡ v
  rule_unique (accepted o) (accepted p) (takes_all t) (takes_all u) = ap accepted (takes_unique R o p ns [] [] t u).0
  rule_unique (accepted o) (cycle c) (takes_all t) (sticks p u k r) =
      let e = same_left E R d n o p ns [] _ rises (takes_any R o ns [] t) u in let z : ◌≡◌ {A = ℕ} 0 1 = cc in absurd (omega arith)
  rule_unique (cycle c) (accepted p) (sticks o t k r) (takes_all u) =
      let e = same_left E R d n o p ns _ [] rises t (takes_any R p ns [] u) in let z : ◌≡◌ {A = ℕ} 0 1 = cc in absurd (omega arith)
  rule_unique (cycle c) (cycle e) (sticks o {a} {l} {w} t k r) (sticks p {a = b} {l = m} {w = x} u j s) =
      let q : a ∷ l ≡ b ∷ m = same_left E R d n o p ns (a ∷ l) (b ∷ m) rises t u in
      let h : b ≡ a = cc in
      let i : Walks R (a ∷ l) a [] x = subst (λ (y : ℕ). Walks R (a ∷ l) y [] x) h (subst (λ (y : List ℕ). Walks R y b [] x) (sym q) j) in
      let z : w ≡ x = walks_unique R k i in
      ap cycle (turned_unique (walks_distinct R k (in_nil, tt)) r (subst (λ (y : List ℕ). Turned y e) (sym z) s))

  pub verdict_says : Says R ns (verdict_of E ns)
  verdict_says = rule_says R n ns rises (verdict_of E ns) verdict_rule

  no_cycle : (v : Verdict) → Says R ns v → Accepts v → (c : List ℕ) → ¬ Cycle R ns c
  no_cycle (accepted o) s a c = topological_no_cycle R ns o c s.topological
  no_cycle (cycle e) s a c = absurd a

  accepts : (v : Verdict) → Says R ns v → ((c : List ℕ) → ¬ Cycle R ns c) → Accepts v
  accepts (accepted o) s h = tt
  accepts (cycle c) s h = h c s.cycle

  -- accepted exactly when there is no cycle
  pub accepts_iff_no_cycle : Accepts (verdict_of E ns) ↔ ((c : List ℕ) → ¬ Cycle R ns c)
  accepts_iff_no_cycle = (no_cycle (verdict_of E ns) verdict_says, accepts (verdict_of E ns) verdict_says)

  none_left : (o r : List ℕ) → (r ≡ []) ↔ Accepts (judge E o r)
  none_left o [] = (λ e. tt, λ a. refl)
  none_left o (b ∷ r) = (λ e. let z : ◌≡◌ {A = ℕ} 0 1 = cc in absurd (omega arith), λ a. absurd a)

  -- taking smallest-first takes all exactly when there is no cycle
  pub taken_iff_no_cycle : ((take_all E ns).left ≡ []) ↔ ((c : List ℕ) → ¬ Cycle R ns c)
  taken_iff_no_cycle =
      let i = none_left (take_all E ns).taken (take_all E ns).left in
      (λ e. accepts_iff_no_cycle.0 (i.0 e), λ h. i.1 (accepts_iff_no_cycle.1 h))

  -- where each edge leads from a smaller node to a larger, the nodes are accepted as they stand
  pub upward_accepted : ((a b : ℕ) → a ∈ ns → b ∈ ns → R a b → a < b) → verdict_of E ns ≡ accepted ns
  upward_accepted h = rule_unique (verdict_of E ns) (accepted ns) verdict_rule (takes_all (upward_takes R n ns rises h))

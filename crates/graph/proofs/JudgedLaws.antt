-- The two answers. If all nodes are taken, what stands in the order is the theory's order. If not, none of those left can be taken, so the walk among
-- them is closed: it finds a part, which is not empty, its nodes are among those left, and turned it is the theory's cycle.
-- Assumes nothing.
use Prim.Native.Nat.{ℕ, ◌≤◌, ◌<◌}
use native.Mathlib.Omega.{arith}
use mathlib.Core.Path.{◌≡◌, refl, sym, ◌∙◌, ap, subst}
use mathlib.Core.Logic.{◌≢◌}
use mathlib.Core.List.Memᴰ
use mathlib.Core.List.{List, [], ◌∷◌, ◌++◌}
use mathlib.Core.Bool.{Bool, true}
use lib.ListN.{length, take, drop, get_or, length-append, length-drop, length-map}
use lib.Seq.{length-take-le}
use Rattle.std.specs.Prelude.{Option, Some, None, IsSome, All, slice_range}
use Rattle.std.specs.declared.ops.Range.{Range}
use Rattle.lists.specs.Member.{◌∈◌}
use Rattle.log_format.specs.Bytes.{splice}
use Rattle.graph_theory.specs.Graph.{Decides, Cycle}
use Rattle.graph_theory.specs.Taking.{TakesAny, take_all}
use Rattle.graph_theory.specs.Walking.{walked, smallest_first}
use Rattle.graph_theory.specs.Verdict.{accepted, cycle, judge, verdict_of}
use Rattle.graph_theory.specs.Standing.{renamed}
use Rattle.graph_theory.proofs.TakingLaws.{takes_any, taken_in, left_stuck, left_rising, take_all_rule}
use Rattle.graph_theory.proofs.WalkingLaws.{walks_cycle, walked_rule}
use Rattle.taking.specs.Nodes.{indices, left_of}
use Rattle.taking.specs.Taken.{Taken}
use Rattle.walking.specs.Walked.{part_of, Walked}
use Rattle.graph.specs.Answer.{Turned, Answered}
use Rattle.graph_theory.specs.declared.Verdict.TheVariants.{Accepted, Cycle as Ring}
use Rattle.taking.proofs.NodesLaws.{index_below, up_from_rising, left_in}
use Rattle.taking.proofs.TakenLaws.{empty}
use Rattle.graph.proofs.AnswerLaws.{node_bytes, all_in, turn_least}

-- the edges that a test passes
abbrev Passes : (ℕ → ℕ → Bool) → ℕ → ℕ → Type 0
Passes E a b = E a b ≡ true

passes : (E : ℕ → ℕ → Bool) → Decides E (Passes E)
passes E = record { sound = λ a b e. e; whole = λ a b e. e }

module _ (E : ℕ → ℕ → Bool) (n r : ℕ) (o d : List ℕ) (v : Taken E n o d r) where
  abbrev order : List ℕ
  order = (take_all E (indices n)).taken

  abbrev rest : List ℕ
  rest = (take_all E (indices n)).left

  taken_away : TakesAny (Passes E) (indices n) order rest
  taken_away = takes_any (Passes E) order (indices n) rest (take_all_rule E (Passes E) (passes E) 0 (indices n) (up_from_rising 0 n))

  -- ---- all are taken

  -- the nodes taken
  abbrev pub path : List ℕ
  path = take r o

  -- each is one of the nodes
  pub order_below : All (λ k. k < n) path
  order_below = all_in (λ k. k < n) path
      (λ x m. index_below n x (taken_in (Passes E) order (indices n) rest taken_away x (subst (λ (u : List ℕ). x ∈ u) v.taken m)))

  pub answered_all : r ≡ n → r ≤ length o → (nodes answer after : List ℕ) → after ≡ splice answer 0 (node_bytes nodes path)
      → Answered (renamed (λ (k : ℕ). get_or nodes k 0) (verdict_of E (indices n))) answer after (Accepted r)
  answered_all e w nodes answer after b = rw all_taken (record {
    found = ap Accepted (sym (length-map path (λ (k : ℕ). get_or nodes k 0) ∙ length-take-le r o w));
    bytes = b;
  })
    where
      all_taken : verdict_of E (indices n) ≡ accepted path
      all_taken =
          let z : rest ≡ [] = sym v.left ∙ empty (left_of n d) (omega (arith, v.count)) in
          ap (judge E order) z ∙ ap accepted (sym v.taken)

  -- ---- some are left

  module _ (k : r ≢ n) where
    some_left : (a : ℕ) × ((l : List ℕ) × (left_of n d ≡ a ∷ l))
    some_left = go (left_of n d) refl
      where
        go : (l : List ℕ) → left_of n d ≡ l → (a : ℕ) × ((t : List ℕ) × (l ≡ a ∷ t))
        go [] e = absurd (k (let z = ap length e in omega (arith, v.count)))
        go (a ∷ l) e = (a, (l, refl))

    -- the theory's walk among them finds a cycle
    closed : Cycle (Passes E) (left_of n d) (walked E (left_of n d))
    closed = go some_left.0 some_left.1.0 some_left.1.1
      where
        go : (a : ℕ) (l : List ℕ) → left_of n d ≡ a ∷ l → Cycle (Passes E) (left_of n d) (walked E (left_of n d))
        go a l e =
            let t = subst (λ (u : List ℕ). TakesAny (Passes E) (indices n) order u) (sym v.left ∙ e) taken_away in
            let y = walked_rule E (Passes E) (passes E) 0 a l (left_rising (Passes E) 0 order (indices n) (a ∷ l) t (up_from_rising 0 n))
            (left_stuck (Passes E) order (indices n) (a ∷ l) t) in
            subst (λ (u : List ℕ). Cycle (Passes E) u (walked E u)) (sym e) (walks_cycle (Passes E) (a ∷ l) a (walked E (a ∷ l)) (Memᴰ.head refl) y)

    module _ (m : ℕ) (after : List ℕ) where
      -- so the program's walk finds a part
      pub part_found : (s : Option (Range ℕ)) → Walked E m (left_of n d) after s → IsSome s
      unfolding part_of
      part_found None f = absurd (subst (λ (u : List ℕ). Cycle (Passes E) (left_of n d) u) (sym f.is) closed).closed
      part_found (Some s) f = refl

      module _ (s : Range ℕ) (f : Walked E m (left_of n d) after (Some s)) where
        abbrev pub part : List ℕ
        part = slice_range after s.start s.end

        is_walked : part ≡ walked E (left_of n d)
        unfolding part_of
        is_walked = f.is

        closes : Cycle (Passes E) (left_of n d) part
        closes = subst (λ (u : List ℕ). Cycle (Passes E) (left_of n d) u) (sym is_walked) closed

        pub cycle_some : 0 < length part
        cycle_some = go part refl
          where
            go : (l : List ℕ) → part ≡ l → 0 < length part
            go [] e = absurd (subst (λ (u : List ℕ). Cycle (Passes E) (left_of n d) u) e closes).closed
            go (a ∷ l) e = omega (arith, ap length e)

        pub cycle_below : All (λ i. i < n) part
        cycle_below = all_in (λ i. i < n) part (λ x i. (left_in n d x (closes.nodes x i)).0)

        pub answered_cycle : (nodes answer out : List ℕ) → Turned nodes part answer out
            → Answered (renamed (λ (i : ℕ). get_or nodes i 0) (verdict_of E (indices n))) answer out (Ring (length part))
        answered_cycle nodes answer out t =
            let q = some_left in
            let p = drop t.place part ++ take t.place part in
            let y : smallest_first (walked E (left_of n d)) ≡ p = ap smallest_first (sym is_walked) ∙ turn_least part t.place t.least in
            let z : verdict_of E (indices n) ≡ cycle p =
            ap (judge E order) (sym v.left ∙ q.1.1) ∙ ap (λ (u : List ℕ). cycle (smallest_first (walked E u))) (sym q.1.1) ∙ ap cycle y in
            let c : length p ≡ length part = omega (
              arith,
              length-append (drop t.place part) (take t.place part),
              length-drop t.place part,
              length-take-le t.place part (omega (arith, t.least.0)),
              t.least.0,
            ) in
            rw z (record { found = ap Ring (sym (length-map p (λ (i : ℕ). get_or nodes i 0) ∙ c)); bytes = t.is })

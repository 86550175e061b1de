-- What is computed over nodes that stand for others is what is computed over those: each function passes through f, by recursion as it recurses.
-- Assumes nothing.
use Prim.Native.Nat.{ℕ, zero, suc, ◌<◌}
use native.Mathlib.Omega.{arith}
use mathlib.Core.Path.{◌≡◌, refl, sym, ◌∙◌, ap, ap₂}
use mathlib.Core.Logic.{inl, inr}
use mathlib.Core.List.Memᴰ
use mathlib.Core.List.{List, [], ◌∷◌, ◌++◌, map}
use mathlib.Core.Bool.{Bool, true, false, cond, not}
use mathlib.Core.Option
use mathlib.Core.Option.{Option, some, none}
use lib.Dec.{eqb, ltb}
use lib.ListN.{length, get_or, length-map}
use borrow.Author.Tests.{eq-eqb, ne_eqb, eqb-true, eqb-false, lt-ltb, le-ltb, ltb-true, ltb-false}
use Rattle.lists.specs.Member.{◌∈◌, Rising}
use Rattle.lists.specs.Order.{without}
use Rattle.lists.specs.Tests.{any, first}
use Rattle.lists.proofs.TestLaws.{first_some}
use Rattle.lists.proofs.OrderLaws.{in_nil, in_without}
use Rattle.lists.proofs.PlaceLaws.{rising_at}
use Rattle.graph_theory.specs.Taking.{Taking, free, next, take_next, takes, take_all}
use Rattle.graph_theory.specs.Walking.{up_to, before, from, least, turn_to, smallest_first, predecessor, step, walk, cycle_of}
use Rattle.graph_theory.specs.Verdict.{cycle, judge, verdict_of}
use Rattle.graph_theory.specs.Standing.{Stands, renamed}
use Rattle.graph_theory.proofs.TurningLaws.{least_in}
use Rattle.graph_theory.proofs.WalkingLaws.{up_to_in_lem}

-- all of l are below n
abbrev pub AllBelow : ℕ → List ℕ → Type 0
AllBelow n l = (x : ℕ) → x ∈ l → x < n

below_cons : {n a : ℕ} {l : List ℕ} → a < n → AllBelow n l → AllBelow n (a ∷ l)
below_cons h g x m = elim (Memᴰ.cases_cons m) [ inl q ↦ rw q h | inr k ↦ g x k ]

module _ (f : ℕ → ℕ) where
  any-map : (p q : ℕ → Bool) (n : ℕ) (l : List ℕ) → AllBelow n l → ((x : ℕ) → x < n → q (f x) ≡ p x) → any q (map f l) ≡ any p l
  any-map p q n [] h e = refl
  any-map p q n (a ∷ l) h e = rw (e a (h a (Memᴰ.head refl)), any-map p q n l (λ x m. h x (Memᴰ.tail m)) e)

  first-map : (p q : ℕ → Bool) (n : ℕ) (l : List ℕ) → AllBelow n l → ((x : ℕ) → x < n → q (f x) ≡ p x) → first q (map f l) ≡ Option.map f (first p l)
  first-map p q n [] h e = refl
  first-map p q n (a ∷ l) h e = rw (e a (h a (Memᴰ.head refl)), first-map p q n l (λ x m. h x (Memᴰ.tail m)) e) (go (p a))
    where
      go : (b : Bool) → cond b (some (f a)) (Option.map f (first p l)) ≡ Option.map f (cond b (some a) (first p l))
      go true = refl
      go false = refl

  map-cond : (b : Bool) (l m : List ℕ) → map f (cond b l m) ≡ cond b (map f l) (map f m)
  map-cond true l m = refl
  map-cond false l m = refl

  map-append : (l m : List ℕ) → map f (l ++ m) ≡ map f l ++ map f m
  map-append [] m = refl
  map-append (a ∷ l) m = ap (λ (t : List ℕ). f a ∷ t) (map-append l m)

  f_cond : (b : Bool) (x y : ℕ) → f (cond b x y) ≡ cond b (f x) (f y)
  f_cond true x y = refl
  f_cond false x y = refl

cond_below : (n : ℕ) (b : Bool) (x y : ℕ) → x < n → y < n → cond b x y < n
cond_below n true x y u v = u
cond_below n false x y u v = v

module _ (E D : ℕ → ℕ → Bool) (f : ℕ → ℕ) (n : ℕ) (s : Stands E D f n) where
  -- ---- taking

  without-map : (k : ℕ) (l : List ℕ) → k < n → AllBelow n l → without (f k) (map f l) ≡ map f (without k l)
  without-map k [] u h = refl
  without-map k (a ∷ l) u h =
      rw (s.same k a u (h a (Memᴰ.head refl)), without-map k l u (λ x m. h x (Memᴰ.tail m))) (sym (map-cond f (eqb k a) l (a ∷ without k l)))

  free_map : (l : List ℕ) → AllBelow n l → (x : ℕ) → x < n → free D (map f l) (f x) ≡ free E l x
  free_map l h x u = ap not (any-map f (λ (j : ℕ). E j x) (λ (j : ℕ). D j (f x)) n l h (λ y v. s.edges y x v u))

  takes_map : (c : ℕ) (l : List ℕ) → AllBelow n l → ((takes D c (map f l)).taken ≡ map f (takes E c l).taken) × ((takes D c (map f l)).left ≡ map f (takes E c l).left)
  takes_map zero l h = (refl, refl)
  takes_map (suc c) l h = rw (first-map f (free E l) (free D (map f l)) n l h (free_map l h)) (go (next E l) refl (λ k. takes_map c (without k l)))
    where
      on_d : Option ℕ → Taking
      on_d o = take_next D (map f l) (λ (k : ℕ). takes D c (without k (map f l))) (Option.map f o)

      on_e : Option ℕ → Taking
      on_e o = take_next E l (λ (k : ℕ). takes E c (without k l)) o

      go : (o : Option ℕ) → next E l ≡ o
          → ((k : ℕ) → AllBelow n (without k l) → ((takes D c (map f (without k l))).taken ≡ map f (takes E c (without k l)).taken) × ((takes D c (map f (without k l))).left ≡ map f (takes E c (without k l)).left))
          → ((on_d o).taken ≡ map f (on_e o).taken) × ((on_d o).left ≡ map f (on_e o).left)
      go none e ih = (refl, refl)
      go (some k) e ih =
          let u = h k (first_some (free E l) l k e).0 in
          let r = ih k (λ x m. h x (in_without k l m)) in
          rw (without-map k l u h) (ap (λ (t : List ℕ). f k ∷ t) r.0, r.1)

  pub take_all_map : (l : List ℕ) → AllBelow n l → ((take_all D (map f l)).taken ≡ map f (take_all E l).taken) × ((take_all D (map f l)).left ≡ map f (take_all E l).left)
  take_all_map l h = rw (length-map l f) (takes_map (length l) l h)

  -- ---- walking

  up_to-map : (k : ℕ) (l : List ℕ) → k < n → AllBelow n l → up_to (f k) (map f l) ≡ map f (up_to k l)
  up_to-map k [] u h = refl
  up_to-map k (a ∷ l) u h =
      rw (s.same k a u (h a (Memᴰ.head refl)), up_to-map k l u (λ x m. h x (Memᴰ.tail m))) (sym (map-cond f (eqb k a) (a ∷ []) (a ∷ up_to k l)))

  walk_map : (c : ℕ) (l : List ℕ) (at : ℕ) (seen : List ℕ) → AllBelow n l → AllBelow n (at ∷ seen) → walk D c (map f l) (f at) (map f seen) ≡ map f (walk E c l at seen)
  walk_map zero l at seen h g = refl
  walk_map (suc c) l at seen h g =
      rw (first-map f (λ (j : ℕ). E j at) (λ (j : ℕ). D j (f at)) n l h (λ x u. s.edges x at u (g at (Memᴰ.head refl))))
      (go (predecessor E l at) refl (λ p. walk_map c l p (at ∷ seen) h))
    where
      go : (o : Option ℕ) → predecessor E l at ≡ o
          → ((p : ℕ) → AllBelow n (p ∷ at ∷ seen) → walk D c (map f l) (f p) (map f (at ∷ seen)) ≡ map f (walk E c l p (at ∷ seen)))
          → step D (map f (at ∷ seen)) (λ (p : ℕ). walk D c (map f l) p (map f (at ∷ seen))) (Option.map f o) ≡ map f (step E (at ∷ seen) (λ (p : ℕ). walk E c l p (at ∷ seen)) o)
      go none e ih = refl
      go (some p) e ih =
          let u = h p (first_some (λ (j : ℕ). E j at) l p e).0 in
          let a = any-map f (eqb p) (eqb (f p)) n (at ∷ seen) g (λ x v. s.same p x u v) in
          ap₂ (λ (b : Bool) (t : List ℕ). cond b t (walk D c (map f l) (f p) (map f (at ∷ seen)))) a (up_to-map p (at ∷ seen) u g)
          ∙ ap (λ (t : List ℕ). cond (any (eqb p) (at ∷ seen)) (map f (up_to p (at ∷ seen))) t) (ih p (below_cons u g))
          ∙ sym (map-cond f (any (eqb p) (at ∷ seen)) (up_to p (at ∷ seen)) (walk E c l p (at ∷ seen)))

  walk_below : (c : ℕ) (l : List ℕ) (at : ℕ) (seen : List ℕ) → AllBelow n l → AllBelow n (at ∷ seen) → AllBelow n (walk E c l at seen)
  walk_below zero l at seen h g = λ x m. in_nil m
  walk_below (suc c) l at seen h g = go (predecessor E l at) refl (λ p. walk_below c l p (at ∷ seen) h)
    where
      go : (o : Option ℕ) → predecessor E l at ≡ o → ((p : ℕ) → AllBelow n (p ∷ at ∷ seen) → AllBelow n (walk E c l p (at ∷ seen)))
          → AllBelow n (step E (at ∷ seen) (λ (p : ℕ). walk E c l p (at ∷ seen)) o)
      go none e ih = λ x m. in_nil m
      go (some p) e ih = split (any (eqb p) (at ∷ seen))
        where
          split : (b : Bool) → AllBelow n (cond b (up_to p (at ∷ seen)) (walk E c l p (at ∷ seen)))
          split true = λ x m. g x (up_to_in_lem p (at ∷ seen) x m)
          split false = ih p (below_cons (h p (first_some (λ (j : ℕ). E j at) l p e).0) g)

  -- ---- turning

  least-map : (a : ℕ) (l : List ℕ) → a < n → AllBelow n l → least (f a) (map f l) ≡ f (least a l)
  least-map a [] u h = refl
  least-map a (b ∷ l) u h =
      let v = h b (Memᴰ.head refl) in
      ap (λ (t : Bool). least (cond t (f b) (f a)) (map f l)) (s.order b a v u)
      ∙ ap (λ (t : ℕ). least t (map f l)) (sym (f_cond f (ltb b a) b a))
      ∙ least-map (cond (ltb b a) b a) l (cond_below n (ltb b a) b a v u) (λ x m. h x (Memᴰ.tail m))

  turn_map : (k : ℕ) (l : List ℕ) → k < n → AllBelow n l → (before (f k) (map f l) ≡ map f (before k l)) × (from (f k) (map f l) ≡ map f (from k l))
  turn_map k [] u h = (refl, refl)
  turn_map k (a ∷ l) u h =
      let r = turn_map k l u (λ x m. h x (Memᴰ.tail m)) in
      let e = s.same k a u (h a (Memᴰ.head refl)) in
      (rw (e, r.0) (sym (map-cond f (eqb k a) [] (a ∷ before k l))), rw (e, r.1) (sym (map-cond f (eqb k a) (a ∷ l) (from k l))))

  smallest_first-map : (l : List ℕ) → AllBelow n l → smallest_first (map f l) ≡ map f (smallest_first l)
  smallest_first-map [] h = refl
  smallest_first-map (a ∷ l) h =
      let k = least a l in
      let r = turn_map k (a ∷ l) (h k (least_in a l)) h in
      ap (λ (t : ℕ). turn_to t (map f (a ∷ l))) (least-map a l (h a (Memᴰ.head refl)) (λ x m. h x (Memᴰ.tail m)))
      ∙ ap₂ (λ (x y : List ℕ). x ++ y) r.1 r.0
      ∙ sym (map-append f (from k (a ∷ l)) (before k (a ∷ l)))

  pub cycle_of_map : (l : List ℕ) → AllBelow n l → cycle_of D (map f l) ≡ map f (cycle_of E l)
  cycle_of_map [] h = refl
  cycle_of_map (a ∷ l) h =
      let g : AllBelow n (a ∷ []) = below_cons (h a (Memᴰ.head refl)) (λ x m. in_nil m) in
      ap (λ (t : ℕ). smallest_first (walk D (suc t) (map f (a ∷ l)) (f a) [])) (length-map l f)
      ∙ ap smallest_first (walk_map (suc (length l)) (a ∷ l) a [] h g)
      ∙ smallest_first-map (walk E (suc (length l)) (a ∷ l) a []) (walk_below (suc (length l)) (a ∷ l) a [] h g)

  left_below : (c : ℕ) (l : List ℕ) → AllBelow n l → AllBelow n (takes E c l).left
  left_below zero l h = h
  left_below (suc c) l h = go (next E l) (λ k. left_below c (without k l))
    where
      go : (o : Option ℕ) → ((k : ℕ) → AllBelow n (without k l) → AllBelow n (takes E c (without k l)).left) → AllBelow n (take_next E l (λ (k : ℕ). takes E c (without k l)) o).left
      go none ih = h
      go (some k) ih = ih k (λ x m. h x (in_without k l m))

  judge_map : (o l : List ℕ) → AllBelow n l → judge D (map f o) (map f l) ≡ renamed f (judge E o l)
  judge_map o [] h = refl
  judge_map o (a ∷ l) h = ap cycle (cycle_of_map (a ∷ l) h)

  -- the verdict over the nodes that are stood for is the verdict over those that stand for them, renamed
  pub verdict-map : (l : List ℕ) → AllBelow n l → verdict_of D (map f l) ≡ renamed f (verdict_of E l)
  verdict-map l h =
      let r = take_all_map l h in
      ap₂ (λ (o m : List ℕ). judge D o m) r.0 r.1 ∙ judge_map (take_all E l).taken (take_all E l).left (left_below (length l) l h)

-- ---- places in a rising list stand for what is there

module _ (ss : List ℕ) (low : ℕ) (r : Rising low ss) where
  place_order : (x y : ℕ) → x < length ss → y < length ss → ltb (get_or ss x 0) (get_or ss y 0) ≡ ltb x y
  place_order x y u v = go (ltb x y) refl (eqb x y) refl
    where
      go : (b : Bool) → ltb x y ≡ b → (c : Bool) → eqb x y ≡ c → ltb (get_or ss x 0) (get_or ss y 0) ≡ b
      go true e c g = lt-ltb (get_or ss x 0) (get_or ss y 0) (rising_at low ss r x y (ltb-true x y e) v)
      go false e true g = le-ltb (get_or ss x 0) (get_or ss y 0) (rw (eqb-true x y g) (omega arith))
      go false e false g =
          let z = ltb-false x y e in
          let q = eqb-false x y g in
          le-ltb (get_or ss x 0) (get_or ss y 0) (let w = rising_at low ss r y x (omega (arith, q)) u in omega arith)

  place_same : (x y : ℕ) → x < length ss → y < length ss → eqb (get_or ss x 0) (get_or ss y 0) ≡ eqb x y
  place_same x y u v = go (eqb x y) refl (ltb x y) refl
    where
      go : (b : Bool) → eqb x y ≡ b → (c : Bool) → ltb x y ≡ c → eqb (get_or ss x 0) (get_or ss y 0) ≡ b
      go true e c g = eq-eqb (get_or ss x 0) (get_or ss y 0) (ap (λ (k : ℕ). get_or ss k 0) (eqb-true x y e))
      go false e true g = ne_eqb (get_or ss x 0) (get_or ss y 0) (λ q. let w = rising_at low ss r x y (ltb-true x y g) v in omega arith)
      go false e false g =
          let z = ltb-false x y g in
          let p = eqb-false x y e in
          ne_eqb (get_or ss x 0) (get_or ss y 0) (λ q. let w = rising_at low ss r y x (omega (arith, p)) u in omega arith)

  pub places_stand : (E D : ℕ → ℕ → Bool) → ((x y : ℕ) → x < length ss → y < length ss → D (get_or ss x 0) (get_or ss y 0) ≡ E x y)
      → Stands E D (λ (k : ℕ). get_or ss k 0) (length ss)
  places_stand E D edges = record { edges = edges; order = place_order; same = place_same }

-- The walk over a list that is filled from its back is the theory's walk: `top` is what the theory counts down, and the part from `top` on is what it
-- has seen, the newest first. A step puts one node more in front of that part; where the predecessor stands in the part, its front up to that place is
-- the closed path.
-- Assumes nothing.
use Prim.Native.Nat.{ℕ, zero, suc, ◌+◌, ◌-◌, ◌≤◌, ◌<◌}
use native.Mathlib.Omega.{arith}
use mathlib.Core.Path.{◌≡◌, refl, sym, ◌∙◌, ap, subst}
use mathlib.Core.Logic.{◌≢◌}
use mathlib.Core.List.Memᴰ
use mathlib.Core.List.{List, [], ◌∷◌, ◌++◌}
use mathlib.Core.Bool.{Bool, true, false, cond, ◌&&◌}
use mathlib.Core.Option as theory
use lib.Dec.{eqb, ltb}
use lib.ListN.{length, take, drop, get_or, set, length-set, length-drop}
use lib.Seq.{drop-cons, get_or-set_same, drop-set-lt, take_all, take-length, drop-length, drop-append-le, take-append-le}
use borrow.Author.Tests.{eqb-true, eqb-false, eq-eqb, ne_eqb, ltb-true, ltb-false}
use Rattle.std.specs.Prelude.{Option, Some, None, position, slice_range}
use Rattle.std.specs.declared.ops.Range.{Range}
use Rattle.lists.specs.Member.{◌∈◌, Rising}
use Rattle.lists.specs.Tests.{any}
use Rattle.lists.proofs.TestLaws.{false_true, both_true}
use Rattle.lists.proofs.RisingLaws.{rising_above}
use Rattle.graph_theory.specs.Walking.{up_to, predecessor, step, walk, walked}
use Rattle.taking.specs.Nodes.{is_left, left_of, NoneOf, IsFirst}
use Rattle.walking.specs.Walked.{part_of, IsWithin, Stepped, Walked}
use Rattle.taking.proofs.NodesLaws.{first_is, first_not, left_in, in_left, left_rising, first-position}

-- ---- looking for a place

module _ (p : ℕ) where
  at_place : (l : List ℕ) (i : ℕ) → i < length l → eqb (get_or l i 0) p ≡ true → ((j : ℕ) → j < i → eqb (get_or l j 0) p ≡ false)
      → (any (eqb p) l ≡ true) × (up_to p l ≡ take (suc i) l)
  at_place [] i h g b = absurd (omega arith)
  at_place (a ∷ l) zero h g b = let e = eq-eqb p a (sym (eqb-true a p g)) in (rw e refl, rw e refl)
  at_place (a ∷ l) (suc i) h g b =
      let n = ne_eqb p a (λ z. eqb-false a p (b 0 (omega arith)) (sym z)) in
      let ih = at_place l i (omega arith) g (λ j x. b (suc j) (omega arith)) in
      (rw n ih.0, rw n (ap (λ (r : List ℕ). a ∷ r) ih.1))

  no_place : (l : List ℕ) → ((j : ℕ) → j < length l → eqb (get_or l j 0) p ≡ false) → any (eqb p) l ≡ false
  no_place [] b = refl
  no_place (a ∷ l) b =
      let n = ne_eqb p a (λ z. eqb-false a p (b 0 (omega arith)) (sym z)) in
      rw n (no_place l (λ j x. b (suc j) (omega arith)))

  place_hit : (l : List ℕ) (i : ℕ) → Some i ≡ position (λ x. eqb x p) l → (any (eqb p) l ≡ true) × (up_to p l ≡ take (suc i) l) × (i < length l)
  place_hit l i e =
      let s = first-position (λ x. eqb x p) l (length l) (omega arith) (Some i) (e ∙ ap (position (λ x. eqb x p)) (sym (take-length l))) in
      let r = at_place l i s.within s.here s.before in
      (r.0, r.1, s.within)

  place_miss : (l : List ℕ) → None ≡ position (λ x. eqb x p) l → any (eqb p) l ≡ false
  place_miss l e = no_place l (first-position (λ x. eqb x p) l (length l) (omega arith) None (e ∙ ap (position (λ x. eqb x p)) (sym (take-length l))))

-- ---- the smallest predecessor

abbrev leads_to : (ℕ → ℕ → Bool) → List ℕ → ℕ → ℕ → Bool
leads_to E d at j = is_left d j && E j at

module _ (E : ℕ → ℕ → Bool) (n : ℕ) (d : List ℕ) (at : ℕ) where
  not_both : (j : ℕ) → j ∈ left_of n d → leads_to E d at j ≡ false → E j at ≡ false
  not_both j m e = sym (rw (left_in n d j m).1 refl) ∙ e

  predecessor_some : (p : ℕ) → IsFirst (leads_to E d at) n p → predecessor E (left_of n d) at ≡ theory.some p
  predecessor_some p s =
      let r = both_true (is_left d p) (E p at) s.here in
      first_is (λ (j : ℕ). E j at) 0 (left_of n d) p (left_rising n d) (in_left n d p s.within r.0) r.1 (λ j m g. not_both j m (s.before j g))

  predecessor_none : NoneOf (leads_to E d at) n → predecessor E (left_of n d) at ≡ theory.none
  predecessor_none s = first_not (λ (j : ℕ). E j at) (left_of n d) (λ j m. not_both j m (s j (left_in n d j m).0))

-- ---- the walk

push_part : (i v : ℕ) (l : List ℕ) → i < length l → drop i (set l i v) ≡ v ∷ drop (suc i) l
push_part i v l h =
    drop-cons (set l i v) i 0 (simp length-set h) ∙ rw (get_or-set_same l i v 0 h, drop-set-lt (suc i) l i v (omega arith)) refl

module _ (E : ℕ → ℕ → Bool) (n at : ℕ) (d path : List ℕ) where
  pub stepped_zero : (top : ℕ) → top ≡ 0 → Stepped E n top at d path path None
  unfolding part_of
  stepped_zero top h = record { within = tt; is = rw h refl }

  module _ (top : ℕ) (h : top ≢ 0) (w : top ≤ length path) where
    abbrev pub pushed : List ℕ
    pushed = set path (top - 1) at

    same : suc (top - 1) ≡ top
    same = omega arith

    front : drop (top - 1) pushed ≡ at ∷ drop top path
    front = push_part (top - 1) at path (omega arith) ∙ rw same refl

    pub stepped_none : NoneOf (leads_to E d at) n → Stepped E n top at d path pushed None
    unfolding part_of
    stepped_none s = record { within = tt; is = rw (← same) (rw (predecessor_none E n d at s) refl) }

    module _ (p : ℕ) (s : IsFirst (leads_to E d at) n p) where
      abbrev part : List ℕ
      part = drop (top - 1) pushed

      unrolled : walk E top (left_of n d) at (drop top path) ≡ cond (any (eqb p) part) (up_to p part) (walk E (top - 1) (left_of n d) p part)
      unrolled =
          ap (λ (k : ℕ). walk E k (left_of n d) at (drop top path)) (sym same)
          ∙ ap (λ (o : theory.Option ℕ). step E (at ∷ drop top path) (λ (i : ℕ). walk E (top - 1) (left_of n d) i (at ∷ drop top path)) o)
          (predecessor_some E n d at p s)
          ∙ ap (λ (f : List ℕ). cond (any (eqb p) f) (up_to p f) (walk E (top - 1) (left_of n d) p f)) (sym front)

      -- the part as the program reads it
      abbrev pub seen : List ℕ
      seen = take (length pushed - (top - 1)) part

      seen_is : position (λ x. eqb x p) seen ≡ position (λ x. eqb x p) part
      seen_is = ap (position (λ x. eqb x p)) (take_all (length pushed - (top - 1)) part (omega (arith, length-drop (top - 1) pushed)))

      pub stepped_hit : (i : ℕ) → Some i ≡ position (λ x. eqb x p) seen
          → Stepped E n top at d path pushed (Some (record { start = top - 1; end = top - 1 + i + 1 }))
      unfolding part_of
      stepped_hit i e =
          let r = place_hit p part i (e ∙ seen_is) in
          let z : top - 1 + i + 1 - (top - 1) ≡ suc i = omega arith in
          record {
            within = (omega arith, omega (arith, r.2, length-drop (top - 1) pushed, length-set path (top - 1) at));
            is = sym (unrolled ∙ rw r.0 (r.1 ∙ ap (λ (k : ℕ). take k part) (sym z)));
          }

      pub stepped_on : None ≡ position (λ x. eqb x p) seen → (after : List ℕ) (r : Option (Range ℕ)) → Stepped E n (top - 1) p d pushed after r
          → Stepped E n top at d path after r
      stepped_on e after r c = record {
        within = subst (λ (k : ℕ). IsWithin k r) (length-set path (top - 1) at) c.within;
        is = c.is ∙ sym (unrolled ∙ rw (place_miss p part (e ∙ seen_is)) refl);
      }

-- ---- from the smallest node left

-- a part that stands in the front of a list
slice_front : (l k : List ℕ) (f t : ℕ) → f ≤ t → t ≤ length l → slice_range (l ++ k) f t ≡ slice_range l f t
slice_front l k f t h w =
    ap (take (t - f)) (drop-append-le f l k (omega arith)) ∙ take-append-le (t - f) (drop f l) k (omega (arith, length-drop f l))

-- where a node is left, there is a smallest
pub some_first : (n : ℕ) (d : List ℕ) → 0 < length (left_of n d) → ¬ (NoneOf (is_left d) n)
some_first n d h s = go (left_of n d) refl
  where
    go : (l : List ℕ) → left_of n d ≡ l → ⊥
    go [] e = omega (arith, ap length e)
    go (b ∷ l) e =
        let r = left_in n d b (subst (λ (t : List ℕ). b ∈ t) (sym e) (Memᴰ.head refl)) in
        false_true (sym (s b r.0) ∙ r.1)

module _ (n : ℕ) (d : List ℕ) (a : ℕ) (s : IsFirst (is_left d) n a) (h : 0 < length (left_of n d)) where
  smallest : (b : ℕ) → b ∈ left_of n d → a ≤ b
  smallest b m = go (ltb b a) refl
    where
      go : (t : Bool) → ltb b a ≡ t → a ≤ b
      go true e = false_true (sym (s.before b (ltb-true b a e)) ∙ (left_in n d b m).1)
      go false e = ltb-false b a e

  first_head : (l : List ℕ) × (left_of n d ≡ a ∷ l)
  first_head = go (left_of n d) refl
    where
      go : (l : List ℕ) → left_of n d ≡ l → (k : List ℕ) × (l ≡ a ∷ k)
      go [] e = absurd (omega (arith, ap length e))
      go (b ∷ l) e =
          let m = subst (λ (t : List ℕ). b ∈ t) (sym e) (Memᴰ.head refl) in
          let r = subst (λ (t : List ℕ). Rising 0 t) e (left_rising n d) in
          let i = subst (λ (t : List ℕ). a ∈ t) e (in_left n d a s.within s.here) in
          (l, ap (λ (k : ℕ). k ∷ l) (at i r.1 (smallest b m)))
        where
          at : a ∈ b ∷ l → Rising (suc b) l → a ≤ b → b ≡ a
          at (Memᴰ.head q) r g = sym q
          at (Memᴰ.tail q) r g = absurd (omega (arith, rising_above (suc b) l r a q))

  -- the walk over the first m places of a list, where m nodes are left; the places past them stand behind
  pub walked_first : (E : ℕ → ℕ → Bool) (m : ℕ) (path after behind : List ℕ) (v : Option (Range ℕ)) → m ≡ length (left_of n d) → length path ≡ m
      → length after ≡ length path → Stepped E n m a d path after v → Walked E m (left_of n d) (after ++ behind) v
  unfolding part_of
  walked_first E m path after behind v e w z c = record {
    within = within;
    is = same v within
        ∙ c.is
        ∙ ap (walk E m (left_of n d) a) (ap (λ (k : ℕ). drop k path) (sym w) ∙ drop-length path)
        ∙ rw e (go first_head.0 first_head.1);
  }
    where
      within : IsWithin m v
      within = subst (λ (k : ℕ). IsWithin k v) w c.within

      same : (u : Option (Range ℕ)) → IsWithin m u → part_of u (after ++ behind) ≡ part_of u after
      same None i = refl
      same (Some r) i = slice_front after behind r.start r.end i.0 (omega (arith, i.1))

      go : (l : List ℕ) → left_of n d ≡ a ∷ l → walk E (length (left_of n d)) (left_of n d) a [] ≡ walked E (left_of n d)
      go l q = rw q refl

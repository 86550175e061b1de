-- Noting an item's stamps one after the other: those seen so far have their ranks in the item's cells, so that a cell with a rank says that the stamp was
-- seen, and what is left of the test is the test of the stamps to come.
-- Assumes nothing.
use Prim.Native.Nat.{ℕ, zero, suc, ◌+◌, ◌-◌, ◌*◌, ◌≤◌, ◌<◌}
use native.Mathlib.Nat.{add-zero}
use native.Mathlib.Omega.{arith}
use mathlib.Core.Path.{◌≡◌, refl, sym, ap, ◌∙◌, subst}
use mathlib.Core.Logic.{◌≢◌}
use mathlib.Core.List.{List, [], ◌∷◌, ◌++◌}
use mathlib.Core.Bool.{Bool, true, false, not, ◌&&◌}
use lib.Dec.{eqb, ltb}
use lib.ListN.{length, get_or, set, length-set}
use lib.Seq.{get_or-set_same, get_or-set_other}
use borrow.Author.Tests.{eq-eqb, ne_eqb, eqb-true, eqb-false, ltb-true, ltb-false, not-true}
use Rattle.lists.specs.Member.{◌∈◌, Rising}
use Rattle.lists.specs.Order.{Distinct}
use Rattle.lists.specs.Tests.{any}
use Rattle.lists.proofs.PlaceLaws.{distinct_at}
use Rattle.lists.proofs.RisingLaws.{rising_distinct}
use Rattle.lists.proofs.TestLaws.{false_true, both_true, any_in, any_not, in_any, not_passed}
use Rattle.log_format.specs.Bytes.{num4}
use Rattle.history_rules.specs.WellFormed.{most_item}
use Rattle.history_rules.specs.Faults.{differ}
use Rattle.order_rules.specs.Reading.{stamps_at}
use Rattle.order_rules.specs.Right.{is_version, each_once}
use Rattle.order_rules.specs.Ranks.{rank_from, rank_in, rank_at}
use Rattle.order_rules.proofs.ReadingLaws.{length-stamps_at}
use Rattle.order_rules.proofs.RankLaws.{at_rank, in_rank, no_rank, rank_in_lem, rank_at_lem, rank_other, rank_new}
use Rattle.sorted.specs.Sorted.{StandsAt}
use Rattle.version_order.specs.Judging.{Clear, cell_of, Noted, FieldRanked}

-- a number over 0 is one that is not 0
pub over_zero : (v w : ℕ) → v ≡ w → ltb 0 v ≡ differ w 0
over_zero v w e = rw e (go (ltb 0 w) refl)
  where
    go : (b : Bool) → ltb 0 w ≡ b → b ≡ not (eqb w 0)
    go true f = let h = ltb-true 0 w f in sym (rw (ne_eqb w 0 (λ z. absurd (omega arith))))
    go false f = let h = ltb-false 0 w f in sym (rw (eq-eqb w 0 (omega arith)))

-- who has no rank does not stand there
pub unranked : (k : ℕ) (l : List ℕ) → rank_in k l ≡ 0 → any (eqb k) l ≡ false
unranked k l e = not_passed _ (λ f. let r = (in_rank k 1 l (any_in k l f)).0 in absurd (omega arith))

pub ranked : (k : ℕ) (l : List ℕ) → ¬ (rank_in k l ≡ 0) → any (eqb k) l ≡ true
ranked k l n = in_any k l (rank_in_lem k l (omega (arith, n)))

-- ---- one stamp

-- a stamp found among the nodes has the rank after its place
pub located_rank : {nodes : List ℕ} {k p : ℕ} → Rising 0 nodes → StandsAt nodes k p → rank_in k nodes ≡ suc p
located_rank {nodes} {k} {p} r f =
    ap (λ (i : ℕ). rank_in i nodes) (sym f.here) ∙ at_rank 1 nodes (rising_distinct 0 nodes r) p f.within ∙ omega arith

a_node : (nodes : List ℕ) (k p : ℕ) → rank_in k nodes ≡ suc p → any (eqb k) nodes ≡ true
a_node nodes k p is = ranked k nodes (λ z. omega arith)

cell_is : (nodes : List ℕ) (x k p : ℕ) → rank_in k nodes ≡ suc p → cell_of nodes x k ≡ rank_at p x
cell_is nodes x k p is = let z : rank_in k nodes - 1 ≡ p = omega arith in rw z

module _ {wr : ℕ → ℕ → ℕ} {nodes : List ℕ} {x k place : ℕ} {rank : List ℕ} where
  -- no node
  pub not_a_node : ¬ (k ∈ nodes) → Noted wr nodes x k place rank false rank
  not_a_node n = record { answer = rw (unranked k nodes (no_rank k 1 nodes n)); cells = refl }

  module _ (p : ℕ) (is : rank_in k nodes ≡ suc p) where
    -- a node that did not write the item
    pub not_written : differ (wr k x) 0 ≡ false → Noted wr nodes x k place rank false rank
    not_written w = record { answer = rw (a_node nodes k _ is, w); cells = refl }

    -- a version that has a rank
    pub noted_twice : differ (wr k x) 0 ≡ true → ¬ (get_or rank (rank_at p x) 0 ≡ 0) → Noted wr nodes x k place rank false rank
    noted_twice w h = record { answer = rw (a_node nodes k _ is, w, cell_is nodes x k _ is, ne_eqb _ _ h); cells = refl }

    -- a version without one
    pub noted_new : differ (wr k x) 0 ≡ true → get_or rank (rank_at p x) 0 ≡ 0 → Noted wr nodes x k place rank true (set rank (rank_at p x) place)
    noted_new w h = record { answer = rw (a_node nodes k _ is, w, cell_is nodes x k _ is, eq-eqb _ _ h); cells = rw (cell_is nodes x k _ is) }

-- ---- the stamps read one by one

pub stamps_snoc : (s : List ℕ) (at i : ℕ) → stamps_at s at (suc i) ≡ stamps_at s at i ++ num4 s (at + 4 * i) ∷ []
stamps_snoc s at zero = rw add-zero
stamps_snoc s at (suc i) =
    let z : at + 4 + 4 * i ≡ at + 4 * suc i = omega arith in
    ap (λ (l : List ℕ). num4 s at ∷ l) (stamps_snoc s (at + 4) i ∙ rw z)

pub stamps_next : (s : List ℕ) (at i n : ℕ) → i < n → stamps_at s (at + 4 * i) (n - i) ≡ num4 s (at + 4 * i) ∷ stamps_at s (at + 4 * suc i) (n - suc i)
stamps_next s at i n h =
    let z : n - i ≡ suc (n - suc i) = omega arith in
    let y : at + 4 * i + 4 ≡ at + 4 * suc i = omega arith in
    rw z (ap (λ (a : ℕ). num4 s (at + 4 * i) ∷ stamps_at s a (n - suc i)) y)

-- ---- the loop

-- the first i of the stamps are noted in rank, which was rank₀
pub record Noting (wr : ℕ → ℕ → ℕ) (nodes : List ℕ) (x : ℕ) (s : List ℕ) (at n : ℕ) (rank₀ rank : List ℕ) (i : ℕ) : Type 0 where
  pub most : i ≤ n
  pub rest : each_once wr nodes x [] (stamps_at s at n) ≡ each_once wr nodes x (stamps_at s at i) (stamps_at s (at + 4 * i) (n - i))
  pub own : (p : ℕ) → p < length nodes → get_or rank (rank_at p x) 0 ≡ rank_in (get_or nodes p 0) (stamps_at s at i)
  pub others : (p y : ℕ) → p < length nodes → y ≤ most_item → y ≢ x → get_or rank (rank_at p y) 0 ≡ get_or rank₀ (rank_at p y) 0
  pub size : length rank ≡ length rank₀

module _ {wr : ℕ → ℕ → ℕ} {nodes : List ℕ} {x : ℕ} {s : List ℕ} {at n : ℕ} {rank₀ : List ℕ} where
  pub noting_none : Clear nodes x rank₀ → Noting wr nodes x s at n rank₀ rank₀ 0
  unfolding rank_from
  noting_none z =
      let a : at + 4 * 0 ≡ at = omega arith in
      let b : n - 0 ≡ n = omega arith in
      record { most = omega arith; rest = rw (a, b); own = z; others = λ p y h l d. refl; size = refl }

  module _ {rank : List ℕ} {i : ℕ} (g : Noting wr nodes x s at n rank₀ rank i) where
    -- at the end
    pub noting_end : n ≤ i → FieldRanked wr nodes x (stamps_at s at n) rank₀ true rank
    unfolding each_once
    noting_end h =
        let m = g.most in
        let e : i ≡ n = omega arith in
        let z : n - i ≡ 0 = omega arith in
        record {
          answer = sym (g.rest ∙ rw z);
          own = λ _. subst (λ (j : ℕ). (p : ℕ) → p < length nodes → get_or rank (rank_at p x) 0 ≡ rank_in (get_or nodes p 0) (stamps_at s at j)) e g.own;
          others = g.others;
        }

    module _ (distinct : Distinct nodes) (item : x ≤ most_item) (less : i < n) (room : length nodes * 64 ≤ length rank) where
      abbrev seen : List ℕ
      seen = stamps_at s at i

      abbrev stamp : ℕ
      stamp = num4 s (at + 4 * i)

      -- the test at this stamp
      at_stamp : each_once wr nodes x [] (stamps_at s at n)
          ≡ (is_version wr nodes x stamp && (not (any (eqb stamp) seen)
          && each_once wr nodes x (stamps_at s at (suc i)) (stamps_at s (at + 4 * suc i) (n - suc i))))
      unfolding each_once
      at_stamp = g.rest ∙ rw (stamps_next s at i n less, stamps_snoc s at i)

      -- the place of the stamp's node
      module _ (v : is_version wr nodes x stamp ≡ true) where
        abbrev place : ℕ
        place = rank_in stamp nodes - 1

        node : stamp ∈ nodes
        node = any_in stamp nodes (both_true (any (eqb stamp) nodes) _ v).0

        place_in : place < length nodes
        place_in = let r = in_rank stamp 1 nodes node in omega (arith, r.0, r.1)

        place_is : get_or nodes place 0 ≡ stamp
        place_is = let r = (in_rank stamp 1 nodes node).0 in rank_at_lem stamp 1 nodes node place (omega arith)

        -- its cell has a rank where the stamp was seen
        cell_seen : eqb (get_or rank (cell_of nodes x stamp) 0) 0 ≡ not (any (eqb stamp) seen)
        cell_seen = rw (g.own place place_in, place_is) (go (any (eqb stamp) seen) refl)
          where
            go : (b : Bool) → any (eqb stamp) seen ≡ b → eqb (rank_in stamp seen) 0 ≡ not b
            go true e = let r = (in_rank stamp 1 seen (any_in stamp seen e)).0 in ne_eqb (rank_in stamp seen) 0 (λ z. absurd (omega arith))
            go false e = eq-eqb _ _ (no_rank stamp 1 seen (any_not stamp seen e))

        -- the rank that it gets there
        module _ (new : any (eqb stamp) seen ≡ false) where
          own_next : (p : ℕ) → p < length nodes → get_or (set rank (cell_of nodes x stamp) (i + 1)) (rank_at p x) 0
              ≡ rank_in (get_or nodes p 0) (stamps_at s at (suc i))
          own_next p h = rw (stamps_snoc s at i) (go (eqb p place) refl)
            where
              go : (b : Bool) → eqb p place ≡ b → get_or (set rank (rank_at place x) (i + 1)) (rank_at p x) 0 ≡ rank_in (get_or nodes p 0) (seen ++ stamp ∷ [])
              go true e =
                  let q = eqb-true p place e in
                  let c : rank_at place x < length rank = (let z = place_in in omega arith) in
                  let l = length-stamps_at s at i in
                  let r = rank_new stamp 1 seen (any_not stamp seen new) in
                  rw (q, place_is, get_or-set_same rank (rank_at place x) (i + 1) 0 c) (omega arith)
              go false e =
                  let d = eqb-false p place e in
                  let a : get_or nodes p 0 ≢ stamp = λ f. d (distinct_at nodes p place distinct h place_in (f ∙ sym place_is)) in
                  rw (get_or-set_other rank (rank_at place x) (rank_at p x) (i + 1) 0 (λ f. d (omega arith)), rank_other (get_or nodes p 0) 1 stamp seen a)
                  (g.own p h)

          others_next : (p y : ℕ) → p < length nodes → y ≤ most_item → y ≢ x
              → get_or (set rank (cell_of nodes x stamp) (i + 1)) (rank_at p y) 0 ≡ get_or rank₀ (rank_at p y) 0
          others_next p y h l d = rw (get_or-set_other rank (rank_at place x) (rank_at p y) (i + 1) 0 (λ f. d (omega arith))) (g.others p y h l d)

      module _ {r : Bool} {rank' : List ℕ} (noted : Noted wr nodes x stamp (i + 1) rank r rank') where
        -- a stamp noted
        pub noting_next : r ≡ true → Noting wr nodes x s at n rank₀ rank' (i + 1)
        noting_next t =
            let b = both_true (is_version wr nodes x stamp) _ (sym noted.answer ∙ t) in
            let new : any (eqb stamp) seen ≡ false = not-true _ (sym (cell_seen b.0) ∙ b.1) in
            let e : rank' ≡ set rank (cell_of nodes x stamp) (i + 1) = noted.cells ∙ rw t in
            let z : i + 1 ≡ suc i = omega arith in
            record {
              most = omega arith;
              rest = rw z (at_stamp ∙ rw (b.0, new));
              own = rw (e, z) (rw z at (own_next b.0 new));
              others = rw e (others_next b.0 new);
              size = rw (e, length-set) g.size;
            }

        -- a stamp refused
        pub noting_stop : r ≡ false → FieldRanked wr nodes x (stamps_at s at n) rank₀ false rank'
        noting_stop f =
            let e : rank' ≡ rank = noted.cells ∙ rw f in
            record {
              answer = sym (at_stamp ∙ go (is_version wr nodes x stamp) refl (sym noted.answer ∙ f));
              own = λ t. false_true t;
              others = rw e g.others;
            }
          where
            go : (b : Bool) → is_version wr nodes x stamp ≡ b → (b && eqb (get_or rank (cell_of nodes x stamp) 0) 0) ≡ false
                → (b && (not (any (eqb stamp) seen) && each_once wr nodes x (stamps_at s at (suc i)) (stamps_at s (at + 4 * suc i) (n - suc i)))) ≡ false
            go true v q = rw (sym (cell_seen v) ∙ q)
            go false v q = refl

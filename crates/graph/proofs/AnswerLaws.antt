-- The stamps written one after the other, and a cycle turned so that its smallest comes first: that is the theory's turning, since the front before the
-- first smallest and the rest from it on are cut at the same place.
-- Assumes nothing.
use Prim.Native.Nat.{ℕ, zero, suc, ◌+◌, ◌*◌, ◌≤◌, ◌<◌}
use native.Mathlib.Numerals.{add-one}
use native.Mathlib.Omega.{arith}
use mathlib.Core.Path.{◌≡◌, refl, sym, ◌∙◌, ap}
use mathlib.Core.Logic.{◌≢◌}
use mathlib.Core.List.Memᴰ
use mathlib.Core.List.{List, [], ◌∷◌, ◌++◌, append-nil}
use lib.ListN.{length, take, drop, get_or, length-map, length-drop}
use lib.Seq.{take-suc, length-take-le}
use borrow.Author.Tests.{eq-eqb, ne_eqb, ltb-true, ltb-false}
use Rattle.std.specs.Prelude.{All, nat_lt}
use Rattle.std.specs.List.{IsFirstBest}
use Rattle.lists.specs.Member.{◌∈◌}
use Rattle.lists.proofs.PlaceLaws.{at_in, in_at}
use Rattle.log_format.specs.Bytes.{bytes4, stamp_bytes, splice}
use Rattle.log_format.proofs.StampBytesLaws.{length-stamp_bytes, stamp_bytes-append}
use Rattle.log_format.proofs.SpliceLaws.{spliced, and_then}
use Rattle.log_format.proofs.AppendLaws.{length-splice}
use Rattle.graph_theory.specs.Walking.{before, from, least, smallest_first}
use Rattle.graph_theory.proofs.TurningLaws.{least_in, least_le}
use Rattle.graph.specs.Answer.{stamps_at, Turned}

-- what holds of the members holds at each place
pub all_in : (P : ℕ → Type 0) (l : List ℕ) → ((x : ℕ) → x ∈ l → P x) → All P l
all_in P [] h k d w = absurd (omega arith)
all_in P (a ∷ l) h zero d w = h a (Memᴰ.head refl)
all_in P (a ∷ l) h (suc k) d w = all_in P l (λ x m. h x (Memᴰ.tail m)) k d (omega arith)

-- ---- the stamps written

stamps_at-append : (nodes l m : List ℕ) → stamps_at nodes (l ++ m) ≡ stamps_at nodes l ++ stamps_at nodes m
stamps_at-append nodes [] m = refl
stamps_at-append nodes (k ∷ l) m = ap (λ (t : List ℕ). get_or nodes k 0 ∷ t) (stamps_at-append nodes l m)

-- the bytes of the stamps of nodes
abbrev pub node_bytes : List ℕ → List ℕ → List ℕ
node_bytes nodes l = stamp_bytes (stamps_at nodes l)

node_bytes_append : (nodes l m : List ℕ) → node_bytes nodes (l ++ m) ≡ node_bytes nodes l ++ node_bytes nodes m
node_bytes_append nodes l m = ap stamp_bytes (stamps_at-append nodes l m) ∙ stamp_bytes-append (stamps_at nodes l) (stamps_at nodes m)

length_node_bytes : (nodes l : List ℕ) → length (node_bytes nodes l) ≡ 4 * length l
length_node_bytes nodes l = length-stamp_bytes (stamps_at nodes l) ∙ ap (λ (k : ℕ). 4 * k) (length-map l (λ (k : ℕ). get_or nodes k 0))

-- the stamps of the first i nodes of a path are written, from a place of the answer on
pub record Put (nodes path : List ℕ) (at : ℕ) (a₀ : List ℕ) (i : ℕ) (a : List ℕ) : Type 0 where
  pub within : i ≤ length path
  pub size : length a ≡ length a₀
  pub is : a ≡ splice a₀ at (node_bytes nodes (take i path))

module _ (nodes path : List ℕ) (at : ℕ) (a₀ : List ℕ) (room : at + 4 * length path ≤ length a₀) where
  pub put_none : Put nodes path at a₀ 0 a₀
  put_none = record { within = omega arith; size = refl; is = spliced a₀ at [] (omega arith) }

  pub put_next : (i : ℕ) (a : List ℕ) → i < length path → Put nodes path at a₀ i a
      → Put nodes path at a₀ (i + 1) (splice a (at + 4 * i) (bytes4 (get_or nodes (get_or path i 0) 0)))
  put_next i a h p =
      let b = bytes4 (get_or nodes (get_or path i 0) 0) in
      let x = node_bytes nodes (take i path) in
      let n : length x ≡ 4 * i = length_node_bytes nodes (take i path) ∙ ap (λ (k : ℕ). 4 * k) (length-take-le i path p.within) in
      let e : x ++ b ≡ node_bytes nodes (take (i + 1) path) =
      sym (rw (add-one i, take-suc path i 0 h) (node_bytes_append nodes (take i path) (get_or path i 0 ∷ []) ∙ rw append-nil refl)) in
      let z : length (splice a (at + 4 * i) b) ≡ length a = length-splice a (at + 4 * i) b (omega (arith, p.size)) in
      record {
        within = omega arith;
        size = z ∙ p.size;
        is = and_then a₀ a (splice a (at + 4 * i) b) at (at + 4 * i) x b p.is refl (omega arith) (omega (arith, p.size)) ∙ ap (splice a₀ at) e;
      }

-- ---- turning

module _ (p : ℕ) where
  turn_at : (l : List ℕ) (q : ℕ) → q < length l → get_or l q 0 ≡ p → ((i : ℕ) → i < q → get_or l i 0 ≢ p)
      → (from p l ≡ drop q l) × (before p l ≡ take q l)
  turn_at [] q h g b = absurd (omega arith)
  turn_at (a ∷ l) zero h g b = let e = eq-eqb p a (sym g) in (rw e refl, rw e refl)
  turn_at (a ∷ l) (suc q) h g b =
      let n = ne_eqb p a (λ z. b 0 (omega arith) (sym z)) in
      let ih = turn_at l q (omega arith) g (λ i x. b (suc i) (omega arith)) in
      (rw n ih.0, rw n (ap (λ (r : List ℕ). a ∷ r) ih.1))

-- a cycle turned at its smallest place is the cycle with its smallest first
pub turn_least : (l : List ℕ) (q : ℕ) → IsFirstBest nat_lt l (length l) q → smallest_first l ≡ drop q l ++ take q l
turn_least [] q s = absurd (omega (arith, s.0))
turn_least (a ∷ l) q s =
    let i = in_at (a ∷ l) (least a l) (least_in a l) in
    let lo : least a l ≤ get_or (a ∷ l) q 0 = least_le a l (get_or (a ∷ l) q 0) (at_in (a ∷ l) q s.0) in
    let hi : get_or (a ∷ l) q 0 ≤ get_or (a ∷ l) i.0 0 = ltb-false (get_or (a ∷ l) i.0 0) (get_or (a ∷ l) q 0) (s.1 i.0 0 i.1) in
    let k : get_or (a ∷ l) q 0 ≡ least a l = omega (arith, i.2) in
    let u = turn_at (least a l) (a ∷ l) q s.0 k (λ j x z. let y = ltb-true (get_or (a ∷ l) q 0) (get_or (a ∷ l) j 0) (s.2 j 0 x) in omega arith) in
    rw (u.0, u.1) refl

pub turned : (nodes cycle : List ℕ) (q : ℕ) (answer mid after : List ℕ) → IsFirstBest nat_lt cycle (length cycle) q → 4 * length cycle ≤ length answer
    → mid ≡ splice answer 0 (node_bytes nodes (drop q cycle)) → after ≡ splice mid (4 * length (drop q cycle)) (node_bytes nodes (take q cycle))
    → Turned nodes cycle answer after
turned nodes cycle q answer mid after s h a b =
    let x = node_bytes nodes (drop q cycle) in
    let y = node_bytes nodes (take q cycle) in
    let m : length x ≡ 4 * length (drop q cycle) = length_node_bytes nodes (drop q cycle) in
    let n : length y ≡ 4 * q = length_node_bytes nodes (take q cycle) ∙ ap (λ (k : ℕ). 4 * k) (length-take-le q cycle (omega (arith, s.0))) in
    record {
      place = q;
      least = s;
      is = and_then answer mid after 0 (4 * length (drop q cycle)) x y a b (omega arith) (omega (arith, s.0, length-drop q cycle))
          ∙ ap (splice answer 0) (sym (node_bytes_append nodes (drop q cycle) (take q cycle)));
    }

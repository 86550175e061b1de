-- A stamp looked for among stamps that rise, by the library's binary search, and a stamp put in its place: where all before the place are below k, the list
-- with k inserted is the list itself if k stands there, and else the list opened at that place.
-- Assumes nothing.
use Prim.Native.Nat.{ℕ, zero, suc, ◌+◌, ◌-◌, ◌≤◌, ◌<◌}
use native.Mathlib.Nat.{eq-or-lt_of_le}
use native.Mathlib.Decide.{dec_lt}
use native.Mathlib.Omega.{arith}
use mathlib.Core.Path.{◌≡◌, refl, sym, ap, ◌∙◌}
use mathlib.Core.Logic.{inl, inr}
use mathlib.Core.List.{List, [], ◌∷◌, ◌++◌, append_assoc}
use lib.ListN.{length, take, drop, get_or, set, length-append, length-drop}
use lib.Seq.{length-take-le, take_at, drop_at}
use borrow.Author.Tests.{eq-eqb, ne_eqb, lt-ltb, le-ltb}
use Rattle.std.specs.Prelude.{Result, Ok, Err, MatchResult}
use Rattle.std.specs.List.{copy_within}
use Rattle.std.specs.List.Sorted.{IsBinarySearchResult}
use Rattle.std.specs.Ordering.{nat_cmp}
use Rattle.std.specs.Result.{result_ok}
use Rattle.std.proofs.lemmas.List.Sorted.{searched}
use Rattle.std.proofs.lemmas.Slice.{between_is}
use Rattle.lists.specs.Member.{Rising}
use Rattle.lists.specs.Order.{insert}
use Rattle.lists.proofs.PlaceLaws.{in_at, rising_at}
use Rattle.lists.proofs.ShiftLaws.{opened, opened_set}
use Rattle.sorted.specs.Sorted.{Located, Added}

-- ---- over a list

module _ (k : ℕ) where
  -- k stands there already
  insert_old : (l : List ℕ) (r : ℕ) → r < length l → ((i : ℕ) → i < r → get_or l i 0 < k) → get_or l r 0 ≡ k → insert k l ≡ l
  insert_old [] r w b e = absurd (omega arith)
  insert_old (a ∷ l) zero w b e = rw (le-ltb k a (omega arith), eq-eqb k a (sym e))
  insert_old (a ∷ l) (suc r) w b e =
      let h : a < k = b 0 (omega arith) in
      rw (le-ltb k a (omega arith), ne_eqb k a (λ q. omega arith))
      (ap (λ (t : List ℕ). a ∷ t) (insert_old l r (omega arith) (λ i j. b (suc i) (omega arith)) e))

  -- it does not
  insert_new : (l : List ℕ) (r : ℕ) → r ≤ length l → ((i : ℕ) → i < r → get_or l i 0 < k) → (r < length l → k < get_or l r 0)
      → insert k l ≡ take r l ++ k ∷ drop r l
  insert_new [] zero w b e = refl
  insert_new [] (suc r) w b e = absurd (omega arith)
  insert_new (a ∷ l) zero w b e = rw (lt-ltb k a (e (omega arith)))
  insert_new (a ∷ l) (suc r) w b e =
      let h : a < k = b 0 (omega arith) in
      rw (le-ltb k a (omega arith), ne_eqb k a (λ q. omega arith))
      (ap (λ (t : List ℕ). a ∷ t) (insert_new l r (omega arith) (λ i j. b (suc i) (omega arith)) (λ g. e (omega arith))))

-- ---- what the search answers

-- what the library's binary search answers for k
abbrev pub IsFound : (l : List ℕ) (k : ℕ) (r : Result ℕ ℕ) → Type 0
IsFound l k r = IsBinarySearchResult (λ y. nat_cmp y k) l r

module _ (l : List ℕ) (k : ℕ) (up : Rising 0 l) where
  rises : (i j : ℕ) → i ≤ j → j < length l → get_or l i 0 ≤ get_or l j 0
  rises i j h w = elim (eq-or-lt_of_le h) [
    | inl q ↦ (let e : get_or l i 0 ≡ get_or l j 0 = ap (λ (m : ℕ). get_or l m 0) q in omega arith)
    | inr g ↦ omega (arith, rising_at 0 l up i j g w)
  ]

  found : (r : Result ℕ ℕ) → IsFound l k r → MatchResult r (λ i. (i < length l) × (get_or l i 0 ≡ k))
      (λ i. (i ≤ length l) × ((m : ℕ) → m < i → get_or l m 0 < k) × ((m : ℕ) → i ≤ m → m < length l → k < get_or l m 0))
  found r h = searched l k r h rises

  pub located : (r : Result ℕ ℕ) → IsFound l k r → Located l k (result_ok r)
  located (Ok i) h = let f = found (Ok i) h in record { within = f.0; here = f.1 }
  located (Err i) h = λ m.
      let f = found (Err i) h in
      let p = in_at l k m in
      elim (dec_lt p.0 i) [ yes g ↦ omega (arith, f.1 p.0 g, p.2) | no g ↦ omega (arith, f.2 p.0 (omega arith) p.1, p.2) ]

  pub inserted_old : (i : ℕ) → IsFound l k (Ok i) → insert k l ≡ l
  inserted_old i h =
      let f = found (Ok i) h in
      insert_old k l i f.0 (λ m g. let z = rising_at 0 l up m i g f.0 in omega (arith, f.1)) f.1

  pub inserted_new : (i : ℕ) → IsFound l k (Err i) → (i ≤ length l) × (insert k l ≡ take i l ++ k ∷ drop i l)
  inserted_new i h = let f = found (Err i) h in (f.0, insert_new k l i f.0 f.1 (λ g. f.2 i (omega arith) g))

-- ---- over the first n of a slice

module _ (a : List ℕ) (n k : ℕ) (up : Rising 0 (take n a)) where
  -- nothing is to be added
  pub add_old : n ≤ length a → (i : ℕ) → IsFound (take n a) k (Ok i) → Added a n k a n
  add_old w i h =
      let q = inserted_old (take n a) k up i h in
      record { first = sym q; count = sym (ap length q ∙ length-take-le n a w); rest = refl }

  -- what stood at the place and after it, up to n, moved one place on
  moved : (i : ℕ) → i ≤ n → copy_within a i n (i + 1) ≡ opened a i n
  moved i h =
      let e : i + 1 + (n - i) ≡ n + 1 = omega arith in
      append_assoc (take (i + 1) a) (take (n - i) (drop i a)) (drop (i + 1 + (n - i)) a)
      ∙ ap (λ (t : List ℕ). take (i + 1) a ++ (t ++ drop (i + 1 + (n - i)) a)) (between_is a i n)
      ∙ ap (λ (m : ℕ). take (i + 1) a ++ (drop i (take n a) ++ drop m a)) e

  -- k is
  pub add_new : n < length a → (i : ℕ) → IsFound (take n a) k (Err i) → (b : List ℕ) → b ≡ copy_within a i n (i + 1) → Added a n k (set b i k) (n + 1)
  add_new w i h b e =
      let s : length (take n a) ≡ n = length-take-le n a (omega arith) in
      let f = inserted_new (take n a) k up i h in
      let g : i ≤ n = omega (arith, f.0) in
      let front = take i (take n a) ++ k ∷ drop i (take n a) in
      let l : length front ≡ n + 1 = rw (length-append, length-take-le i (take n a) f.0, length-drop) (omega arith) in
      let q : set b i k ≡ front ++ drop (n + 1) a = ap (λ (t : List ℕ). set t i k) (e ∙ moved i g) ∙ opened_set a i n k 0 g w in
      record {
        first = ap (take (n + 1)) q ∙ take_at front (drop (n + 1) a) (n + 1) l ∙ sym f.1;
        count = sym (ap length f.1 ∙ l);
        rest = ap (drop (n + 1)) q ∙ drop_at front (drop (n + 1) a) (n + 1) l;
      }

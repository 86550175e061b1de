-- Opening a place in a list: what stands from the place on, up to a count, moves one place on, the last first.
-- Assumes nothing.
use mathlib.Core.Path.{◌≡◌, ◌∙◌}
use mathlib.Core.List.{List, ◌∷◌, ◌++◌, append_assoc}
use Prim.Native.Nat.{ℕ, ◌+◌, ◌≤◌, ◌<◌}
use native.Mathlib.Numerals.{add-one}
use native.Mathlib.Omega.{arith}
use lib.ListN.{length, take, drop, set, get_or, take-append-drop, get_or-append}
use lib.Seq.{take-suc, length-take-le, set_at, slice, slice_empty, slice-cons, get_or-take, take-take, append_snoc}

module _ {A : Type 0} where
  -- l with what stands from i up to n moved one place on; what stood at i stands there still
  abbrev pub opened : List A → ℕ → ℕ → List A
  opened l i n = take (i + 1) l ++ (slice i n l ++ drop (n + 1) l)

  pub opened_none : (l : List A) (n : ℕ) → opened l n n ≡ l
  opened_none l n = rw (slice_empty n l) (take-append-drop (n + 1) l)

  set_one : (l r : List A) (j : ℕ) (v z : A) → j < length l → set (take (j + 1) l ++ r) j v ≡ take j l ++ v ∷ r
  set_one l r j v z h =
      rw (add-one j, take-suc l j z, append_snoc (take j l) (get_or l j z) r)
      (set_at (take j l) (get_or l j z) r v j (length-take-le j l (omega arith)))

  -- a turn, at i + 1: what is read at i is l's, and it is stored at i + 1
  module _ (l : List A) (i n : ℕ) (z : A) (h : i < n) (k : n < length l) where
    pub opened_read : get_or (opened l (i + 1) n) i z ≡ get_or l i z
    opened_read =
        let le : i + 1 + 1 ≤ length l = omega arith in
        let part : i < length (take (i + 1 + 1) l) = rw (length-take-le (i + 1 + 1) l le) (omega arith) in
        get_or-append (take (i + 1 + 1) l) (slice (i + 1) n l ++ drop (n + 1) l) z i part ∙ get_or-take (i + 1 + 1) l i z (omega arith)

    pub opened_more : set (opened l (i + 1) n) (i + 1) (get_or l i z) ≡ opened l i n
    opened_more =
        let all : n ≤ length l = omega arith in
        set_one l (slice (i + 1) n l ++ drop (n + 1) l) (i + 1) (get_or l i z) z (omega arith)
        ∙ rw (add-one i, slice-cons i n l z)

  -- the last store
  module _ (l : List A) (i n : ℕ) (v z : A) (h : i ≤ n) (k : n < length l) where
    pub opened_set : set (opened l i n) i v ≡ take i (take n l) ++ v ∷ drop i (take n l) ++ drop (n + 1) l
    opened_set = set_one l (slice i n l ++ drop (n + 1) l) i v z (omega arith) ∙ rw (take-take i n l, append_assoc)

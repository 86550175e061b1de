-- The table's definitions, one place at a time: what a turn of each loop adds.
-- Assumes nothing.
use Prim.Native.Nat.{ℕ, suc, ◌+◌, ◌<◌}
use mathlib.Core.Path.{◌≡◌, refl, sym, ap, ◌∙◌}
use mathlib.Core.Bool.{Bool, true, false, ◌&&◌, ◌||◌, and_assoc, and-true, true≢false, false≢true}
use mathlib.Core.List.Memᴰ
use mathlib.Core.List.{List, [], ◌∷◌, map}
use mathlib.Core.Logic.{inl, inr}
use native.Mathlib.Numerals.{add-one}
use borrow.Author.Tests.{eqb-true, eqb-false}
use lib.Bits.{bit_or}
use lib.Dec.{eqb}
use lib.ListN.{length, drop, get_or}
use lib.Seq.{drop-cons}
use Rattle.std.specs.List.{fold, list_any}
use Rattle.lists.specs.Member.{◌∈◌}
use Rattle.log_format.specs.declared.Stamp.{Stamp}
use Rattle.open_table.specs.Open.{stamp, number, holds}
use Rattle.open_table.specs.Intact.{in_place, rises, zeros}
use Rattle.open_table.proofs.BitLaws.{or_none_lem}

-- ---- over any list of numbers

-- a number that is or-ed in is one more that has to be 0
pub zeros_or : (some x : ℕ) (xs : List ℕ) → (eqb (bit_or some x) 0 && zeros xs) ≡ (eqb some 0 && zeros (x ∷ xs))
zeros_or some x xs = rw or_none_lem (and_assoc (eqb some 0) (eqb x 0) (zeros xs))

-- ---- over stamps

-- numbers that are or-ed together are 0 where each is
pub zeros_folded : (some : ℕ) (l : List Stamp) → eqb (fold (λ (n : ℕ) (k : Stamp). bit_or n k.0) some l) 0 ≡ (eqb some 0 && zeros (map number l))
zeros_folded some [] = sym (and-true (eqb some 0))
zeros_folded some (k ∷ l) = zeros_folded (bit_or some k.0) l ∙ zeros_or some k.0 (map number l)

-- one stamp more
pub rises_next : (l : List Stamp) (i : ℕ) → i < length l → (rising : Bool) (before last : ℕ)
    → ((rising && in_place before last (number (get_or l i (stamp 0)))) && rises (number (get_or l i (stamp 0))) last (map number (drop (i + 1) l)))
    ≡ (rising && rises before last (map number (drop i l)))
rises_next l i h rising before last =
    rw (drop-cons l i (stamp 0), add-one i) (and_assoc rising (in_place before last (number (get_or l i (stamp 0)))) (rises (number (get_or l i (stamp 0))) last (map number (drop (suc i) l))))

-- the search among stamps is that among their numbers
pub any_holds : (k : Stamp) (l : List Stamp) → list_any (λ (s : Stamp). eqb s.0 k.0) l ≡ holds k.0 (map number l)
any_holds k [] = refl
any_holds k (s ∷ l) = ap (λ (b : Bool). eqb s.0 k.0 || b) (any_holds k l)

-- ---- what the search answers

pub holds_yes : (k : ℕ) (l : List ℕ) → holds k l ≡ true → k ∈ l
holds_yes k [] h = absurd (false≢true h)
holds_yes k (x ∷ l) h = go (eqb x k) refl h (holds_yes k l)
  where
    go : (b : Bool) → eqb x k ≡ b → (b || holds k l) ≡ true → (holds k l ≡ true → k ∈ l) → k ∈ x ∷ l
    go true e q r = Memᴰ.head (sym (eqb-true x k e))
    go false e q r = Memᴰ.tail (r q)

pub holds-no : (k : ℕ) (l : List ℕ) → holds k l ≡ false → ¬ (k ∈ l)
holds-no k [] h m = Memᴰ.not-nil m
holds-no k (x ∷ l) h m = go (eqb x k) refl h (holds-no k l)
  where
    go : (b : Bool) → eqb x k ≡ b → (b || holds k l) ≡ false → (holds k l ≡ false → ¬ (k ∈ l)) → ⊥
    go true e q r = true≢false q
    go false e q r = elim (Memᴰ.cases_cons m) [ inl w ↦ eqb-false x k e (sym w) | inr w ↦ r q w ]

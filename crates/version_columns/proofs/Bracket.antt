-- Binary search over rows that rise: all rows before `lo` stand at or before the version looked for, none from `hi` on does, and the row in the middle settles all on one side of it.
-- Assumes nothing.
use mathlib.Core.Path.{◌≡◌, refl, sym, ap, ◌∙◌, subst}
use mathlib.Core.Logic.{◌⊎◌, inl, inr, ⊎_elim}
use mathlib.Core.List.{List, [], ◌∷◌}
use Prim.Native.Nat.{ℕ, zero, suc, ◌+◌, ◌≤◌, ◌<◌}
use native.Mathlib.Nat.{eq-or-lt_of_le}
use native.Mathlib.Omega.{arith}
use lib.ListN.{length, take, get_or}
use Rattle.lists.proofs.ChoiceLaws.{pick_yes, pick_no}
use Rattle.version_columns.specs.Lookup.{UpTo, up_to?, up_to_in}

-- a row before one that stands at or before a version stands there too
pub up_before : (x k y j v i : ℕ) → (y < v) ⊎ ((y ≡ v) × (j < i)) → UpTo x k v i → UpTo x k y j
up_before x k y j v i (inl l) (inl h) = inl (omega arith)
up_before x k y j v i (inl l) (inr h) = inl (omega arith)
up_before x k y j v i (inr e) (inl h) = inl (omega arith)
up_before x k y j v i (inr e) (inr h) = inr (omega arith, omega arith)

-- the first n rows of two columns rise strictly, by item, then stamp
abbrev pub RisingRows : List ℕ → List ℕ → ℕ → Type 0
RisingRows items stamps n = (i j : ℕ) → i < j → j < n → (get_or items i 0 < get_or items j 0) ⊎ ((get_or items i 0 ≡ get_or items j 0) × (get_or stamps i 0 < get_or stamps j 0))

-- row i stands at or before the version of x by k
abbrev pub UpToAt : List ℕ → List ℕ → ℕ → ℕ → ℕ → Type 0
UpToAt items stamps x k i = UpTo x k (get_or items i 0) (get_or stamps i 0)

-- lo and hi bracket the answer
pub record Bracket (items stamps : List ℕ) (n x k lo hi : ℕ) : Type 0 where
  pub lo_le : lo ≤ hi
  pub hi_le : hi ≤ n
  pub before : (i : ℕ) → i < lo → UpToAt items stamps x k i
  pub after : (i : ℕ) → hi ≤ i → i < n → ¬ UpToAt items stamps x k i

pub bracket_start : (items stamps : List ℕ) (n x k : ℕ) → Bracket items stamps n x k 0 n
bracket_start items stamps n x k = record {
  lo_le = omega arith;
  hi_le = omega arith;
  before = λ i l. absurd (omega arith);
  after = λ i l h. absurd (omega arith);
}

module _ (items stamps : List ℕ) (n x k lo hi m : ℕ) (s : RisingRows items stamps n) (b : Bracket items stamps n x k lo hi) (lm : lo ≤ m) (mh : m < hi) where
  pub bracket_up : UpToAt items stamps x k m → Bracket items stamps n x k (m + 1) hi
  bracket_up u = record {
    lo_le = omega arith;
    hi_le = b.hi_le;
    before = λ i l.
        ⊎_elim
        (λ (e : i ≡ m). subst (UpToAt items stamps x k) (sym e) u)
        (λ (h : i < m). up_before x k _ _ _ _ (s i m h (omega (arith, b.hi_le))) u)
        (eq-or-lt_of_le (omega arith));
    after = b.after;
  }

  pub bracket_down : ¬ UpToAt items stamps x k m → Bracket items stamps n x k lo m
  bracket_down u = record {
    lo_le = lm;
    hi_le = omega (arith, b.hi_le);
    before = b.before;
    after = λ i l h a.
        ⊎_elim
        (λ (e : m ≡ i). u (subst (UpToAt items stamps x k) (sym e) a))
        (λ (g : m < i). u (up_before x k _ _ _ _ (s m i g h) a))
        (eq-or-lt_of_le l);
  }

-- the answer is the number of rows that stand at or before
counted : (x k : ℕ) (items stamps : List ℕ) (n r : ℕ) → n ≤ length items → n ≤ length stamps → r ≤ n
    → ((i : ℕ) → i < r → UpToAt items stamps x k i)
    → (r < n → ¬ UpToAt items stamps x k r)
    → r ≡ up_to_in x k (take n items) (take n stamps)
unfolding up_to_in
counted x k items stamps zero zero g h l b a = refl
counted x k items stamps zero (suc r) g h l b a = absurd (omega arith)
counted x k [] stamps (suc n) r g h l b a = absurd (omega arith)
counted x k (y ∷ items) [] (suc n) r g h l b a = absurd (omega arith)
counted x k (y ∷ items) (j ∷ stamps) (suc n) zero g h l b a = sym (pick_no (up_to? x k y j) (suc (up_to_in x k (take n items) (take n stamps))) 0 (a (omega arith)))
counted x k (y ∷ items) (j ∷ stamps) (suc n) (suc r) g h l b a =
    ap suc (counted x k items stamps n r (omega arith) (omega arith) (omega arith) (λ i t. b (suc i) (omega arith)) (λ t. a (omega arith)))
    ∙ sym (pick_yes (up_to? x k y j) (suc (up_to_in x k (take n items) (take n stamps))) 0 (b 0 (omega arith)))

pub bracket_end : (items stamps : List ℕ) (n x k lo hi : ℕ) → n ≤ length items → n ≤ length stamps → Bracket items stamps n x k lo hi → hi ≤ lo
    → lo ≡ up_to_in x k (take n items) (take n stamps)
bracket_end items stamps n x k lo hi g h b met =
    let within : lo ≤ n = omega (arith, b.lo_le, b.hi_le) in
    counted x k items stamps n lo g h within b.before (λ l. b.after lo met l)

-- What the changes of one column leave.
-- Assumes nothing.
use Rattle.std.specs.Prelude.{ℕ, ◌+◌, ◌-◌, ◌<◌, max, ◌≡◌, ◌≢◌, List, [], ◌∷◌, ◌++◌, length, take, drop, get_or, set, replicate}
use Rattle.std.proofs.Math.Decide.{ℕ_discrete}
use Rattle.lists.specs.Choice.{pick}
use Rattle.scheduler_rules.specs.Model.{Version}
use Rattle.version_columns.specs.declared.Versions.{Versions}

-- a with x at a place among its first n, and what stood there and after it, up to n, one place on
abbrev pub inserted : ℕ → ℕ → ℕ → List ℕ → List ℕ
inserted at n x a = take at (take n a) ++ x ∷ drop at (take n a) ++ drop (n + 1) a

-- none of the first n stamps is k
abbrev pub Without : ℕ → ℕ → List ℕ → Type 0
Without k n ks = (i : ℕ) → i < n → get_or ks i 0 ≢ k

-- the entries of a whose fellows in ks are not k
unfoldable pub kept : ℕ → List ℕ → List ℕ → List ℕ
kept k (j ∷ ks) (x ∷ a) = pick (ℕ_discrete j k) (kept k ks a) (x ∷ kept k ks a)
kept k (j ∷ ks) [] = []
kept k [] a = []

-- a with, of its first n, only the entries whose fellows in ks are not k, and zeros after them up to n
abbrev pub narrowed : ℕ → ℕ → List ℕ → List ℕ → List ℕ
narrowed k n ks a = kept k (take n ks) (take n a) ++ replicate (n - length (kept k (take n ks) (take n a))) 0 ++ drop n a

-- b is a narrowed, and r is how many entries are kept
pub record Narrowed (k n : ℕ) (ks a b : List ℕ) (r : ℕ) : Type 0 where
  pub column : b ≡ narrowed k n ks a
  pub count : r ≡ length (kept k (take n ks) (take n a))

-- a with the entry at a place raised to k, if it is lower
abbrev pub raised_at : ℕ → ℕ → List ℕ → List ℕ
raised_at at k a = set a at (max (get_or a at 0) k)

-- ---- the four columns together

-- with w at a place
abbrev pub with_version : ℕ → Version → Versions → Versions
with_version at w t = record {
  items = inserted at t.count w.item t.items;
  stamps = inserted at t.count w.stamp t.stamps;
  values = inserted at t.count w.value t.values;
  marks = inserted at t.count w.mark t.marks;
  count = t.count + 1;
}

-- without the versions of k
abbrev pub without_stamp : ℕ → Versions → Versions
without_stamp k t = record {
  items = narrowed k t.count t.stamps t.items;
  stamps = narrowed k t.count t.stamps t.stamps;
  values = narrowed k t.count t.stamps t.values;
  marks = narrowed k t.count t.stamps t.marks;
  count = length (kept k (take t.count t.stamps) (take t.count t.stamps));
}

-- with the mark at a place raised to k
abbrev pub with_mark : ℕ → ℕ → Versions → Versions
with_mark at k t = record { items = t.items; stamps = t.stamps; values = t.values; marks = raised_at at k t.marks; count = t.count }

-- The walk of a bucket's chain finds the newest row of a key: where it stands, no row from there on has the key, so a row that has it is the newest, and
-- the chain's end says that none has.
-- Assumes nothing.
use mathlib.Core.Path.{◌≡◌, sym, ap, ◌∙◌}
use mathlib.Core.List.{List}
use mathlib.Core.Bool.{true}
use mathlib.Core.Logic.{◌≢◌}
use Prim.Native.Nat.{ℕ, suc, ◌-◌, ◌≤◌, ◌<◌}
use native.Mathlib.Omega.{arith}
use borrow.Author.Tests.{eqb-true, eq-eqb, ne_eqb}
use Rattle.index.specs.Index.{rows_in, newest_in, key_at, older_at, number_at, last, key_is, row_of, value_at, table_of, buckets, bucket_of, in_bucket, Table}
use Rattle.index.proofs.LastLaws.{last_le, last_hit, last_at, last_not, last_through}

-- where the walk among the first n rows for the key k stands: no row from p on has the key, and the row before p is in k's bucket
pub record On (m : List ℕ) (n k p : ℕ) : Type 0 where
  pub below : p ≤ n
  pub same : row_of m n k ≡ row_of m p k
  pub near : 0 < p → bucket_of (key_at m (p - 1)) ≡ bucket_of k

key_bucket : (m : List ℕ) (k i : ℕ) → key_is m k i ≡ true → in_bucket m (bucket_of k) i ≡ true
key_bucket m k i e = eq-eqb _ _ (ap bucket_of (eqb-true (key_at m i) k e))

-- it enters at the newest row of the bucket
on_last : (m : List ℕ) (k n : ℕ) → On m n k (last (in_bucket m (bucket_of k)) n)
on_last m k n = record {
  below = last_le _ n;
  same = last_through (in_bucket m (bucket_of k)) (key_is m k) (key_bucket m k) n;
  near = λ h. eqb-true _ _ (last_hit (in_bucket m (bucket_of k)) n h);
}

on_less : (m : List ℕ) (k n l p : ℕ) → l ≤ n → row_of m n k ≡ row_of m l k → On m l k p → On m n k p
on_less m k n l p h e o = record { below = omega (arith, o.below); same = e ∙ o.same; near = o.near }

module _ {m : List ℕ} (t : Table m) (k : ℕ) where
  pub enter : bucket_of k < buckets → On m (rows_in m) k (newest_in m (bucket_of k))
  enter h = rw (t.heads (bucket_of k) h) (on_last m k (rows_in m))

  module _ {p : ℕ} (o : On m (rows_in m) k p) (pos : 0 < p) where
    -- a row that has the key is the newest
    newest : key_at m (p - 1) ≡ k → row_of m (rows_in m) k ≡ suc (p - 1)
    newest e =
        let z : suc (p - 1) ≡ p = omega arith in
        o.same ∙ ap (last (key_is m k)) (sym z) ∙ last_at (key_is m k) (p - 1) (eq-eqb _ _ e)

    pub hit : key_at m (p - 1) ≡ k → number_at m (p - 1) ≡ table_of m k
    unfolding table_of
    hit e = sym (ap (value_at m) (newest e))

    -- one that has not leads to an older row of the bucket
    pub onward : key_at m (p - 1) ≢ k → On m (rows_in m) k (older_at m (p - 1)) × (older_at m (p - 1) < p)
    onward e =
        let z : suc (p - 1) ≡ p = omega arith in
        let b = o.below in
        let l : older_at m (p - 1) ≡ last (in_bucket m (bucket_of k)) (p - 1) = t.links (p - 1) (omega arith) ∙ rw (o.near pos) in
        let s : row_of m (rows_in m) k ≡ row_of m (p - 1) k = o.same ∙ ap (last (key_is m k)) (sym z) ∙ last_not (key_is m k) (p - 1) (ne_eqb _ _ e) in
        let w = on_less m k (rows_in m) (p - 1) _ (omega arith) s (on_last m k (p - 1)) in
        (rw l w, rw l (omega (arith, last_le (in_bucket m (bucket_of k)) (p - 1))))

  -- the chain's end: no row has the key
  pub missed : {p : ℕ} → On m (rows_in m) k p → p ≤ 0 → 0 ≡ table_of m k
  unfolding last table_of
  missed {p} o h =
      let z : p ≡ 0 = omega arith in
      sym (ap (value_at m) (o.same ∙ ap (last (key_is m k)) z))

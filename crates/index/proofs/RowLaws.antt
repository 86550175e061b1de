-- A table that grows by a row is a table again, and another map at that key alone: the new row is the newest of its key and of its bucket, and every older
-- row stands as it stood. The five words written are apart, so each part of the layout is read off the words by one law.
-- Assumes nothing.
use mathlib.Core.Path.{◌≡◌, refl, sym, ap, ◌∙◌}
use mathlib.Core.List.{List}
use mathlib.Core.Logic.{◌⊎◌, inl, inr, ◌≢◌}
use mathlib.Core.Bool.{Bool, true, false, cond}
use Prim.Native.Nat.{ℕ, zero, suc, ◌+◌, ◌≤◌, ◌<◌}
use native.Mathlib.Numerals.{add-one}
use native.Mathlib.Omega.{arith}
use lib.ListN.{length, get_or, set, length-set, replicate, length-replicate, get_or-replicate}
use lib.Seq.{get_or-set_same, get_or-set_other}
use lib.Dec.{eqb}
use borrow.Author.Tests.{eqb-true, eqb-false, eq-eqb, ne_eqb}
use Rattle.index.specs.Index.{buckets, bucket_of, rows_in, newest_in, row_at, key_at, older_at, number_at}
use Rattle.index.specs.Index.{last, key_is, row_of, value_at, table_of, in_bucket, Table, Room, Pushed}
use Rattle.index.proofs.LastLaws.{last_le, last_at, last_not, last_same}

-- a number below n + 1 is below n, or n
split : (i n : ℕ) → i < n + 1 → (i < n) ⊎ (i ≡ n)
split i n h = go (eqb i n) refl
  where
    go : (b : Bool) → eqb i n ≡ b → (i < n) ⊎ (i ≡ n)
    go true e = inr (eqb-true i n e)
    go false e = let f = eqb-false i n e in inl (omega arith)

-- ---- the words after a push

-- the words after a push: a row's three, then the bucket's newest row and the number of rows
abbrev keyed : List ℕ → ℕ → ℕ → List ℕ
keyed m at k = set m at k

abbrev linked : (m : List ℕ) (at k older : ℕ) → List ℕ
linked m at k older = set (keyed m at k) (at + 1) older

abbrev valued : (m : List ℕ) (at k older v : ℕ) → List ℕ
valued m at k older v = set (linked m at k older) (at + 2) v

abbrev headed : (m : List ℕ) (at head k older v n : ℕ) → List ℕ
headed m at head k older v n = set (valued m at k older v) head n

abbrev pub pushed_at : (m : List ℕ) (at head k older v n : ℕ) → List ℕ
pushed_at m at head k older v n = set (headed m at head k older v n) 0 n

module _ (m : List ℕ) (at head k older v n : ℕ) where
  abbrev words : List ℕ
  words = pushed_at m at head k older v n

  pub pushed_length : length words ≡ length m
  pushed_length = simp length-set

  -- a word past the two counts
  past_counts : (j : ℕ) → j ≢ 0 → j ≢ head → get_or words j 0 ≡ get_or (valued m at k older v) j 0
  past_counts j a b = get_or-set_other (headed m at head k older v n) 0 j n 0 a ∙ get_or-set_other (valued m at k older v) head j n 0 b

  -- a word that is none of the five
  elsewhere : (j : ℕ) → j ≢ 0 → j ≢ head → j ≢ at → j ≢ at + 1 → j ≢ at + 2 → get_or words j 0 ≡ get_or m j 0
  elsewhere j a b c d e =
      past_counts j a b
      ∙ get_or-set_other (linked m at k older) (at + 2) j v 0 e
      ∙ get_or-set_other (keyed m at k) (at + 1) j older 0 d
      ∙ get_or-set_other m at j k 0 c

  -- each of the five
  module _ (room : at + 2 < length m) (low : head < at) (pos : 0 < head) where
    word_rows : get_or words 0 0 ≡ n
    word_rows = get_or-set_same (headed m at head k older v n) 0 n 0 (simp length-set (omega arith))

    word_head : get_or words head 0 ≡ n
    word_head =
        get_or-set_other (headed m at head k older v n) 0 head n 0 (λ e. omega arith)
        ∙ get_or-set_same (valued m at k older v) head n 0 (simp length-set (omega arith))

    word_key : get_or words at 0 ≡ k
    word_key =
        past_counts at (λ e. omega arith) (λ e. omega arith)
        ∙ get_or-set_other (linked m at k older) (at + 2) at v 0 (λ e. omega arith)
        ∙ get_or-set_other (keyed m at k) (at + 1) at older 0 (λ e. omega arith)
        ∙ get_or-set_same m at k 0 (omega arith)

    word_older : get_or words (at + 1) 0 ≡ older
    word_older =
        past_counts (at + 1) (λ e. omega arith) (λ e. omega arith)
        ∙ get_or-set_other (linked m at k older) (at + 2) (at + 1) v 0 (λ e. omega arith)
        ∙ get_or-set_same (keyed m at k) (at + 1) older 0 (simp length-set (omega arith))

    word_number : get_or words (at + 2) 0 ≡ v
    word_number =
        past_counts (at + 2) (λ e. omega arith) (λ e. omega arith)
        ∙ get_or-set_same (linked m at k older) (at + 2) v 0 (simp length-set (omega arith))

-- ---- each part of the layout, after a push of k and v

abbrev pub after : List ℕ → ℕ → ℕ → List ℕ
after m k v = pushed_at m (row_at (rows_in m)) (bucket_of k + 1) k (newest_in m (bucket_of k)) v (rows_in m + 1)

after-length : (m : List ℕ) (k v : ℕ) → length (after m k v) ≡ length m
after-length m k v = pushed_length m (row_at (rows_in m)) (bucket_of k + 1) k (newest_in m (bucket_of k)) v (rows_in m + 1)

after_elsewhere : (m : List ℕ) (k v j : ℕ) → j ≢ 0 → j ≢ bucket_of k + 1 → j ≢ row_at (rows_in m) → j ≢ row_at (rows_in m) + 1 → j ≢ row_at (rows_in m) + 2
    → get_or (after m k v) j 0 ≡ get_or m j 0
after_elsewhere m k v j = elsewhere m (row_at (rows_in m)) (bucket_of k + 1) k (newest_in m (bucket_of k)) v (rows_in m + 1) j

module _ (m : List ℕ) (k v : ℕ) (room : row_at (rows_in m + 1) ≤ length m) (small : bucket_of k < buckets) where
  abbrev at : ℕ
  at = row_at (rows_in m)

  abbrev head : ℕ
  head = bucket_of k + 1

  rows-after : rows_in (after m k v) ≡ rows_in m + 1
  rows-after = word_rows m at head k (newest_in m (bucket_of k)) v (rows_in m + 1) (omega arith) (omega arith) (omega arith)

  newest_own : newest_in (after m k v) (bucket_of k) ≡ rows_in m + 1
  newest_own = word_head m at head k (newest_in m (bucket_of k)) v (rows_in m + 1) (omega arith) (omega arith) (omega arith)

  newest_other : (h : ℕ) → h < buckets → h ≢ bucket_of k → newest_in (after m k v) h ≡ newest_in m h
  newest_other h l q =
      after_elsewhere m k v (h + 1) (λ e. omega arith) (λ e. q (omega arith)) (λ e. omega arith) (λ e. omega arith) (λ e. omega arith)

  -- the words of an older row
  row_same : (i j : ℕ) → i < rows_in m → j < 3 → get_or (after m k v) (row_at i + j) 0 ≡ get_or m (row_at i + j) 0
  row_same i j l w =
      after_elsewhere m k v (row_at i + j) (λ e. omega arith) (λ e. omega arith) (λ e. omega arith) (λ e. omega arith) (λ e. omega arith)

  key_same : (i : ℕ) → i < rows_in m → key_at (after m k v) i ≡ key_at m i
  key_same i l = after_elsewhere m k v (row_at i) (λ e. omega arith) (λ e. omega arith) (λ e. omega arith) (λ e. omega arith) (λ e. omega arith)

  -- those of the new one
  key_new : key_at (after m k v) (rows_in m) ≡ k
  key_new = word_key m at head k (newest_in m (bucket_of k)) v (rows_in m + 1) (omega arith) (omega arith) (omega arith)

  older_new : older_at (after m k v) (rows_in m) ≡ newest_in m (bucket_of k)
  older_new = word_older m at head k (newest_in m (bucket_of k)) v (rows_in m + 1) (omega arith) (omega arith) (omega arith)

  number_new : number_at (after m k v) (rows_in m) ≡ v
  number_new = word_number m at head k (newest_in m (bucket_of k)) v (rows_in m + 1) (omega arith) (omega arith) (omega arith)

  -- ---- the chains

  bucket_same : (h n : ℕ) → n ≤ rows_in m → last (in_bucket (after m k v) h) n ≡ last (in_bucket m h) n
  bucket_same h n l = last_same _ _ n (λ i j. ap (λ (x : ℕ). eqb (bucket_of x) h) (key_same i (omega arith)))

  found_same : (h n : ℕ) → n ≤ rows_in m → row_of (after m k v) n h ≡ row_of m n h
  found_same h n l = last_same _ _ n (λ i j. ap (λ (x : ℕ). eqb x h) (key_same i (omega arith)))

  module _ (t : Table m) where
    links_after : (i : ℕ) → (i < rows_in m) ⊎ (i ≡ rows_in m) → older_at (after m k v) i ≡ last (in_bucket (after m k v) (bucket_of (key_at (after m k v) i))) i
    links_after i (inl l) =
        row_same i 1 l (omega arith)
        ∙ t.links i l
        ∙ sym (bucket_same (bucket_of (key_at m i)) i (omega arith))
        ∙ ap (λ (x : ℕ). last (in_bucket (after m k v) (bucket_of x)) i) (sym (key_same i l))
    links_after i (inr e) =
        ap (older_at (after m k v)) e
        ∙ older_new
        ∙ t.heads (bucket_of k) small
        ∙ sym (bucket_same (bucket_of k) (rows_in m) (omega arith))
        ∙ ap (λ (x : ℕ). last (in_bucket (after m k v) (bucket_of x)) (rows_in m)) (sym key_new)
        ∙ ap (λ (j : ℕ). last (in_bucket (after m k v) (bucket_of (key_at (after m k v) j))) j) (sym e)

    heads_after : (h : ℕ) → h < buckets → (b : Bool) → eqb h (bucket_of k) ≡ b → newest_in (after m k v) h ≡ last (in_bucket (after m k v) h) (suc (rows_in m))
    heads_after h l true e =
        let q : h ≡ bucket_of k = eqb-true _ _ e in
        ap (newest_in (after m k v)) q
        ∙ newest_own
        ∙ add-one (rows_in m)
        ∙ sym (last_at (in_bucket (after m k v) h) (rows_in m) (eq-eqb _ _ (ap bucket_of key_new ∙ sym q)))
    heads_after h l false e =
        let q = eqb-false _ _ e in
        newest_other h l q
        ∙ t.heads h l
        ∙ sym (bucket_same h (rows_in m) (omega arith))
        ∙ sym (last_not (in_bucket (after m k v) h) (rows_in m) (ne_eqb _ _ (λ f. q (sym f ∙ ap bucket_of key_new))))

    table_after : Table (after m k v)
    table_after = record {
      used = omega (arith, rows-after, after-length m k v);
      links = λ i l. links_after i (split i (rows_in m) (omega (arith, rows-after)));
      heads = λ h l. heads_after h l (eqb h (bucket_of k)) refl ∙ ap (last (in_bucket (after m k v) h)) (sym (rows-after ∙ add-one (rows_in m)));
    }

  -- ---- the map

  look : (h : ℕ) (b : Bool) → eqb h k ≡ b → value_at (after m k v) (row_of (after m k v) (suc (rows_in m)) h) ≡ cond b v (value_at m (row_of m (rows_in m) h))
  look h true e =
      ap (value_at (after m k v)) (last_at (key_is (after m k v) h) (rows_in m) (eq-eqb _ _ (key_new ∙ sym (eqb-true _ _ e)))) ∙ number_new
  look h false e =
      ap (value_at (after m k v))
      (last_not (key_is (after m k v) h) (rows_in m) (ne_eqb _ _ (λ f. eqb-false _ _ e (sym f ∙ key_new))) ∙ found_same h (rows_in m) (omega arith))
      ∙ old (row_of m (rows_in m) h) (last_le _ (rows_in m))
    where
      old : (p : ℕ) → p ≤ rows_in m → value_at (after m k v) p ≡ value_at m p
      old zero l = refl
      old (suc p) l = row_same p 2 (omega arith) (omega arith)

  look_after : (h : ℕ) → table_of (after m k v) h ≡ cond (eqb h k) v (table_of m h)
  unfolding table_of
  look_after h = ap (λ (n : ℕ). value_at (after m k v) (row_of (after m k v) n h)) (rows-after ∙ add-one (rows_in m)) ∙ look h (eqb h k) refl

-- what `push` leaves
pub pushed : (m : List ℕ) (k v : ℕ) → Table m → Room 1 m → bucket_of k < buckets → Pushed m k v (after m k v)
unfolding Room
pushed m k v t room small =
    let l = after-length m k v in
    let r = rows-after m k v room small in
    record {
      table = table_after m k v room small t;
      size = l;
      room = λ n h. omega (arith, l, r);
      is = look_after m k v room small;
    }

-- ---- room

-- where there is room for more rows, there is for fewer
pub room_fewer : (m : List ℕ) (n l : ℕ) → n ≤ l → Room l m → Room n m
unfolding Room
room_fewer m n l h r = omega arith

-- ---- no rows

-- a slice of zeros is a table without rows, with room for as many as its length says
pub empty_table : (n : ℕ) → row_at 0 ≤ n → Table (replicate n 0)
unfolding last
empty_table n h =
    let z : rows_in (replicate n 0) ≡ 0 = get_or-replicate {A = ℕ} n 0 0 0 (omega arith) in
    record {
      used = omega (arith, z, length-replicate {A = ℕ} n 0);
      links = λ i l. absurd (omega arith);
      heads = λ b l. get_or-replicate {A = ℕ} n (b + 1) 0 0 (omega arith) ∙ ap (last (in_bucket (replicate n 0) b)) (sym z);
    }

pub empty_room : (n l : ℕ) → row_at n ≤ l → Room n (replicate l 0)
unfolding Room
empty_room n l h =
    let z : rows_in (replicate l 0) ≡ 0 = get_or-replicate {A = ℕ} l 0 0 0 (omega arith) in
    omega (arith, z, length-replicate {A = ℕ} l 0)

pub look_empty : (n k : ℕ) → row_at 0 ≤ n → table_of (replicate n 0) k ≡ 0
unfolding table_of last
look_empty n k h =
    let z : rows_in (replicate n 0) ≡ 0 = get_or-replicate {A = ℕ} n 0 0 0 (omega arith) in
    ap (λ (r : ℕ). value_at (replicate n 0) (row_of (replicate n 0) r k)) z

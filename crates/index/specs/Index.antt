-- A map from key to number in the words of one slice: what it is as a function, where its parts stand, and the chains that let a program ask it quickly.
-- Assumes nothing.
use Rattle.std.specs.Prelude.{◌≡◌, List, Bool, cond, ℕ, zero, suc, ◌+◌, ◌*◌, ◌≤◌, ◌<◌, ◌%◌, length, get_or, eqb}

-- ---- the layout

-- how many buckets there are, and which is a key's
abbrev pub buckets : ℕ
buckets = 8191

abbrev pub bucket_of : ℕ → ℕ
bucket_of k = k % buckets

-- how many rows there are: word 0
abbrev pub rows_in : List ℕ → ℕ
rows_in m = get_or m 0 0

-- the newest row of the bucket h, told by one more than its place, or 0: the words after it
abbrev pub newest_in : List ℕ → ℕ → ℕ
newest_in m h = get_or m (h + 1) 0

-- where row i stands
abbrev pub row_at : ℕ → ℕ
row_at i = buckets + 1 + 3 * i

-- how many rows the map of a log is to have room for, as each field of a log has at least 7 of its 65,536 bytes; and how many words it then has
abbrev pub max_rows : ℕ
max_rows = 9362

abbrev pub words : ℕ
words = row_at max_rows

-- a row's key, the row before it in its bucket, and its number
abbrev pub key_at : List ℕ → ℕ → ℕ
key_at m i = get_or m (row_at i) 0

abbrev pub older_at : List ℕ → ℕ → ℕ
older_at m i = get_or m (row_at i + 1) 0

abbrev pub number_at : List ℕ → ℕ → ℕ
number_at m i = get_or m (row_at i + 2) 0

-- ---- the map as a function

-- one more than the last place below n that passes, or 0
unfoldable pub last : (ℕ → Bool) → ℕ → ℕ
last p zero = 0
last p (suc n) = cond (p n) (suc n) (last p n)

-- row i has the key k
abbrev pub key_is : List ℕ → ℕ → ℕ → Bool
key_is m k i = eqb (key_at m i) k

-- one more than the newest of the first n rows that has the key k, or 0
abbrev pub row_of : List ℕ → ℕ → ℕ → ℕ
row_of m n k = last (key_is m k) n

-- the number in row p - 1; 0 for no row
abbrev pub value_at : List ℕ → ℕ → ℕ
value_at m zero = 0
value_at m (suc i) = number_at m i

-- the number of each key, 0 where it has none
unfoldable pub table_of : List ℕ → ℕ → ℕ
table_of m k = value_at m (row_of m (rows_in m) k)

-- ---- the chains

-- the key of row i is in the bucket h
abbrev pub in_bucket : List ℕ → ℕ → ℕ → Bool
in_bucket m h i = eqb (bucket_of (key_at m i)) h

-- each row knows the row before it in its bucket, and each bucket its newest row
pub record Table (m : List ℕ) : Type 0 where
  pub used : row_at (rows_in m) ≤ length m
  pub links : (i : ℕ) → i < rows_in m → older_at m i ≡ last (in_bucket m (bucket_of (key_at m i))) i
  pub heads : (h : ℕ) → h < buckets → newest_in m h ≡ last (in_bucket m h) (rows_in m)

-- there is room for n rows more
unfoldable pub Room : ℕ → List ℕ → Type 0
Room n m = row_at (rows_in m + n) ≤ length m

-- after v was pushed at k: a table again, of the same length and with room for a row less, which is another map at k alone
pub record Pushed (m : List ℕ) (k v : ℕ) (m' : List ℕ) : Type 0 where
  pub table : Table m'
  pub size : length m' ≡ length m
  pub room : (n : ℕ) → Room (n + 1) m → Room n m'
  pub is : (h : ℕ) → table_of m' h ≡ cond (eqb h k) v (table_of m h)

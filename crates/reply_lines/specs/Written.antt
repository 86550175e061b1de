-- What writing into a buffer answers and leaves: the place after the new bytes, and every other byte as it was.
-- Assumes nothing.
use Rattle.std.specs.Prelude.{ℕ, ◌+◌, ◌≤◌, ◌≡◌, List, length, take}
use Rattle.log_format.specs.Bytes.{splice}

-- the bytes e were written into b from a place on: r is the place after them, b' the buffer then
pub record Put (b : List ℕ) (at : ℕ) (e : List ℕ) (r : ℕ) (b' : List ℕ) : Type 0 where
  pub next : r ≡ at + length e
  pub bytes : b' ≡ splice b at e

-- a line was written at the front of b: n is its length, b' the buffer then; n bytes can be lent from b'
pub record Written (b line : List ℕ) (n : ℕ) (b' : List ℕ) : Type 0 where
  pub count : n ≡ length line
  pub bytes : b' ≡ splice b 0 line
  pub within : n ≤ length b'
  pub counted : n ≡ length (take n b')

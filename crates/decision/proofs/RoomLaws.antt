-- A record fits the room that is left exactly where it fits after the bytes used.
-- Assumes nothing.
use Prim.Native.Nat.{ℕ, ◌+◌, ◌-◌, ◌≤◌, ◌<◌}
use native.Mathlib.Omega.{arith}
use mathlib.Core.Path.{◌≡◌}
use mathlib.Core.Bool.{false}
use lib.Dec.{ltb}
use borrow.Author.Tests.{le-ltb}
use Rattle.decision.specs.declared.Due.{Due}
use Rattle.decision.specs.declared.Due.TheVariants.{Begin, Read, Write, Commit, Abort}
use Rattle.decision.specs.Plans.{bytes_of}

some_bytes : (d : Due) → 0 < bytes_of d
some_bytes Begin = omega arith
some_bytes (Read at) = omega arith
some_bytes (Write at) = omega arith
some_bytes Commit = omega arith
some_bytes (Abort c) = omega arith

pub enough_for : (room used : ℕ) (d : Due) → bytes_of d ≤ room - used → ltb room (used + bytes_of d) ≡ false
enough_for room used d h = le-ltb room (used + bytes_of d) (omega (arith, some_bytes d))

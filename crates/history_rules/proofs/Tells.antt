-- What a test says: one fact where it is true, another where it is false. Tests that are joined say what their parts say.
-- Assumes nothing.
use Prim.Native.Nat.{ℕ, ◌≤◌, ◌<◌}
use mathlib.Core.Path.{◌≡◌, refl}
use mathlib.Core.Logic.{◌⊎◌, inl, inr, ◌≢◌}
use mathlib.Core.Bool.{Bool, true, false, true≢false, false≢true, cond, not, ◌&&◌, ◌||◌}
use lib.Dec.{ltb, eqb}
use borrow.Author.Tests.{ltb-true, ltb-false, eqb-true, eqb-false}
use Rattle.history_rules.specs.Faults.{differ}

-- Y where b is true, N where it is false
pub data Tells (Y N : Type 0) : Bool → Type 0 where
  holds : Y → Tells Y N true
  fails : N → Tells Y N false

-- by cases on what a test says
pub tell : {Y N C : Type 0} {b : Bool} (Q : C → Type 0) {c d : C} → Tells Y N b → (Y → Q c) → (N → Q d) → Q (cond b c d)
tell Q (holds y) f g = f y
tell Q (fails n) f g = g n

-- either way
pub by_test : {Y N C : Type 0} {b : Bool} → Tells Y N b → (Y → C) → (N → C) → C
by_test (holds y) f g = f y
by_test (fails n) f g = g n

-- what the test's answer says, and what says the answer
pub of_true : {Y N : Type 0} {b : Bool} → Tells Y N b → b ≡ true → Y
of_true (holds y) e = y
of_true (fails n) e = absurd (false≢true e)

pub of_false : {Y N : Type 0} {b : Bool} → Tells Y N b → b ≡ false → N
of_false (holds y) e = absurd (true≢false e)
of_false (fails n) e = n

pub is_true : {Y : Type 0} {b : Bool} → Tells Y (¬ Y) b → Y → b ≡ true
is_true (holds y) h = refl
is_true (fails n) h = absurd (n h)

pub is_false : {Y : Type 0} {b : Bool} → Tells Y (¬ Y) b → ¬ Y → b ≡ false
is_false (holds y) h = absurd (h y)
is_false (fails n) h = refl

pub said : {Y N Y' N' : Type 0} {b : Bool} → (Y → Y') → (N → N') → Tells Y N b → Tells Y' N' b
said f g (holds y) = holds (f y)
said f g (fails n) = fails (g n)

pub says_or : {Y N Y' N' : Type 0} {a b : Bool} → Tells Y N a → Tells Y' N' b → Tells (Y ⊎ Y') (N × N') (a || b)
says_or (holds y) t = holds (inl y)
says_or (fails n) (holds y) = holds (inr y)
says_or (fails n) (fails m) = fails (n, m)

pub says_and : {Y N Y' N' : Type 0} {a b : Bool} → Tells Y N a → Tells Y' N' b → Tells (Y × Y') (N ⊎ N') (a && b)
says_and (holds y) (holds z) = holds (y, z)
says_and (holds y) (fails n) = fails (inr n)
says_and (fails n) t = fails (inl n)

pub says_not : {Y N : Type 0} {b : Bool} → Tells Y N b → Tells N Y (not b)
says_not (holds y) = fails y
says_not (fails n) = holds n

pub says_if : {Y N Y' N' Y'' N'' : Type 0} {a b c : Bool} → Tells Y N a → Tells Y' N' b → Tells Y'' N'' c
    → Tells ((Y × Y') ⊎ (N × Y'')) ((Y × N') ⊎ (N × N'')) (cond a b c)
says_if (holds y) (holds z) t = holds (inl (y, z))
says_if (holds y) (fails n) t = fails (inl (y, n))
says_if (fails n) s (holds z) = holds (inr (n, z))
says_if (fails n) s (fails m) = fails (inr (n, m))

pub says_eq : (a b : ℕ) → Tells (a ≡ b) (a ≢ b) (eqb a b)
says_eq a b = go (eqb a b) refl
  where
    go : (t : Bool) → eqb a b ≡ t → Tells (a ≡ b) (a ≢ b) t
    go true e = holds (eqb-true a b e)
    go false e = fails (eqb-false a b e)

pub says_differ : (a b : ℕ) → Tells (a ≢ b) (a ≡ b) (differ a b)
says_differ a b = says_not (says_eq a b)

pub says_lt : (a b : ℕ) → Tells (a < b) (b ≤ a) (ltb a b)
says_lt a b = go (ltb a b) refl
  where
    go : (t : Bool) → ltb a b ≡ t → Tells (a < b) (b ≤ a) t
    go true e = holds (ltb-true a b e)
    go false e = fails (ltb-false a b e)

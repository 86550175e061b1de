-- How to go by cases on a decision, whatever the statement; which side it takes where the test's fact is known.
-- Assumes nothing.
use mathlib.Core.Path.{◌≡◌, refl}
use mathlib.Core.Logic.{ite}
use mathlib.Core.Bool.{Bool, true, false, cond}
use Rattle.lists.specs.Choice.{pick}

-- by cases on the library's if-then-else
pub ite_by : {P C : Type 0} (Q : C → Type 0) (d : Dec P) {a b : C} → (P → Q a) → (¬ P → Q b) → Q (ite d a b)
ite_by Q (yes p) f g = f p
ite_by Q (no n) f g = g n

pub pick_by : {P C : Type 0} (Q : C → Type 0) (d : Dec P) {a b : C} → (P → Q a) → (¬ P → Q b) → Q (pick d a b)
unfolding pick
pick_by Q (yes p) f g = f p
pick_by Q (no n) f g = g n

pub pick_yes : {P C : Type 0} (d : Dec P) (a b : C) → P → pick d a b ≡ a
unfolding pick
pick_yes (yes p) a b h = refl
pick_yes (no n) a b h = absurd (n h)

pub pick_no : {P C : Type 0} (d : Dec P) (a b : C) → ¬ P → pick d a b ≡ b
unfolding pick
pick_no (yes p) a b h = absurd (h p)
pick_no (no n) a b h = refl

-- a fact that can be tested and cannot fail, holds
pub not_not : {P : Type 0} → Dec P → ¬ (¬ P) → P
not_not (yes p) h = p
not_not (no n) h = absurd (h n)

-- by cases on a computed test
pub cond_by : {A : Type 0} (Q : A → Type 0) (b : Bool) {x y : A} → (b ≡ true → Q x) → (b ≡ false → Q y) → Q (cond b x y)
cond_by Q true f g = f refl
cond_by Q false f g = g refl

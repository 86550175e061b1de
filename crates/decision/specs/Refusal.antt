-- The page's codes of refusals, and the replies that tell them.
-- Assumes nothing.
use Rattle.std.specs.Prelude.{ℕ}
use Rattle.scheduler_rules.specs.declared.Reply.{Reply}
use Rattle.decision.specs.declared.Refusal.{Refusal}
use Rattle.decision.specs.declared.Refusal.TheVariants.{Damaged, Malformed, NotAbove, TooManyOpen, NotOpen, Waits, Written, TooManyVersions, NoRoom}

-- the code
abbrev pub code_of : Refusal → ℕ
code_of Damaged = 1
code_of Malformed = 2
code_of NotAbove = 3
code_of TooManyOpen = 4
code_of NotOpen = 5
code_of (Waits j) = 6
code_of Written = 7
code_of TooManyVersions = 9
code_of NoRoom = 10

-- whom a read waits for; the others tell no stamp
abbrev pub told_by : Refusal → ℕ
told_by (Waits j) = j.0
told_by Damaged = 0
told_by Malformed = 0
told_by NotAbove = 0
told_by TooManyOpen = 0
told_by NotOpen = 0
told_by Written = 0
told_by TooManyVersions = 0
told_by NoRoom = 0

abbrev pub reply_of : Refusal → Reply
reply_of e = record { code = code_of e; stamp = record { 0 = told_by e }; value = 0 }

-- The log of events whose items and causes are bytes is bytes: a number's four are remainders, and tags and lengths are small. Events that the scheduler's
-- rules allow are such, for an item is at most 63 and a cause at most 1.
-- Assumes nothing.
use Prim.Native.Nat.{ℕ, zero, suc, ◌<◌}
use native.Mathlib.Omega.{arith}
use borrow.Author.Rules.{rules}
use mathlib.Core.Path.{refl, subst, sym}
use mathlib.Core.List.Memᴰ
use mathlib.Core.List.{List, [], ◌∷◌, ◌++◌, map, reverse}
use Rattle.lists.specs.Member.{◌∈◌}
use Rattle.lists.proofs.OrderLaws.{in_nil}
use Rattle.log_format.specs.Bytes.{Bytes}
use Rattle.log_format.specs.Fields.{encode}
use Rattle.log_format.specs.Whole.{header, write_all, log_of}
use Rattle.log_format.specs.Events.{Event, begins, reads, writes, commits, aborts, record_of}
use Rattle.scheduler_rules.specs.Lawful.{May, Lawful}
use Rattle.scheduler_laws.specs.Reach.{oldest_first}
use Rattle.history_rules.proofs.OrderLaws.{of_reverse}

-- every element is a byte, said of one after the other
abbrev pub Small : List ℕ → Type 0
Small [] = Unit {0}
Small (a ∷ s) = (a < 256) × Small s

pub small_bytes : (s : List ℕ) → Small s → Bytes s
small_bytes [] b i = omega arith
small_bytes (a ∷ s) b zero = b.0
small_bytes (a ∷ s) b (suc i) = small_bytes s b.1 i

joined : (a s : List ℕ) → Small a → Small s → Small (a ++ s)
joined [] s p q = q
joined (x ∷ a) s p q = (p.0, joined a s p.1 q)

-- an event's item and cause are bytes
abbrev pub Narrow : Event → Type 0
Narrow (begins k) = Unit {0}
Narrow (reads k x j v) = x < 256
Narrow (writes k x v) = x < 256
Narrow (commits k) = Unit {0}
Narrow (aborts k c) = c < 256

one : (e : Event) → Narrow e → Small (encode (record_of e))
one (begins k) n = search rules
one (reads k x j v) n = search rules
one (writes k x v) n = search rules
one (commits k) n = search rules
one (aborts k c) n = search rules

all : (log : List Event) → ((e : Event) → e ∈ log → Narrow e) → Small (write_all (map record_of log))
all [] n = tt
all (e ∷ log) n = joined (encode (record_of e)) (write_all (map record_of log)) (one e (n e (Memᴰ.head refl))) (all log (λ f m. n f (Memᴰ.tail m)))

pub events-bytes : (log : List Event) → ((e : Event) → e ∈ log → Narrow e) → Bytes (log_of (map record_of log))
events-bytes log n = small_bytes (log_of (map record_of log)) (joined header (write_all (map record_of log)) (search rules) (all log n))

-- ---- events that the rules allow

newest : (e : Event) (es : List Event) → May e es → Narrow e
newest (begins k) es m = tt
newest (reads k x j v) es m = omega (arith, m.1)
newest (writes k x v) es m = omega (arith, m.1)
newest (commits k) es m = tt
newest (aborts k c) es m = omega (arith, m.1)

narrow : (es : List Event) → Lawful es → (e : Event) → e ∈ es → Narrow e
narrow [] l e m = in_nil m
narrow (f ∷ es) l e (Memᴰ.head q) = subst Narrow (sym q) (newest f es l.0)
narrow (f ∷ es) l e (Memᴰ.tail m) = narrow es l.1 e m

pub lawful_bytes : (es : List Event) → Lawful es → Bytes (log_of (oldest_first es))
lawful_bytes es l = events-bytes (reverse es) (λ e m. narrow es l e (of_reverse es m))

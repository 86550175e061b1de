-- Events that were allowed, of stamps that fit four bytes, are told by records that can be written and read back: a version read has a
-- stamp not above its reader's, and a value is 0 or was written, so it fits; a cause is 0 or 1.
-- Assumes nothing.
use Prim.Native.Nat.{ℕ, ◌≤◌, ◌<◌, ◌^◌}
use native.Mathlib.Omega.{arith}
use mathlib.Core.Path.{◌≡◌, refl}
use mathlib.Core.Bool.{true}
use mathlib.Core.List.{List, [], ◌∷◌, ◌++◌}
use mathlib.Core.Logic.{inl, inr}
use borrow.Author.Tests.{le-leb}
use Rattle.log_format.specs.Fields.{Fits, cause_ok}
use Rattle.log_format.specs.Whole.{Good}
use Rattle.log_format.specs.Events.{Event, begins, reads, writes, commits, aborts, record_of}
use Rattle.log_format.specs.Told.{Begun, Put}
use Rattle.log_format.specs.declared.Record.{Record}
use Rattle.scheduler_rules.specs.Lawful.{Saw, May, Lawful}
use Rattle.scheduler_laws.specs.Reach.{oldest_first}
use Rattle.scheduler_laws.proofs.WrittenLaws.{oldest_more}

-- a value written fits four bytes
put-fits : (k x v : ℕ) (es : List Event) → Lawful es → Put k x v es → v ≤ 4294967295
put-fits k x v [] l p = absurd p
put-fits k x v (begins i ∷ es) l p = put-fits k x v es l.1 p
put-fits k x v (reads i y j w ∷ es) l p = put-fits k x v es l.1 p
put-fits k x v (writes i y w ∷ es) l (inl e) = rw e.2 l.0.2
put-fits k x v (writes i y w ∷ es) l (inr p) = put-fits k x v es l.1 p
put-fits k x v (commits i ∷ es) l p = put-fits k x v es l.1 p
put-fits k x v (aborts i c ∷ es) l p = put-fits k x v es l.1 p

-- so do the version and the value that were read
saw_fits : (k x j v : ℕ) (es : List Event) → Lawful es → Saw k x j v es → k < 2 ^ 32 → (j < 2 ^ 32) × (v < 2 ^ 32)
saw_fits k x j v es l (inl (e, p)) h = (omega arith, omega (arith, put-fits k x v es l p))
saw_fits k x j v es l (inr (a, n, inl (e, z))) h = (omega arith, omega arith)
saw_fits k x j v es l (inr (a, n, inr (d, p))) h = (omega arith, omega (arith, put-fits j x v es l p))

-- the newest event's record can be written
newest_fits : (e : Event) (es : List Event) → May e es → Lawful es → ((k : ℕ) → Begun k (e ∷ es) → k < 2 ^ 32) → Fits (record_of e) × (cause_ok (record_of e) ≡ true)
unfolding Fits
newest_fits (begins k) es m l h = (h k (inl refl), refl)
newest_fits (reads k x j v) es m l h = let a = h k m.0.0 in let s = saw_fits k x j v es l m.2 a in ((a, s.0, s.1), refl)
newest_fits (writes k x v) es m l h = ((h k m.0.0, omega (arith, m.2)), refl)
newest_fits (commits k) es m l h = (h k m.0, refl)
newest_fits (aborts k c) es m l h = (h k m.0.0, le-leb c 1 m.1)

-- whoever had begun before has begun
still : (e : Event) (es : List Event) (k : ℕ) → Begun k es → Begun k (e ∷ es)
still (begins i) es k b = inr b
still (reads i y j w) es k b = b
still (writes i y w) es k b = b
still (commits i) es k b = b
still (aborts i c) es k b = b

good_snoc : (rs : List Record) (r : Record) → Good rs → Fits r → cause_ok r ≡ true → Good (rs ++ r ∷ [])
unfolding Good
good_snoc [] r g f c = (f, c, tt)
good_snoc (x ∷ rs) r g f c = (g.0, g.1, good_snoc rs r g.2 f c)

pub lawful_good : (es : List Event) → Lawful es → ((k : ℕ) → Begun k es → k < 2 ^ 32) → Good (oldest_first es)
unfolding Good
lawful_good [] l h = tt
lawful_good (e ∷ es) l h =
    let n = newest_fits e es l.0 l.1 h in
    rw (oldest_more e es) (good_snoc (oldest_first es) (record_of e) (lawful_good es l.1 (λ k b. h k (still e es k b))) n.0 n.1)

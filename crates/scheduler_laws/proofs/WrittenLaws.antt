-- A buffer with the record of at most one event after the bytes used: the buffer keeps its length, no other byte changes, and the bytes then
-- used are the log of one event more. Each is the law of a splice, or nothing was written.
-- Assumes nothing.
use Prim.Native.Nat.{ℕ, ◌+◌, ◌≤◌, ◌<◌}
use native.Mathlib.Nat.{add-zero}
use native.Mathlib.Omega.{arith}
use mathlib.Core.Path.{◌≡◌, refl, ap, ◌∙◌}
use mathlib.Core.List.{List, [], ◌∷◌, ◌++◌, map, map-append, reverse, reverse-cons}
use mathlib.Core.Logic.{◌⊎◌, inl, inr}
use lib.ListN.{length, take, drop, get_or, length-append}
use lib.Seq.{length-take-le, drop_at}
use Rattle.log_format.specs.Bytes.{splice}
use Rattle.log_format.specs.Fields.{encode}
use Rattle.log_format.specs.Whole.{log_of}
use Rattle.log_format.specs.Events.{Event, record_of}
use Rattle.log_format.proofs.AppendLaws.{length-splice, splice_other, append_log}
use Rattle.scheduler_rules.specs.Sizes.{sizes}
use Rattle.scheduler.specs.Calls.{written}
use Rattle.scheduler_laws.specs.Reach.{oldest_first}

pub oldest_more : (e : Event) (es : List Event) → oldest_first (e ∷ es) ≡ oldest_first es ++ record_of e ∷ []
oldest_more e es = ap (map record_of) (reverse-cons e es) ∙ map-append record_of (reverse es) (e ∷ [])

-- the bytes past a splice are as they were
pub drop-splice : (b : List ℕ) (at : ℕ) (e : List ℕ) → at ≤ length b → drop (at + length e) (splice b at e) ≡ drop (at + length e) b
unfolding splice
drop-splice b at e h = drop_at (take at b ++ e) (drop (at + length e) b) (at + length e) (length-append (take at b) e ∙ ap (λ (n : ℕ). n + length e) (length-take-le at b h))

pub length-written : (b : List ℕ) (at : ℕ) (ds : List Event) → length ds ≤ 1 → at + sizes ds ≤ length b → length (written b at ds) ≡ length b
length-written b at [] one fits = refl
length-written b at (d ∷ []) one fits = length-splice b at (encode (record_of d)) (omega arith)
length-written b at (d ∷ e ∷ ds) one fits = absurd (omega arith)

pub written_other : (b : List ℕ) (at : ℕ) (ds : List Event) → length ds ≤ 1 → at + sizes ds ≤ length b
    → (i : ℕ) → (i < at) ⊎ (at + sizes ds ≤ i) → get_or (written b at ds) i 0 ≡ get_or b i 0
written_other b at [] one fits i o = refl
written_other b at (d ∷ []) one fits i o = splice_other b at (encode (record_of d)) (omega arith) i (elim o [ inl l ↦ inl l | inr g ↦ inr (omega arith) ])
written_other b at (d ∷ e ∷ ds) one fits i o = absurd (omega arith)

pub written_rest : (b : List ℕ) (at : ℕ) (ds : List Event) → length ds ≤ 1 → at + sizes ds ≤ length b → drop (at + sizes ds) (written b at ds) ≡ drop (at + sizes ds) b
written_rest b at [] one fits = refl
written_rest b at (d ∷ []) one fits = rw add-zero (drop-splice b at (encode (record_of d)) (omega arith))
written_rest b at (d ∷ e ∷ ds) one fits = absurd (omega arith)

pub written_log : (b : List ℕ) (at : ℕ) (ds es : List Event) → length ds ≤ 1 → at + sizes ds ≤ length b → take at b ≡ log_of (oldest_first es)
    → take (at + sizes ds) (written b at ds) ≡ log_of (oldest_first (ds ++ es))
written_log b at [] es one fits h = rw add-zero h
written_log b at (d ∷ []) es one fits h = rw (add-zero, oldest_more d es) (append_log b at (oldest_first es) (record_of d) (omega arith) h)
written_log b at (d ∷ e ∷ ds) es one fits h = absurd (omega arith)

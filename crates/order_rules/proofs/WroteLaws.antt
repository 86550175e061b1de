-- What writing an order leaves: on a refusal nothing is written; else the order stands in front, and no later byte is changed.
-- Assumes nothing.
use Prim.Native.Nat.{ℕ, ◌+◌, ◌≤◌, ◌<◌}
use native.Mathlib.Omega.{arith}
use mathlib.Core.Path.{◌≡◌, refl}
use mathlib.Core.Logic.{inr}
use mathlib.Core.List.{List}
use mathlib.Core.Bool.{Bool, true, false, cond}
use lib.Dec.{leb}
use lib.ListN.{length, take, drop, get_or}
use lib.Seq.{take-append_seam}
use borrow.Author.Tests.{leb-true, le-leb, lt-leb}
use Rattle.log_format.specs.Bytes.{splice}
use Rattle.log_format.proofs.AppendLaws.{length-splice, splice_other}
use Rattle.order_rules.specs.Timestamps.{Wrote}
use Rattle.order_rules.specs.declared.NoRoom.{NoRoom}
use Rattle.std.specs.Prelude.{Result, Ok, Err}

module _ (b e : List ℕ) where
  -- a buffer too short
  pub no_room : length b < length e → Wrote b e (Err (record {})) b
  no_room h = record { answer = simp (lt-leb _ _ h); bytes = simp (lt-leb _ _ h) }

  -- room enough
  pub room : length e ≤ length b → Wrote b e (Ok (length e)) (splice b 0 e)
  room h = record { answer = simp (le-leb _ _ h); bytes = simp (le-leb _ _ h) }

  module _ (b' : List ℕ) where
    -- code 29 writes nothing
    pub refused_same : Wrote b e (Err (record {})) b' → b' ≡ b
    refused_same w = go (leb (length e) (length b)) w.answer w.bytes
      where
        go : (c : Bool) → ◌≡◌ {A = Result ℕ NoRoom} (Err (record {})) (cond c (Ok (length e)) (Err (record {}))) → b' ≡ cond c (splice b 0 e) b → b' ≡ b
        go true p q = let z : ◌≡◌ {A = ℕ} 0 1 = cc in absurd (omega arith)
        go false p q = q

    -- code 0: the number is the order's length, the order is written in front, and every later byte is as it was
    pub written_front : (n : ℕ) → Wrote b e (Ok n) b'
        → (n ≡ length e) × (n ≤ length b) × (take n b' ≡ e) × (length b' ≡ length b) × ((i : ℕ) → n ≤ i → get_or b' i 0 ≡ get_or b i 0)
    unfolding splice
    written_front n w = go (leb (length e) (length b)) refl w.answer w.bytes
      where
        go : (c : Bool) → leb (length e) (length b) ≡ c → ◌≡◌ {A = Result ℕ NoRoom} (Ok n) (cond c (Ok (length e)) (Err (record {}))) → b' ≡ cond c (splice b 0 e) b
            → (n ≡ length e) × (n ≤ length b) × (take n b' ≡ e) × (length b' ≡ length b) × ((i : ℕ) → n ≤ i → get_or b' i 0 ≡ get_or b i 0)
        go true f p q =
            let l : length e ≤ length b = leb-true _ _ f in
            let m : n ≡ length e = cc in
            let r : 0 + length e ≤ length b = omega arith in
            rw (q, m) (refl, l, take-append_seam e (drop (0 + length e) b), length-splice b 0 e r, λ i h. splice_other b 0 e r i (inr (omega arith)))
        go false f p q = let z : ◌≡◌ {A = ℕ} 0 1 = cc in absurd (omega arith)

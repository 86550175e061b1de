-- The definitions of damage, one place at a time: what a turn of each loop adds.
-- Assumes nothing.
use Prim.Native.Nat.{ℕ, ◌+◌, ◌≤◌, ◌<◌}
use mathlib.Core.Path.{◌≡◌, sym, ◌∙◌}
use mathlib.Core.Bool.{Bool, ◌&&◌, and_assoc, and-true}
use mathlib.Core.List.{List, [], ◌∷◌}
use native.Mathlib.Numerals.{add-one}
use lib.Bits.{bit_or}
use lib.Dec.{eqb, leb}
use lib.ListN.{length, get_or}
use lib.Seq.{slice, slice-cons}
use Rattle.std.specs.List.{fold}
use Rattle.open_table.specs.Intact.{zeros}
use Rattle.open_table.proofs.ScanLaws.{zeros_or}
use Rattle.damage.specs.Damage.{row_sound, rows_sound, none_above}

-- one row more
pub rows_next : (a b c : List ℕ) (i t : ℕ) → i < t → t ≤ length a → t ≤ length b → t ≤ length c → (sound : Bool) (w j last : ℕ)
    → ((sound && row_sound w j last (get_or a i 0) (get_or b i 0) (get_or c i 0))
    && rows_sound (get_or a i 0) (get_or b i 0) last (slice (i + 1) t a) (slice (i + 1) t b) (slice (i + 1) t c))
    ≡ (sound && rows_sound w j last (slice i t a) (slice i t b) (slice i t c))
rows_next a b c i t h p q r sound w j last =
    rw (slice-cons i t a 0 h p, slice-cons i t b 0 h q, slice-cons i t c 0 h r, add-one i) (and_assoc sound (row_sound w j last (get_or a i 0) (get_or b i 0) (get_or c i 0)) _)

-- numbers that are or-ed together are 0 where each is
pub zeros_folded : (some : ℕ) (l : List ℕ) → eqb (fold bit_or some l) 0 ≡ (eqb some 0 && zeros l)
zeros_folded some [] = sym (and-true (eqb some 0))
zeros_folded some (x ∷ l) = zeros_folded (bit_or some x) l ∙ zeros_or some x l

-- no mark so far was above, and none in the rest is
pub none_folded : (sound : Bool) (last : ℕ) (l : List ℕ) → fold (λ (b : Bool) (m : ℕ). b && leb m last) sound l ≡ (sound && none_above last l)
none_folded sound last [] = sym (and-true sound)
none_folded sound last (m ∷ l) = none_folded (sound && leb m last) last l ∙ and_assoc sound (leb m last) (none_above last l)

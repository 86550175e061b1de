-- An undamaged table is one that is made of rising stamps, none of them 0 or above the last begun, and nothing else: both ways.
-- Assumes nothing.
use Prim.Native.Nat.{ℕ, zero, suc, ◌-◌, ◌≤◌}
use mathlib.Core.Path.{◌≡◌, refl, sym, ap, ◌∙◌, subst}
use mathlib.Core.Bool.{Bool, true, ◌&&◌, and-eq-true_iff}
use mathlib.Core.List.Memᴰ
use mathlib.Core.List.{List, [], ◌∷◌, ◌++◌, map, map-map, map-id}
use mathlib.Core.Logic.{inl, inr}
use native.Mathlib.Omega.{arith}
use borrow.Author.Tests.{leb-true, ltb-true, eqb-true, le-leb, lt-ltb}
use lib.Dec.{eqb, leb, ltb}
use lib.ListN.{length, take, drop, replicate, length-map, length-drop, take-append-drop}
use lib.Seq.{drop_at, length-take-le}
use Rattle.lists.specs.Member.{◌∈◌, Rising}
use Rattle.log_format.specs.declared.Stamp.{Stamp}
use Rattle.scheduler_rules.specs.Model.{max_open}
use Rattle.open_table.specs.Open.{stamp, number, stamps_of, table_of}
use Rattle.open_table.specs.Intact.{in_place, rises, zeros, is_intact, Intact}
use Rattle.open_table.specs.declared.OpenTable.{OpenTable}
use Rattle.open_table.proofs.TableLaws.{stamps_of_table}

-- ---- two tests that both hold

pub and_both : (a b : Bool) → a ≡ true → b ≡ true → (a && b) ≡ true
and_both a b p q = (and-eq-true_iff a b).1 (p, q)

pub and_parts : (a b : Bool) → (a && b) ≡ true → (a ≡ true) × (b ≡ true)
and_parts a b h = (and-eq-true_iff a b).0 h

-- ---- zeros

pub zeros_all : (xs : List ℕ) → zeros xs ≡ true → xs ≡ replicate (length xs) 0
zeros_all [] h = refl
zeros_all (x ∷ xs) h =
    let p = and_parts (eqb x 0) (zeros xs) h in
    rw (eqb-true x 0 p.0) (ap (λ (l : List ℕ). 0 ∷ l) (zeros_all xs p.1))

pub zeros-replicate : (n : ℕ) → zeros (replicate n 0) ≡ true
zeros-replicate zero = refl
zeros-replicate (suc n) = zeros-replicate n

-- ---- stamps that rise

pub rises_rising : (before last : ℕ) (ks : List ℕ) → rises before last ks ≡ true → Rising (suc before) ks
rises_rising before last [] h = tt
rises_rising before last (k ∷ ks) h =
    let p = and_parts (in_place before last k) (rises k last ks) h in
    (ltb-true before k (and_parts (ltb before k) (leb k last) p.0).0, rises_rising k last ks p.1)

pub rises-begun : (before last : ℕ) (ks : List ℕ) → rises before last ks ≡ true → (k : ℕ) → k ∈ ks → k ≤ last
rises-begun before last [] h n m = absurd (Memᴰ.not-nil m)
rises-begun before last (k ∷ ks) h n m =
    let p = and_parts (in_place before last k) (rises k last ks) h in
    elim (Memᴰ.cases_cons m) [
      | inl e ↦ rw e (leb-true k last (and_parts (ltb before k) (leb k last) p.0).1)
      | inr r ↦ rises-begun k last ks p.1 n r
    ]

pub rising_rises : (before last : ℕ) (ks : List ℕ) → Rising (suc before) ks → ((k : ℕ) → k ∈ ks → k ≤ last) → rises before last ks ≡ true
rising_rises before last [] r b = refl
rising_rises before last (k ∷ ks) r b =
    and_both (in_place before last k) (rises k last ks)
    (and_both (ltb before k) (leb k last) (lt-ltb before k r.0) (le-leb k last (b k (Memᴰ.head refl))))
    (rising_rises k last ks r.1 (λ n m. b n (Memᴰ.tail m)))

-- ---- tables

-- numbers taken out of stamps and made stamps again
numbers_back : (l : List Stamp) → map stamp (map number l) ≡ l
numbers_back l = map-map stamp number l ∙ map-id l

map-replicate : (n : ℕ) → map stamp (replicate n 0) ≡ replicate n (stamp 0)
map-replicate zero = refl
map-replicate (suc n) = ap (λ l. stamp 0 ∷ l) (map-replicate n)

numbers_zero : (n : ℕ) → map number (replicate n (stamp 0)) ≡ replicate n 0
numbers_zero zero = refl
numbers_zero (suc n) = ap (λ l. 0 ∷ l) (numbers_zero n)

-- places that are zeros past the count are what the stamps make
blank_padded : (t : OpenTable) → length t.stamps ≡ max_open → t.count ≤ max_open → zeros (map number (drop t.count t.stamps)) ≡ true → t ≡ table_of (stamps_of t)
blank_padded t w h z =
    let c = t.count in
    let l = t.stamps in
    let n : length (stamps_of t) ≡ c = length-map (take c l) number ∙ length-take-le c l (omega arith) in
    let m : length (map number (drop c l)) ≡ max_open - c = length-map (drop c l) number ∙ length-drop c l ∙ ap (λ k. k - c) w in
    let rest : drop c l ≡ replicate (max_open - c) (stamp 0) =
    sym (numbers_back (drop c l)) ∙ ap (map stamp) (zeros_all (map number (drop c l)) z ∙ ap (λ k. replicate k 0) m) ∙ map-replicate (max_open - c) in
    let all : l ≡ map stamp (stamps_of t) ++ replicate (max_open - c) (stamp 0) = sym (take-append-drop c l) ∙ rw (numbers_back (take c l), rest) in
    rw n (ap (λ (x : List Stamp). record { stamps = x; count = c }) all)

-- a table that answers as undamaged is so
pub intact_is : (t : OpenTable) (last : ℕ) → length t.stamps ≡ max_open → is_intact t last ≡ true → Intact t last
unfolding is_intact
intact_is t last w h =
    let p = and_parts (leb t.count max_open) _ h in
    let q = and_parts (rises 0 last (stamps_of t)) _ p.1 in
    let n : t.count ≤ max_open = leb-true t.count max_open p.0 in
    record {
      padded = record { is = blank_padded t w n q.1; within = n };
      rising = rises_rising 0 last (stamps_of t) q.0;
      begun = rises-begun 0 last (stamps_of t) q.0;
    }

-- the table that is made of such stamps answers as undamaged
pub intact_table : (ks : List ℕ) (last : ℕ) → length ks ≤ max_open → Rising 1 ks → ((k : ℕ) → k ∈ ks → k ≤ last) → is_intact (table_of ks) last ≡ true
unfolding is_intact
intact_table ks last h r b =
    let rest : drop (length ks) (table_of ks).stamps ≡ replicate (max_open - length ks) (stamp 0) = drop_at (map stamp ks) _ (length ks) (length-map ks stamp) in
    and_both (leb (length ks) max_open) _ (le-leb (length ks) max_open h)
    (and_both (rises 0 last (stamps_of (table_of ks))) _
    (rw stamps_of_table (rising_rises 0 last ks r b))
    (rw (rest, numbers_zero) (zeros-replicate (max_open - length ks))))

-- and so does every table that is so
pub intact_of : (t : OpenTable) (last : ℕ) → Intact t last → is_intact t last ≡ true
intact_of t last i =
    let e : t.count ≡ length (stamps_of t) = ap (λ (u : OpenTable). u.count) i.padded.is in
    let h : t.count ≤ max_open = i.padded.within in
    subst (λ (u : OpenTable). is_intact u last ≡ true) (sym i.padded.is) (intact_table (stamps_of t) last (omega arith) i.rising i.begun)

-- What a state of the scheduler means, over lists, and the scheduler's rules.
-- Assumes nothing.
use Rattle.std.specs.Prelude.{ℕ, suc, ◌+◌, ◌<◌, max, ◌≡◌, ◌⊎◌, ◌≢◌, get_or, set, replicate}
use mathlib.Core.List.{List, [], ◌∷◌, ◌++◌, filter, map}
use Rattle.std.proofs.Math.Decide.{ℕ_discrete, dec_le, dec_lt}
use Rattle.lists.specs.Choice.{pick, both, either, isnt}
use Rattle.lists.specs.Member.{◌∈◌, memb, any?}

-- the page's numbers
abbrev pub max_open : ℕ
max_open = 32

abbrev pub max_versions : ℕ
max_versions = 1024

abbrev pub max_item : ℕ
max_item = 63

-- a version: its item, its writer's stamp, its value, and the largest stamp of any transaction that has read it
pub record Version : Type 0 where
  pub item : ℕ
  pub stamp : ℕ
  pub value : ℕ
  pub mark : ℕ

-- the last begun stamp, the open stamps, the versions held, the marks of the 64 initial versions, the log bytes used
pub record Model : Type 0 where
  pub last : ℕ
  pub live : List ℕ
  pub held : List Version
  pub marks : List ℕ
  pub used : ℕ

-- after starting fresh
abbrev pub start : Model
start = record { last = 0; live = []; held = []; marks = replicate 64 0; used = 4 }

-- ---- the version that an operation meets

-- a version of x with a stamp under b
abbrev pub Under : ℕ → ℕ → Version → Type 0
Under x b u = (u.item ≡ x) × (u.stamp < b)

abbrev pub under? : (x b : ℕ) (u : Version) → Dec (Under x b u)
under? x b u = both (ℕ_discrete u.item x) (dec_lt u.stamp b)

-- the version in l of x with the largest stamp under b; z if there is none
unfoldable pub below : ℕ → ℕ → Version → List Version → Version
below x b z [] = z
below x b z (u ∷ l) = below x b (pick (under? x b u) (pick (dec_le z.stamp u.stamp) u z) z) l

-- the initial version of x: stamp 0, value 0
abbrev pub initial : Model → ℕ → Version
initial m x = record { item = x; stamp = 0; value = 0; mark = get_or m.marks x 0 }

-- the version of x that k reads: the largest stamp not above k
abbrev pub chosen : Model → ℕ → ℕ → Version
chosen m x k = below x (suc k) (initial m x) m.held

-- the version of x beneath a write by i: the largest stamp below i
abbrev pub beneath : Model → ℕ → ℕ → Version
beneath m x i = below x i (initial m x) m.held

-- a read by k of u must wait: u's writer is another open transaction
abbrev pub Waits : ℕ → Version → Model → Type 0
Waits k u m = (u.stamp ≢ k) × (u.stamp ∈ m.live)

abbrev pub waits? : (k : ℕ) (u : Version) (m : Model) → Dec (Waits k u m)
waits? k u m = both (isnt (ℕ_discrete u.stamp k)) (memb u.stamp m.live)

-- a write of x by i is late: the mark of the version beneath it is above i
abbrev pub Late : ℕ → ℕ → Model → Type 0
Late x i m = i < (beneath m x i).mark

-- u is the version of x by j
abbrev pub Same : ℕ → ℕ → Version → Type 0
Same x j u = (u.item ≡ x) × (u.stamp ≡ j)

abbrev pub same? : (x j : ℕ) (u : Version) → Dec (Same x j u)
same? x j u = both (ℕ_discrete u.item x) (ℕ_discrete u.stamp j)

-- k's version of x is among those held
abbrev pub Wrote : ℕ → ℕ → List Version → Type 0
Wrote k x l = (u : Version) × (u ∈ l) × Same x k u

abbrev pub wrote? : (k x : ℕ) (l : List Version) → Dec (Wrote k x l)
wrote? k x l = any? (same? x k) l

-- ---- how versions, marks and the open table change

-- u with its mark raised to k, if it is the version of x by j
abbrev pub raise1 : ℕ → ℕ → ℕ → Version → Version
raise1 x j k u = record { item = u.item; stamp = u.stamp; value = u.value; mark = pick (same? x j u) (max u.mark k) u.mark }

abbrev pub raise : ℕ → ℕ → ℕ → List Version → List Version
raise x j k l = map (raise1 x j k) l

-- the initial versions' marks after k read version j of x
abbrev pub raise0 : ℕ → ℕ → ℕ → List ℕ → List ℕ
raise0 x j k l = pick (ℕ_discrete j 0) (set l x (max (get_or l x 0) k)) l

-- u stands before w: by item, then by stamp
abbrev pub Before : Version → Version → Type 0
Before u w = (u.item < w.item) ⊎ ((u.item ≡ w.item) × (u.stamp < w.stamp))

abbrev pub before? : (u w : Version) → Dec (Before u w)
before? u w = either (dec_lt u.item w.item) (both (ℕ_discrete u.item w.item) (dec_lt u.stamp w.stamp))

-- the versions with w at its place
unfoldable pub put : Version → List Version → List Version
put w [] = w ∷ []
put w (u ∷ l) = pick {C = List Version} (before? u w) (u ∷ put w l) (w ∷ u ∷ l)

-- the versions of other stamps than k
abbrev pub without : ℕ → List Version → List Version
without k l = filter (λ (u : Version). isnt (ℕ_discrete u.stamp k)) l

-- the stamps other than k
abbrev pub close : ℕ → List ℕ → List ℕ
close k l = filter (λ (n : ℕ). isnt (ℕ_discrete n k)) l

-- ---- what the operations leave; n is the size of the record written

-- k has begun
abbrev pub begun : ℕ → Model → Model
begun k m = record { last = k; live = m.live ++ k ∷ []; held = m.held; marks = m.marks; used = m.used + 7 }

-- k has read version j of x
abbrev pub got : ℕ → ℕ → ℕ → Model → Model
got k x j m = record { last = m.last; live = m.live; held = raise x j k m.held; marks = raise0 x j k m.marks; used = m.used + 16 }

-- k has written v to x
abbrev pub stored : ℕ → ℕ → ℕ → Model → Model
stored k x v m = record {
  last = m.last;
  live = m.live;
  held = put (record { item = x; stamp = k; value = v; mark = 0 }) m.held;
  marks = m.marks;
  used = m.used + 12;
}

-- k has committed: it ends, its versions stay
abbrev pub ended : ℕ → Model → Model
ended k m = record { last = m.last; live = close k m.live; held = m.held; marks = m.marks; used = m.used + 7 }

-- k was aborted: it ends, its versions go
abbrev pub dropped : ℕ → Model → Model
dropped k m = record { last = m.last; live = close k m.live; held = without k m.held; marks = m.marks; used = m.used + 8 }

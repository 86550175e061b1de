-- What lawful events tell: who reads, writes or ends has begun, none ends twice, none writes an item twice, and a read still shows at the
-- end what it saw. By recursion on the events, each case by what the newest needed of those before it.
-- Assumes nothing.
use Prim.Native.Nat.{ℕ, ◌≤◌}
use mathlib.Core.Path.{◌≡◌, sym, ◌∙◌, subst}
use mathlib.Core.List.{List, [], ◌∷◌}
use mathlib.Core.Logic.{inl, inr}
use Rattle.log_format.specs.Events.{Event, begins, reads, writes, commits, aborts}
use Rattle.log_format.specs.Told.{Begun, Got, Put, Done, Undone}
use Rattle.scheduler_rules.specs.Lawful.{Saw, Lawful, Seen}

-- ---- who acts has begun

pub done-begun : (k : ℕ) (es : List Event) → Lawful es → Done k es → Begun k es
done-begun k [] l d = d
done-begun k (begins i ∷ es) l d = inr (done-begun k es l.1 d)
done-begun k (reads i y j w ∷ es) l d = done-begun k es l.1 d
done-begun k (writes i y w ∷ es) l d = done-begun k es l.1 d
done-begun k (commits i ∷ es) l (inl e) = subst (λ (n : ℕ). Begun n es) (sym e) l.0.0
done-begun k (commits i ∷ es) l (inr d) = done-begun k es l.1 d
done-begun k (aborts i c ∷ es) l d = done-begun k es l.1 d

pub undone_begun : (k : ℕ) (es : List Event) → Lawful es → Undone k es → Begun k es
undone_begun k [] l d = d
undone_begun k (begins i ∷ es) l d = inr (undone_begun k es l.1 d)
undone_begun k (reads i y j w ∷ es) l d = undone_begun k es l.1 d
undone_begun k (writes i y w ∷ es) l d = undone_begun k es l.1 d
undone_begun k (commits i ∷ es) l d = undone_begun k es l.1 d
undone_begun k (aborts i c ∷ es) l (inl e) = subst (λ (n : ℕ). Begun n es) (sym e) l.0.0.0
undone_begun k (aborts i c ∷ es) l (inr d) = undone_begun k es l.1 d

pub put-begun : (k x v : ℕ) (es : List Event) → Lawful es → Put k x v es → Begun k es
put-begun k x v [] l p = p
put-begun k x v (begins i ∷ es) l p = inr (put-begun k x v es l.1 p)
put-begun k x v (reads i y j w ∷ es) l p = put-begun k x v es l.1 p
put-begun k x v (writes i y w ∷ es) l (inl e) = subst (λ (n : ℕ). Begun n es) (sym e.0) l.0.0.0
put-begun k x v (writes i y w ∷ es) l (inr p) = put-begun k x v es l.1 p
put-begun k x v (commits i ∷ es) l p = put-begun k x v es l.1 p
put-begun k x v (aborts i c ∷ es) l p = put-begun k x v es l.1 p

pub got-begun : (k x j v : ℕ) (es : List Event) → Lawful es → Got k x j v es → Begun k es
got-begun k x j v [] l g = g
got-begun k x j v (begins i ∷ es) l g = inr (got-begun k x j v es l.1 g)
got-begun k x j v (reads i y h w ∷ es) l (inl e) = subst (λ (n : ℕ). Begun n es) (sym e.0) l.0.0.0
got-begun k x j v (reads i y h w ∷ es) l (inr g) = got-begun k x j v es l.1 g
got-begun k x j v (writes i y w ∷ es) l g = got-begun k x j v es l.1 g
got-begun k x j v (commits i ∷ es) l g = got-begun k x j v es l.1 g
got-begun k x j v (aborts i c ∷ es) l g = got-begun k x j v es l.1 g

-- ---- no stamp begun is 0

pub begun_positive : (k : ℕ) (es : List Event) → Lawful es → Begun k es → 1 ≤ k
begun_positive k [] l b = absurd b
begun_positive k (begins i ∷ es) l (inl e) = rw e l.0.0
begun_positive k (begins i ∷ es) l (inr b) = begun_positive k es l.1 b
begun_positive k (reads i y j w ∷ es) l b = begun_positive k es l.1 b
begun_positive k (writes i y w ∷ es) l b = begun_positive k es l.1 b
begun_positive k (commits i ∷ es) l b = begun_positive k es l.1 b
begun_positive k (aborts i c ∷ es) l b = begun_positive k es l.1 b

-- ---- none both commits and aborts

pub one_end : (k : ℕ) (es : List Event) → Lawful es → Done k es → Undone k es → ⊥
one_end k [] l d u = d
one_end k (begins i ∷ es) l d u = one_end k es l.1 d u
one_end k (reads i y j w ∷ es) l d u = one_end k es l.1 d u
one_end k (writes i y w ∷ es) l d u = one_end k es l.1 d u
one_end k (commits i ∷ es) l (inl e) u = l.0.2 (subst (λ (n : ℕ). Undone n es) e u)
one_end k (commits i ∷ es) l (inr d) u = one_end k es l.1 d u
one_end k (aborts i c ∷ es) l d (inl e) = l.0.0.1 (subst (λ (n : ℕ). Done n es) e d)
one_end k (aborts i c ∷ es) l d (inr u) = one_end k es l.1 d u

-- ---- a transaction has one value for an item

-- a write's stamp and item, exchanged for equal ones
put_same : {k i x y : ℕ} (v : ℕ) (es : List Event) → k ≡ i → x ≡ y → Put k x v es → Put i y v es
put_same {i = i} {x = x} v es e f p = subst (λ (z : ℕ). Put i z v es) f (subst (λ (n : ℕ). Put n x v es) e p)

pub put_once : (k x v w : ℕ) (es : List Event) → Lawful es → Put k x v es → Put k x w es → v ≡ w
put_once k x v w [] l p q = absurd p
put_once k x v w (begins i ∷ es) l p q = put_once k x v w es l.1 p q
put_once k x v w (reads i y j u ∷ es) l p q = put_once k x v w es l.1 p q
put_once k x v w (writes i y u ∷ es) l (inl p) (inl q) = p.2 ∙ sym q.2
put_once k x v w (writes i y u ∷ es) l (inl p) (inr q) = absurd (l.0.3 (w, put_same w es p.0 p.1 q))
put_once k x v w (writes i y u ∷ es) l (inr p) (inl q) = absurd (l.0.3 (v, put_same v es q.0 q.1 p))
put_once k x v w (writes i y u ∷ es) l (inr p) (inr q) = put_once k x v w es l.1 p q
put_once k x v w (commits i ∷ es) l p q = put_once k x v w es l.1 p q
put_once k x v w (aborts i c ∷ es) l p q = put_once k x v w es l.1 p q

-- ---- a read, seen from the end

saw_seen : (k x j v : ℕ) (es : List Event) → Saw k x j v es → Seen k x j v es
saw_seen k x j v es (inl p) = inl p
saw_seen k x j v es (inr p) = inr (p.0, p.2)

seen_after-write : (k x j v i y w : ℕ) (es : List Event) → Seen k x j v es → Seen k x j v (writes i y w ∷ es)
seen_after-write k x j v i y w es (inl p) = inl (p.0, inr p.1)
seen_after-write k x j v i y w es (inr (a, inl p)) = inr (a, inl p)
seen_after-write k x j v i y w es (inr (a, inr p)) = inr (a, inr (p.0, inr p.1))

seen_after-commit : (k x j v i : ℕ) (es : List Event) → Seen k x j v es → Seen k x j v (commits i ∷ es)
seen_after-commit k x j v i es (inl p) = inl p
seen_after-commit k x j v i es (inr (a, inl p)) = inr (a, inl p)
seen_after-commit k x j v i es (inr (a, inr p)) = inr (a, inr (inr p.0, p.1))

-- what was seen of a read, said of equal numbers
seen_same : {k i x y j h v w : ℕ} (es : List Event) → (k ≡ i) × (x ≡ y) × (j ≡ h) × (v ≡ w) → Seen i y h w es → Seen k x j v es
seen_same {k} {i} {x} {y} {j} {h} {v} {w} es e s =
    let a = subst (λ (z : ℕ). Seen z y h w es) (sym e.0) s in
    let b = subst (λ (z : ℕ). Seen k z h w es) (sym e.1) a in
    let c = subst (λ (z : ℕ). Seen k x z w es) (sym e.2) b in
    subst (λ (z : ℕ). Seen k x j z es) (sym e.3) c

-- a read was of its own write, or of an older version: the initial one or one of a committed writer
pub got_seen : (k x j v : ℕ) (es : List Event) → Lawful es → Got k x j v es → Seen k x j v es
got_seen k x j v [] l g = absurd g
got_seen k x j v (begins i ∷ es) l g = got_seen k x j v es l.1 g
got_seen k x j v (reads i y h w ∷ es) l (inl e) = seen_same es e (saw_seen i y h w es l.0.2)
got_seen k x j v (reads i y h w ∷ es) l (inr g) = got_seen k x j v es l.1 g
got_seen k x j v (writes i y w ∷ es) l g = seen_after-write k x j v i y w es (got_seen k x j v es l.1 g)
got_seen k x j v (commits i ∷ es) l g = seen_after-commit k x j v i es (got_seen k x j v es l.1 g)
got_seen k x j v (aborts i c ∷ es) l g = got_seen k x j v es l.1 g

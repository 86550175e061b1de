-- The page's cases A to F, as events and version orders, and a few beside them. Item 0 is x, item 1 is y; all begin in stamp order.
-- Assumes nothing.
use Rattle.std.specs.Prelude.{ℕ, ◌≡◌, List, [], ◌∷◌, cond, eqb}
use Rattle.log_format.specs.Events.{Event, begins, reads, writes, commits}
use Rattle.history_rules.specs.WellFormed.{WellFormed}
use Rattle.graph_theory.specs.Verdict.{accepted, cycle}
use Rattle.serial_theory.specs.Edges.{VersionOrder}
use Rattle.serial_theory.specs.Serial.{SerialOrder}
use Rattle.serial_theory.specs.Judged.{verdict}

-- the versions of x and those of y
abbrev pub order : List ℕ → List ℕ → ℕ → List ℕ
order x y i = cond (eqb i 0) x (cond (eqb i 1) y [])

-- 1 reads x from 0, writes y; 2 reads y from 0, writes x
abbrev pub log_a : List Event
log_a = begins 1 ∷ begins 2 ∷ reads 1 0 0 0 ∷ writes 1 1 5 ∷ reads 2 1 0 0 ∷ writes 2 0 6 ∷ commits 1 ∷ commits 2 ∷ []

-- 1 reads x from 0 and writes x; 2 reads x from 0
abbrev pub log_b : List Event
log_b = begins 1 ∷ begins 2 ∷ reads 1 0 0 0 ∷ writes 1 0 5 ∷ reads 2 0 0 0 ∷ commits 1 ∷ commits 2 ∷ []

-- 1 and 2 write x; 3 reads x from 1
abbrev pub log_c : List Event
log_c = begins 1 ∷ begins 2 ∷ begins 3 ∷ writes 1 0 5 ∷ writes 2 0 6 ∷ reads 3 0 1 5 ∷ commits 1 ∷ commits 2 ∷ commits 3 ∷ []

-- 2 writes x and y; 3 reads x from 0 and y from 2
abbrev pub log_e : List Event
log_e = begins 2 ∷ begins 3 ∷ writes 2 0 5 ∷ writes 2 1 6 ∷ reads 3 0 0 0 ∷ reads 3 1 2 6 ∷ commits 2 ∷ commits 3 ∷ []

pub record CasesAtoF : Type 0 where
  pub A : verdict log_a (order (2 ∷ []) (1 ∷ [])) ≡ cycle (1 ∷ 2 ∷ [])
  pub B : verdict log_b (order (1 ∷ []) []) ≡ accepted (2 ∷ 1 ∷ [])
  pub C : verdict log_c (order (1 ∷ 2 ∷ []) []) ≡ accepted (1 ∷ 3 ∷ 2 ∷ [])
  -- as C, order 2, 1
  pub D : verdict log_c (order (2 ∷ 1 ∷ []) []) ≡ accepted (2 ∷ 1 ∷ 3 ∷ [])
  pub E : verdict log_e (order (2 ∷ []) (2 ∷ [])) ≡ cycle (2 ∷ 3 ∷ [])
  pub F : verdict [] (order [] []) ≡ accepted []

-- 1 reads the x that it wrote itself; 2 writes x too
abbrev pub own_read : List Event
own_read = begins 1 ∷ begins 2 ∷ writes 1 0 5 ∷ reads 1 0 1 5 ∷ writes 2 0 6 ∷ commits 1 ∷ commits 2 ∷ []

-- as C, where 3 never ends
abbrev pub unfinished : List Event
unfinished = begins 1 ∷ begins 2 ∷ begins 3 ∷ writes 1 0 5 ∷ writes 2 0 6 ∷ reads 3 0 1 5 ∷ commits 1 ∷ commits 2 ∷ []

pub record CasesBeside : Type 0 where
  -- a read of one's own version draws no edge, in either order
  pub own_older : verdict own_read (order (1 ∷ 2 ∷ []) []) ≡ accepted (1 ∷ 2 ∷ [])
  pub own_newer : verdict own_read (order (2 ∷ 1 ∷ []) []) ≡ accepted (1 ∷ 2 ∷ [])
  -- a transaction without an end is no node, and its reads draw no edge
  pub no_node : verdict unfinished (order (2 ∷ 1 ∷ []) []) ≡ accepted (1 ∷ 2 ∷ [])
  -- the smallest first, not the first to commit
  pub commits_fall : verdict (begins 1 ∷ begins 2 ∷ commits 2 ∷ commits 1 ∷ []) (order [] []) ≡ accepted (1 ∷ 2 ∷ [])

-- no order of case A's transactions is serial
pub record CaseA : Type 0 where
  pub well_formed : WellFormed log_a
  pub version_order : VersionOrder log_a (order (2 ∷ []) (1 ∷ []))
  pub not_serial : (o : List ℕ) → ¬ SerialOrder log_a o

-- The two answers for a graph, all nodes in the order taken or a cycle: the page's rule, what an answer says, and what computes it.
-- Assumes nothing.
use Rattle.std.specs.Prelude.{ℕ, ◌≤◌, ◌≡◌, List, [], ◌∷◌, Bool, length}
use Rattle.lists.specs.Order.{Distinct}
use Rattle.graph_theory.specs.Graph.{Cycle, Topological, SmallestFirst}
use Rattle.graph_theory.specs.Taking.{Takes, TakesAny, take_all}
use Rattle.graph_theory.specs.Walking.{Turned, Walks, cycle_of}

-- an answer with the nodes that are written
pub data Verdict : Type 0 where
  -- all were taken, in this order
  accepted : (stamps : List ℕ) → Verdict
  -- some are left, of which none can be taken: a cycle among them
  cycle : (stamps : List ℕ) → Verdict

-- nodes are accepted
abbrev pub Accepts : Verdict → Type 0
Accepts (accepted o) = Unit {0}
Accepts (cycle c) = ⊥

-- the nodes written
abbrev pub stamps_of : Verdict → List ℕ
stamps_of (accepted o) = o
stamps_of (cycle c) = c

module _ (R : ℕ → ℕ → Type 0) (ns : List ℕ) where
  -- the page's rule for the nodes ns, which rise
  pub data Rule : Verdict → Type 0 where
    -- the smallest with no edge from one not yet taken, repeatedly, until all are taken
    takes_all : {o : List ℕ} → Takes R ns o [] → Rule (accepted o)
    -- nodes with no edge from a node that is left are taken away until none can go; from the smallest left the walk; its cycle turned
    sticks : (o : List ℕ) {a : ℕ} {l w c : List ℕ} → TakesAny R ns o (a ∷ l) → Walks R (a ∷ l) a [] w → Turned w c → Rule (cycle c)

  -- an accepted order is topological, smallest first, and has every node
  pub record Accepted (o : List ℕ) : Type 0 where
    pub topological : Topological R ns o
    pub smallest : Takes R ns o []
    pub number : length o ≡ length ns

  -- a cycle shown is one, along its edges, no node twice, its smallest first; it is no longer than the nodes are many
  pub record Shown (c : List ℕ) : Type 0 where
    pub cycle : Cycle R ns c
    pub once : Distinct c
    pub smallest : SmallestFirst c
    pub number : length c ≤ length ns

  -- what an answer says
  abbrev pub Says : Verdict → Type 0
  Says (accepted o) = Accepted o
  Says (cycle c) = Shown c

module _ (E : ℕ → ℕ → Bool) where
  -- the order taken, if none is left; else the cycle
  abbrev pub judge : List ℕ → List ℕ → Verdict
  judge o [] = accepted o
  judge o (a ∷ l) = cycle (cycle_of E (a ∷ l))

  -- the verdict for the nodes ns, which rise
  abbrev pub verdict_of : List ℕ → Verdict
  verdict_of ns = judge (take_all E ns).taken (take_all E ns).left

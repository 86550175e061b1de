-- Decisions: the one conditional of the house, and how tests are joined.
-- Assumes nothing.
use Rattle.std.specs.Prelude.{◌⊎◌}
use Rattle.std.proofs.Common.{inl, inr}

-- a where the test holds, else b
unfoldable pub pick : {P C : Type 0} → Dec P → C → C → C
pick (yes p) a b = a
pick (no n) a b = b

-- a test of two facts
unfoldable pub both : {P Q : Type 0} → Dec P → Dec Q → Dec (P × Q)
both (yes p) (yes q) = yes (p, q)
both (yes p) (no n) = no (λ h. n h.1)
both (no n) d = no (λ h. n h.0)

-- a test that one of two facts holds
unfoldable pub either : {P Q : Type 0} → Dec P → Dec Q → Dec (P ⊎ Q)
either (yes p) d = yes (inl p)
either (no n) (yes q) = yes (inr q)
either (no n) (no m) = no (λ h. elim h [ inl p ↦ n p | inr q ↦ m q ])

-- a test that a fact does not hold
unfoldable pub isnt : {P : Type 0} → Dec P → Dec (¬ P)
isnt (yes p) = no (λ n. n p)
isnt (no n) = yes n

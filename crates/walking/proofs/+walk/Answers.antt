use Rattle.walking.proofs.WalkedLaws.{stepped_zero, stepped_none, stepped_hit, stepped_on}
use Rattle.walking.proofs.+walk.Goals as goal

pub returns-then-top-eq0 : goal.returns-then-top-eq0
returns-then-top-eq0 t c = stepped_zero _ _ _ _ _ _ c.if-top-eq0.true

pub returns-in_err-next : goal.returns-in_err-next
returns-in_err-next t c = rw c.from_residual.ensures (stepped_none _ _ _ _ _ _ c.if-top-eq0.false c.requires.place c.in_err-next.ensures)

pub returns-in-Some : goal.returns-in-Some
returns-in-Some t c =
    stepped_hit _ _ _ _ _ _ c.if-top-eq0.false c.requires.place _ c.in_ok-next.ensures _ c.in-Some.ensures

pub returns-in-None : goal.returns-in-None
returns-in-None t c =
    stepped_on _ _ _ _ _ _ c.if-top-eq0.false c.requires.place _ c.in_ok-next.ensures c.in-None.ensures _ _ c.walk.ensures

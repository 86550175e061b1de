-- `walking::walk` meets its contract, by its own for fewer nodes not yet visited: `top` falls at each call. Each return is a case of the theory's walk.
use Rattle.walking.proofs.+walk.Given as goal

abbrev pub decreases-walk : goal.decreases-walk
decreases-walk l = l.top

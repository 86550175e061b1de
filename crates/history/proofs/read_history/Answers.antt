-- A refusal is handed up; a log that passes has its committed transactions gathered.
use Rattle.history.proofs.JudgedLaws.{read_refused, read_passed}
use native.Mathlib.Omega.{arith}
use Rattle.std.proofs.lemmas.Result.{err_from_is_err_and}
use Rattle.history.proofs.read_history.Goals as goal

pub returns-in_err-judge : goal.returns-in_err-judge
returns-in_err-judge c =
    let p = err_from_is_err_and c.from_residual.result c.from_residual.ensures.1 in
    rw (p.1, p.2) (read_refused c.args.nodes.now c.judge.ensures _ c.in_err-judge.was)

pub returns : goal.returns
returns c =
    read_passed c.judge.ensures c.in_ok-judge.was (λ i. (c.type_inv.log i).fits) (omega (arith, c.requires.1)) c.gather.ensures

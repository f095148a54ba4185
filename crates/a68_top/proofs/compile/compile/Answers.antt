use Rattle.std.proofs.lemmas.Result.{err_from_is_err_and}
use Rattle.a68_top.proofs.Refusing.{before, stopped, ungenerated}
use Rattle.a68_top.proofs.compile.compile.Goals as goal

pub returns-in_err-program-clause-refused : goal.returns-in_err-program-clause-refused
returns-in_err-program-clause-refused c =
    let p = err_from_is_err_and c.from_residual-in_err-program.result c.from_residual-in_err-program.ensures.1 in rw (p.1, p.2)
    (stopped c.args.text.now c.in_ok-found.tree c.in_ok-found.ensures.ok.is c.in_err-program.field-0.0 c.in_err-program.ensures.refused)

pub returns-in_err-code-clause-refused : goal.returns-in_err-code-clause-refused
returns-in_err-code-clause-refused c =
    let p = err_from_is_err_and c.from_residual-in_err-code.result c.from_residual-in_err-code.ensures.1 in rw (p.1, p.2)
    (ungenerated c.args.text.now c.in_ok-program.program (record { tree = c.in_ok-found.tree; is = c.in_ok-found.ensures.ok.is; annotates = c.in_ok-program.ensures.ok }) c.in_err-code.field-0.0 c.in_err-code.ensures.refused)

pub returns-in_err-found-clause-refused : goal.returns-in_err-found-clause-refused
returns-in_err-found-clause-refused c =
    let p = err_from_is_err_and c.from_residual.result c.from_residual.ensures.1 in rw (p.1, p.2)
    (before c.args.text.now c.in_err-found.field-0.0 c.in_err-found.ensures.refused)

use Rattle.std.proofs.Common.{◌≡◌, ◌∙◌, arith, ap, sym, drop, List, []}
use Rattle.std.proofs.lemmas.List.{drop_all}
use Rattle.a68_elab.specs.Programs.{mark_of}
use Rattle.a68_emit.specs.Seats.{marks_of}
use Rattle.a68_emit.specs.declared.seat.Clause.{Clause}
use Rattle.a68_emit.proofs.Seating.{clause_found, clause_passed, none_found}
use Rattle.a68_emit.proofs.seat.clause_of.Goals as goal

pub returns-then-has_label : goal.returns-then-has_label
returns-then-has_label c =
    clause_found c.args.program.now c.args.clauses.now c.loop-clause.clause-index c.args.label (record { id = 0; height = 0; depth = 0 }) _ (omega arith)
    (sym c.has_label.ensures ∙ c.if-has_label.true) c.loop-clause.invariant

pub loop-clause-preserved : goal.loop-clause-preserved
loop-clause-preserved c =
    clause_passed c.args.program.now c.args.clauses.now c.loop-clause.clause-index c.args.label (record { id = 0; height = 0; depth = 0 }) _ (omega arith)
    (sym c.has_label.ensures ∙ c.if-has_label.false) c.loop-clause.invariant

pub returns : goal.returns
returns c =
    let end : drop c.loop-clause.clause-index c.args.clauses.now ≡ [] = drop_all c.loop-clause.clause-index c.args.clauses.now (omega arith) in
    none_found _ (c.loop-clause.invariant ∙ ap (λ (cs : List Clause). mark_of c.args.label (marks_of c.args.program.now cs)) end)

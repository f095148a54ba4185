use Rattle.std.proofs.Common.{◌+◌, ◌++◌, ℕ, List, ap, ◌∙◌}
use Rattle.a68_elab.specs.declared.bound.Bound.{Bound}
use Rattle.a68_runs.proofs.Opening.{all_of-append, looks_of-append}
use Rattle.a68_runs.specs.Opens.{all_of, looks_of}
use Rattle.a68_runs.proofs.bounds.open_fields.Goals as goal

pub returns-clause-all : goal.returns-clause-all
returns-clause-all c =
    let a = c.args.program.now in
    ap (all_of a) c.in_ok-put.ensures ∙ all_of-append a c.find_fields.new.found.items c.args.opens.now
    ∙ ap (λ (l : List Bound). l ++ all_of a c.args.opens.now) c.in_ok-find_fields.ensures.all

pub returns-clause-looks : goal.returns-clause-looks
returns-clause-looks c =
    let a = c.args.program.now in
    ap (looks_of a) c.in_ok-put.ensures ∙ looks_of-append a c.find_fields.new.found.items c.args.opens.now
    ∙ ap (λ (n : ℕ). n + looks_of a c.args.opens.now) c.in_ok-find_fields.ensures.looks

use Rattle.std.proofs.Common.{ap, sym, ◌∙◌, codes}
use Rattle.std.specs.Option.{option_and_then, option_map}
use Rattle.clap.specs.Words.{found_of, rows_of, first_of}
use Rattle.clap.proofs.WalkLemmas.{first_value-rows}
use Rattle.a68_command.proofs.Calls.{matched_is}
use Rattle.a68_command.specs.Words.{given_by, task_by}
use Rattle.a68_command.proofs.words.matched.Goals as goal

pub returns-in-None-clause-task : goal.returns-in-None-clause-task
returns-in-None-clause-task c =
    let f = found_of c.args.matches.now in
    ap (option_and_then (λ text. task_by c.args.verb.now (given_by (λ name. first_of name (rows_of f)) text)))
    (ap (option_map (λ s. s.now)) (sym c.in-None.is) ∙ (c.get_str-operand.ensures ∙ first_value-rows f (codes "operand")))

pub returns-in_ok-command-in-Some-clause-task : goal.returns-in_ok-command-in-Some-clause-task
returns-in_ok-command-in-Some-clause-task c =
    let f = found_of c.args.matches.now in
    c.in_ok-command-in-Some.ensures.task
    ∙ matched_is c.args.verb.now (rows_of f) _ _ _ _ _ _ _
    (ap (option_map (λ s. s.now)) (sym c.in-Some.is) ∙ (c.get_str-operand.ensures ∙ first_value-rows f (codes "operand")))
    (c.get_str-second.ensures ∙ first_value-rows f (codes "second"))
    (c.get_str-workers.ensures ∙ first_value-rows f (codes "workers"))
    (c.get_str-fuel.ensures ∙ first_value-rows f (codes "fuel"))
    (c.get_str-input.ensures ∙ first_value-rows f (codes "input"))
    (c.get_str.ensures ∙ first_value-rows f (codes "names"))
    c.is_true-names.ensures

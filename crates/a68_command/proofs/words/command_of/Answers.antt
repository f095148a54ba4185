use Rattle.std.proofs.Common.{rules, ap, subst, sym, map, false, true≢false, ◌≡◌, ◌∙◌}
use Rattle.std.specs.Prelude.{string_bytes}
use Rattle.std.specs.Option.{option_and_then}
use Rattle.std.proofs.lemmas.Str.{IsUtf8-string_bytes}
use Rattle.clap.specs.Words.{App, HasKind, fault_of, is_simple, is_simple_and_free, subcommand_of}
use Rattle.a68_command.proofs.Calls.{are_texts, call_free, call_simple, faulty, faultless}
use Rattle.a68_command.specs.Matching.{matched_task}
use Rattle.a68_command.specs.Splitting.{call_app}
use Rattle.a68_command.proofs.words.command_of.Goals as goal

pub returns-else-eq-clause-task : goal.returns-else-eq-clause-task
returns-else-eq-clause-task c =
    let words = map string_bytes c.args.words.now in
    let app_is = c.in_ok-call.ensures.app in
    let fault = c.in-Err.ensures.kinds (ap is_simple_and_free app_is ∙ call_free) in
    faulty (fault_of call_app words) c.in-Err.error (option_and_then matched_task (subcommand_of call_app words))
    (subst (λ (a : App). HasKind (fault_of a words) c.in-Err.error) app_is fault)
    (λ m.
    let same = rw (c.kind.ensures, m) at c.eq.ensures in
    let other : c.eq.result ≡ false = search rules in
    true≢false (sym same ∙ other))
    ∙ c.splits_are_tasks.ensures words (are_texts string_bytes IsUtf8-string_bytes c.args.words.now)

pub returns-in_ok-command-in-Ok-clause-task : goal.returns-in_ok-command-in-Ok-clause-task
returns-in_ok-command-in-Ok-clause-task c =
    let words = map string_bytes c.args.words.now in
    let app_is = c.in_ok-call.ensures.app in
    let none = ap (λ (a : App). fault_of a words) (sym app_is) ∙ c.in-Ok.ensures.kinds (ap is_simple_and_free app_is ∙ call_free) in
    let rows = (c.in-Ok.ensures.matches (ap is_simple app_is ∙ call_simple)).1 ∙ ap (λ (a : App). subcommand_of a words) app_is in
    c.in_ok-command-in-Ok.ensures.task ∙ ap (option_and_then matched_task) rows
    ∙ faultless (fault_of call_app words) (option_and_then matched_task (subcommand_of call_app words)) none
    ∙ c.splits_are_tasks.ensures words (are_texts string_bytes IsUtf8-string_bytes c.args.words.now)

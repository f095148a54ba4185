use Rattle.std.proofs.Common.{ap, length, sym, subst, ◌≡◌, ◌∙◌, ◌+◌, ◌<◌, drop, map}
use Rattle.std.proofs.lemmas.List.{length-map}
use Rattle.std.specs.List.{fold}
use Rattle.clap.specs.Words.{app_of, with_subcommand}
use Rattle.a68_command.specs.Splitting.{with_verb}
use Rattle.a68_command.proofs.Calls.{one_more}
use Rattle.a68_command.proofs.splitting.call.Goals as goal

pub loop-name-preserved : goal.loop-name-preserved
loop-name-preserved c =
    let one = c.in_ok-call.ensures.shape c.in_ok-verb.ensures.local ∙ ap (with_subcommand (app_of c.loop-name.call)) c.in_ok-verb.ensures.shape in
    let size : length c.verbs-name-items.result ≡ 8 = sym (length-map c.verbs-name-items.result (λ verb. verb.now)) ∙ ap length c.verbs-name-items.ensures in
    ap (λ a. fold with_verb a (map (λ verb. verb.now) (drop (c.loop-name.name-index + 1) c.verbs-name-items.result))) one
    ∙ one_more with_verb (λ verb. verb.now) c.verbs-name-items.result c.loop-name.name-index (app_of c.loop-name.call) _ (subst (λ n. c.loop-name.name-index < n) (sym size) c.loop-name-test.true) ∙ c.loop-name.invariant

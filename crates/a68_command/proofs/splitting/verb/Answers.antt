use Rattle.std.proofs.Common.{ap, ap₂, ◌≡◌, ◌∙◌}
use Rattle.clap.specs.Words.{App, app_of, with_rule}
use Rattle.a68_command.specs.Splitting.{verb_app}
use Rattle.a68_command.proofs.splitting.verb.Goals as goal

pub returns-clause-shape : goal.returns-clause-shape
returns-clause-shape c =
    let verb_is : app_of c.in_ok-verb.verb ≡ verb_app c.args.name.now = c.in_ok-verb.ensures.shape c.names.ensures.local
    ∙ ap₂ with_rule (c.in_ok-arg-5.ensures.shape c.valued-3.ensures.local
    ∙ ap₂ with_rule (c.in_ok-arg-4.ensures.shape c.valued-2.ensures.local
    ∙ ap₂ with_rule (c.in_ok-arg-3.ensures.shape c.valued.ensures.local
    ∙ ap₂ with_rule (c.in_ok-arg-2.ensures.shape c.new-2.ensures.optional.1
    ∙ ap₂ with_rule (c.in_ok-arg.ensures.shape c.operand.ensures.local ∙ ap₂ with_rule c.new.ensures.app c.operand.ensures.rule) c.new-2.ensures.rule)
    c.valued.ensures.rule) c.valued-2.ensures.rule) c.valued-3.ensures.rule) c.names.ensures.rule in
    ap (λ (a : App). a.top) verb_is

use Rattle.std.proofs.Common.{◌∙◌, ◌-◌, ℕ, Option, ap, arith, get_or, length}
use Rattle.a68_modes.specs.declared.coercion.Coercion.TheVariants.{Deproc}
use Rattle.a68_parts.proofs.Reaching.{back_one}
use Rattle.a68_parts.specs.Rowing.{before}
use Rattle.a68_parts.proofs.rowing.rowed_to.Goals as goal

pub loop-behind-preserved : goal.loop-behind-preserved
loop-behind-preserved c =
    let modes = c.args.modes.now in
    let path = c.args.path.now in
    let behind = c.loop-behind.behind in
    let next = get_or path (length path - 1 - behind) Deproc in
    c.before-mode.ensures ∙ ap (λ (o : Option ℕ). before modes o next) c.loop-behind.invariant ∙ back_one modes c.args.goal path behind Deproc (omega arith)

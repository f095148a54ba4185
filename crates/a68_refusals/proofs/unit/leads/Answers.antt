use Rattle.std.proofs.Common.{◌∷◌, [], subst}
use Rattle.a68_coerce.specs.Balanced.{IsBalanced}
use Rattle.a68_coerce.specs.declared.leaf.Leaf.TheVariants as leaf
use Rattle.a68_equiv.specs.Related.{as_it_stands}
use Rattle.a68_modes.specs.declared.coercion.Sort.TheVariants as by
use Rattle.a68_refusals.proofs.Fitting.{leads_alone}
use Rattle.a68_refusals.proofs.unit.leads.Goals as goal

pub returns : goal.returns
returns c =
    let to = as_it_stands c.args.to in
    let is = subst (λ nodes. IsBalanced nodes by.Strong to (leaf.Mode c.args.from ∷ []) c.in_ok-found.found) c.modes.ensures.is c.in_ok-found.ensures in
    rw c.is_some.ensures (leads_alone c.args.modes.now by.Strong to c.args.from c.in_ok-found.found is)

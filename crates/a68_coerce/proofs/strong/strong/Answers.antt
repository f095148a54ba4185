use Rattle.a68_coerce.specs.declared.goal.CoercionGoal.TheVariants as form
use Rattle.a68_coerce.specs.Paths.StrongTo.{naming}
use Rattle.a68_coerce.proofs.Orders.{no_named}
use Rattle.a68_coerce.proofs.Rows.{begun, up}
use Rattle.a68_coerce.proofs.strong.strong.Goals as goal

pub rowing-init : goal.rowing-init
rowing-init c = begun c.args.modes.now c.args.from c.args.to c.voided-to_void.ensures.nodes c.requires.rows c.requires.to

pub returns-in-Some : goal.returns-in-Some
returns-in-Some c = c.rowing.invariant.leads _ (rw c.in-Some.is at c.in_ok-route.ensures)

pub returns-in-Some-named : goal.returns-in-Some-named
returns-in-Some-named c =
    let none = rw c.in_default.is at c.in_ok-route.ensures in
    c.rowing.invariant.leads _ (naming none.1 c.in-Some-named.ensures)

pub returns-in-None : goal.returns-in-None
returns-in-None c =
    let none = rw c.in_default.is at c.in_ok-route.ensures in
    c.rowing.invariant.none (no_named c.args.modes.now c.args.from c.rowing.goal none.0 none.1 none.2 c.in_default-row_over.ensures.over c.in-None.ensures)

pub rowing-preserved : goal.rowing-preserved
rowing-preserved c =
    let none = rw c.in_default.is at c.in_ok-route.ensures in
    up c.args.modes.now c.args.from (form.Mode c.args.to) c.rowing.goal c.in-Some-row_over.inner c.rowing.rows c.rowing.invariant none.0 none.1 none.2 c.in-Some-row_over.ensures.over c.in-Some-row_over.ensures.below c.in-Some-row_over.ensures.deep

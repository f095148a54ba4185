use Rattle.std.proofs.Common.{rules, ◌≡◌, ◌∙◌, length, sym}
use Rattle.std.proofs.lemmas.Bool.{false≢true}
use Rattle.a68_equiv.specs.Related.{as_it_stands}
use Rattle.a68_identify.proofs.Missing.{fits_never, members_below, not_led, untold}
use Rattle.a68_identify.proofs.Separating.{is_apart}
use Rattle.a68_modes.specs.Nodes.{shape_at}
use Rattle.a68_modes.specs.declared.shape.Shape.TheVariants.{Union}
use Rattle.a68_identify.proofs.apart.is_apart.Goals as goal

pub is_apart_from-requires-clause-known : goal.is_apart_from-requires-clause-known
is_apart_from-requires-clause-known c = (c.requires.met c.in-Some.from c.in-Some.is).1

pub is_apart_from-requires-clause-below : goal.is_apart_from-requires-clause-below
is_apart_from-requires-clause-below c =
    let is : shape_at c.args.modes.now c.args.parameter ≡ Union c.deref.result.now = search rules in
    members_below c.args.modes.now c.args.parameter c.deref.result.now c.shape.ensures.nodes c.requires.parameter is

pub returns-in-Union : goal.returns-in-Union
returns-in-Union c apart =
    fits_never c.args.modes.now c.in-Some.from c.args.parameter (c.is_apart_from.ensures apart) c.args.leaves.now (c.requires.met c.in-Some.from c.in-Some.is).0 c.requires.mode

pub returns : goal.returns
returns c apart =
    let met = c.requires.met c.in-Some.from c.in-Some.is in
    is_apart c.args.modes.now c.in-Some.from c.args.parameter c.args.leaves.now met.0 (sym c.is_union.ensures ∙ c.if-is_union.false) c.requires.mode
    (not_led c.args.modes.now c.args.classes.now.of c.requires.exact c.args.met.now.classes.keys c.args.met.now.union (as_it_stands c.in-Some.from) c.args.parameter c.requires.parameter met.1
    (sym c.knows.ensures ∙ untold c.knows.result apart))

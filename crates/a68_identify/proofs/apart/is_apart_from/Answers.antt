use Rattle.std.proofs.Common.{◌≡◌, ◌<◌, ◌∙◌, sym, subst, length, ℕ, Bool}
use Rattle.std.specs.List.{Contains}
use Rattle.std.proofs.lemmas.List.Elements.{All-contains}
use Rattle.a68_equiv.specs.Related.{as_it_stands}
use Rattle.a68_identify.proofs.Missing.{missed, never_firm, not_led, untold}
use Rattle.a68_identify.specs.Apart.{KnowsAll}
use Rattle.a68_identify.proofs.apart.is_apart_from.Goals as goal

pub returns : goal.returns
returns c apart =
    let nodes = c.args.modes.now in
    let classes = c.args.classes.now.of in
    let set = c.args.met.now.classes.keys in
    let from = as_it_stands c.args.from in
    let plain = subst (λ (b : Bool). KnowsAll nodes classes set b from) c.if-met.false c.requires.known in
    let below : (y : ℕ) → Contains c.args.members.now y → y < length nodes = λ y i. All-contains (λ m. m < length nodes) c.args.members.now y c.requires.below i in
    never_firm nodes c.args.from c.args.union c.args.members.now c.requires.there c.requires.members (c.are_bare.ensures c.if-not-are_bare.false) below
    (missed nodes classes c.requires.exact set from c.args.members.now below plain (c.knows_any.ensures c.if-knows_any.false))
    (not_led nodes classes c.requires.exact set c.args.met.now.union from c.args.union c.requires.there c.requires.known (sym c.knows.ensures ∙ untold c.knows.result apart))

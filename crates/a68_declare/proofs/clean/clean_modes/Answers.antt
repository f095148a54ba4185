use Rattle.std.proofs.Common.{length, arith, ap}
use Rattle.a68_declare.proofs.Cleaning.{cleans, new_formed, new_dims, new_fixed, new_twins}
use Rattle.a68_declare.proofs.clean.clean_modes.Goals as goal

pub blanks-requires-clause-few : goal.blanks-requires-clause-few
blanks-requires-clause-few c = let f = c.in_ok-numbering.ensures.few in let l = c.len-count.ensures.length in omega arith

pub add_blank-requires : goal.add_blank-requires
add_blank-requires c =
    let f = c.in_ok-numbering.ensures.few in
    let few = c.requires.few in
    let begun = ap length c.in_ok-new.ensures in
    let blanks = c.blanks.ensures in
    omega (arith, begun, blanks)

pub returns-clause-cleans : goal.returns-clause-cleans
returns-clause-cleans c =
    cleans c.args.modes.now c.set_all.new.new c.args.classes.now.of c.in_ok-numbering.numbering.to.items c.in_ok-numbering.numbering.firsts.items c.len-count.ensures.nodes c.requires.formed c.requires.full c.requires.exact
    c.in_ok-numbering.ensures c.len-new.ensures.nodes c.in_ok-set_all.ensures.long (λ j h l. c.in_ok-set_all.ensures.shapes.done j h l) (λ j h l. c.in_ok-set_all.ensures.shapes.rising j h l)

pub returns-clause-formed : goal.returns-clause-formed
returns-clause-formed c =
    new_formed c.args.modes.now c.set_all.new.new c.args.classes.now.of c.in_ok-numbering.numbering.to.items c.in_ok-numbering.numbering.firsts.items c.len-count.ensures.nodes c.requires.formed c.requires.full c.requires.exact
    c.in_ok-numbering.ensures c.len-new.ensures.nodes c.in_ok-set_all.ensures.long (λ j h l. c.in_ok-set_all.ensures.shapes.done j h l)

pub returns-clause-rows : goal.returns-clause-rows
returns-clause-rows c =
    new_dims c.args.modes.now c.set_all.new.new c.args.classes.now.of c.in_ok-numbering.numbering.to.items c.in_ok-numbering.numbering.firsts.items c.len-count.ensures.nodes c.requires.formed c.requires.full c.requires.exact
    c.in_ok-numbering.ensures c.len-new.ensures.nodes c.in_ok-set_all.ensures.long (λ j h l. c.in_ok-set_all.ensures.shapes.done j h l)

pub returns-clause-members : goal.returns-clause-members
returns-clause-members c =
    new_fixed c.args.modes.now c.set_all.new.new c.args.classes.now.of c.in_ok-numbering.numbering.to.items c.in_ok-numbering.numbering.firsts.items c.len-count.ensures.nodes c.requires.formed c.requires.full c.requires.exact
    c.in_ok-numbering.ensures c.len-new.ensures.nodes c.in_ok-set_all.ensures.long (λ j h l. c.in_ok-set_all.ensures.shapes.done j h l)

pub returns-clause-fixed : goal.returns-clause-fixed
returns-clause-fixed c =
    new_twins c.args.modes.now c.set_all.new.new c.args.classes.now.of c.in_ok-numbering.numbering.to.items c.in_ok-numbering.numbering.firsts.items c.len-count.ensures.nodes c.requires.formed c.requires.full c.requires.exact
    c.in_ok-numbering.ensures c.len-new.ensures.nodes c.in_ok-set_all.ensures.long (λ j h l. c.in_ok-set_all.ensures.shapes.done j h l) c.in_ok-fixed.fixed.items c.in_ok-fixed.ensures

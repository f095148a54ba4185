use Rattle.std.proofs.Common.{◌≡◌, ◌∙◌, length, arith, subst, ap}
use Rattle.a68_declare.proofs.Classing.{numbered_on, all_numbered}
use Rattle.a68_declare.specs.Numbering.{class_at, at_class, IsNumberOf, NodesAreNumbered}
use Rattle.a68_equiv.specs.Classes.{class_of}
use Rattle.a68_declare.proofs.numbering.number_all.Goals as goal

pub number_of-requires : goal.number_of-requires
number_of-requires c = let f = c.loop-id.invariant.few in omega arith

pub loop-id-preserved : goal.loop-id-preserved
loop-id-preserved c =
    let nodes = c.args.modes.now in
    let classes = c.args.classes.now.of in
    let i = c.loop-id.id in
    let class : c.class-class.result ≡ class_at classes i = c.class-class.ensures ∙ ap (class_of classes) c.as_it_stands.ensures in
    rw c.in_ok-push.ensures.items (numbered_on nodes classes c.len-id-end.ensures.nodes c.requires.exact i c.loop-id.table.entries c.loop-id.to.items c.loop-id.firsts.items c.loop-id.invariant
    c.number_of.new.table.entries c.number_of.new.firsts.items c.in_ok-number.number
    (subst (λ x. IsNumberOf c.loop-id.table.entries c.number_of.new.table.entries c.loop-id.firsts.items c.number_of.new.firsts.items x i c.in_ok-number.number (at_class c.loop-id.table.entries x)) class c.in_ok-number.ensures))

pub returns : goal.returns
returns c =
    let nodes = c.args.modes.now in
    let all : c.loop-id.id ≡ length nodes = omega arith in
    all_numbered nodes c.args.classes.now.of c.len-id-end.ensures.nodes c.requires.exact c.loop-id.table.entries c.loop-id.to.items c.loop-id.firsts.items
    (subst (λ k. NodesAreNumbered nodes c.args.classes.now.of k c.loop-id.table.entries c.loop-id.to.items c.loop-id.firsts.items) all c.loop-id.invariant)

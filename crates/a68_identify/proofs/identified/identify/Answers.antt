use Rattle.std.proofs.Common.{◌≡◌, List, Bor, length, sym, ap, Option}
use Rattle.std.specs.Option.{option_map_or}
use Rattle.std.specs.Prelude.{map}
use Rattle.a68_coerce.specs.declared.leaf.Leaf.{Leaf}
use Rattle.a68_identify.proofs.Answering.{declared_is, standard_is, none_is}
use Rattle.a68_identify.proofs.Pairing.{length_of_map}
use Rattle.a68_identify.proofs.Standing.{candidates_low}
use Rattle.a68_ranges.specs.Nodes.{name_at}
use Rattle.a68_tree.specs.declared.node.Node.{Node}
use Rattle.a68_identify.proofs.identified.identify.Goals as goal

pub returns-in-Some : goal.returns-in-Some
returns-in-Some c =
    let tree = c.args.tree.now in
    let lists = map (λ (o : Bor (List Leaf)). o.now) c.args.operands.now in
    let named : c.node.result.now.name ≡ name_at tree c.args.at = sym (ap (λ (o : Option Node). option_map_or (λ (n : Node). n.name) o 0) c.node.ensures.is) in
    declared_is tree c.args.modes.now c.args.of.now.of c.args.at c.node.result.now.name lists c.args.ranges.now c.requires.ranges c.requires.at named
    c.in_ok-definition.field-0 c.in_ok-definition.ensures c.in-Some.definition c.in-Some.is

pub first_standard-requires-clause-low : goal.first_standard-requires-clause-low
first_standard-requires-clause-low c = rw c.candidates-standard.ensures (candidates_low c.spelling.result.now (length c.args.operands.now))

pub returns-in-Some-2 : goal.returns-in-Some-2
returns-in-Some-2 c =
    let tree = c.args.tree.now in
    let f = λ (o : Bor (List Leaf)). o.now in
    let lists = map f c.args.operands.now in
    let named : c.node.result.now.name ≡ name_at tree c.args.at = sym (ap (λ (o : Option Node). option_map_or (λ (n : Node). n.name) o 0) c.node.ensures.is) in
    standard_is tree c.args.modes.now c.args.of.now.of c.args.at c.node.result.now.name lists c.args.ranges.now c.requires.ranges c.requires.at named
    c.in_ok-definition.field-0 c.in_ok-definition.ensures
    c.spelling.result.now (length c.args.operands.now) c.candidates-standard.result.now c.in_ok-operator.field-0 c.spelling.ensures (sym (length_of_map f c.args.operands.now))
    c.candidates-standard.ensures c.in_ok-operator.ensures c.in_default.is c.in-Some-2.operator c.in-Some-2.is

pub returns : goal.returns
returns c =
    let tree = c.args.tree.now in
    let f = λ (o : Bor (List Leaf)). o.now in
    let lists = map f c.args.operands.now in
    let named : c.node.result.now.name ≡ name_at tree c.args.at = sym (ap (λ (o : Option Node). option_map_or (λ (n : Node). n.name) o 0) c.node.ensures.is) in
    none_is tree c.args.modes.now c.args.of.now.of c.args.at c.node.result.now.name lists c.args.ranges.now c.requires.ranges c.requires.at named
    c.in_ok-definition.field-0 c.in_ok-definition.ensures
    c.spelling.result.now (length c.args.operands.now) c.candidates-standard.result.now c.in_ok-operator.field-0 c.spelling.ensures (sym (length_of_map f c.args.operands.now))
    c.candidates-standard.ensures c.in_ok-operator.ensures c.in_default.is c.in_default-2.is

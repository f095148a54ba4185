use Rattle.a68_declarers.proofs.There.{definition_there}
use Rattle.a68_declarers.proofs.shapes.word_shape.Goals as goal

pub parts-requires : goal.parts-requires
parts-requires c = definition_there c.args.tree.now _ _ _ _ (c.in-Some.ensures c.args.tree.now c.requires.ranges)

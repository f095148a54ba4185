use Rattle.a68_declarers.proofs.Shaping.{form_low, shape_within}
use Rattle.a68_declarers.specs.Declarers.{form_at}
use Rattle.a68_declarers.specs.Numbers.{number_at}
use Rattle.std.proofs.Common.{length}
use Rattle.a68_declarers.proofs.raw.set_one.Goals as goal

pub set-requires-clause-within : goal.set-requires-clause-within
set-requires-clause-within c =
    let tree = c.args.tree.now in
    let d = c.args.declarer in
    shape_within tree (number_at c.args.numbers.now) (length c.args.modes.now) d c.args.fixed (form_at tree d) c.in_ok-shape.shape (form_low tree d) c.requires.standard c.requires.within c.in_ok-shape.ensures

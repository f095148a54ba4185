use Rattle.std.proofs.Common.{◌∙◌, sym}
use Rattle.a68_declare.proofs.Rawing.{united_is}
use Rattle.a68_declarers.specs.Numbers.{number_at}
use Rattle.a68_declare.proofs.unions.is_wrong_union.Goals as goal

pub is_wrong-requires-clause-united : goal.is_wrong-requires-clause-united
is_wrong-requires-clause-united c =
    rw c.of.ensures (united_is c.args.tree.now c.args.modes.now (number_at c.args.numbers.now) c.args.id c.requires.declared (sym c.is_declarer.ensures ∙ c.if-not-is_declarer.false) (sym c.in-Union.ensures))

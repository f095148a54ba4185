use Rattle.std.proofs.Common.{◌<◌, ◌∙◌, sym, arith, length, eq-eqb}
use Rattle.std.proofs.lemmas.Map.Views.{exact_unsigned_eq}
use Rattle.a68_equiv.proofs.classes.Classes.are_same.Goals as goal

pub returns-clause-equivalent : goal.returns-clause-equivalent
returns-clause-equivalent c = λ nodes is.
    let long = is.long in
    let ha : c.args.a.id < length nodes = omega arith in
    let hb : c.args.b.id < length nodes = omega arith in (
      λ t. (is.exact c.args.a c.args.b ha hb).0 (sym c.class.ensures ∙ exact_unsigned_eq c.class.result c.class-2.result t ∙ c.class-2.ensures),
      λ e. eq-eqb c.class.result c.class-2.result (c.class.ensures ∙ (is.exact c.args.a c.args.b ha hb).1 e ∙ sym c.class-2.ensures),
    )

use Rattle.std.proofs.Common.{sym, ◌∙◌}
use Rattle.a68_builder.proofs.Knowing.{known_again, known_more}
use Rattle.a68_builder.proofs.labels.know.Goals as goal

pub returns-then-contains_key : goal.returns-then-contains_key
returns-then-contains_key c = λ pairs known. known_again pairs c.args.known.now.entries c.args.label c.args.number known (sym c.contains_key.ensures ∙ c.if-contains_key.true)

pub returns : goal.returns
returns c = λ pairs known. known_more pairs c.args.known.now.entries c.insert.new.self.entries c.args.label c.args.number known (sym c.contains_key.ensures ∙ c.if-contains_key.false) c.in_ok-insert.ensures.updates.0

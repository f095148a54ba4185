use Rattle.std.proofs.Common.{◌≡◌, rules, None}
use Rattle.a68_declare.proofs.Filling.{other_key}
use Rattle.a68_declare.specs.Numbering.{at_class}
use Rattle.a68_declare.proofs.numbering.number_of.Goals as goal

pub returns : goal.returns
returns c =
    let u = c.in_ok-insert.ensures.updates in
    let none : at_class c.args.table.now.entries c.args.class ≡ None = search rules in
    rw none (search rules, search rules, search rules, λ x h. u.2 x (other_key c.args.class x h))

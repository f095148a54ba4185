use Rattle.std.proofs.Common.{◌<◌, length, arith, false, true}
use Rattle.a68_declarers.proofs.Shaping.{last_holds}
use Rattle.a68_declarers.specs.Numbers.{number_at}
use Rattle.a68_declare.proofs.formed.is_ill_formed.Goals as goal

pub is_ill_mode-requires-clause-there : goal.is_ill_mode-requires-clause-there
is_ill_mode-requires-clause-there c =
    let n = length c.args.modes.now in
    let w = c.requires.within 0 false in
    rw c.last_mode-as_it_stands.ensures (last_holds (λ m. m < n) (omega arith) (λ e. number_at c.args.numbers.now e false) c.parts.result.now (λ e i. c.requires.within e false))

pub is_ill_mode-requires-2-clause-there : goal.is_ill_mode-requires-2-clause-there
is_ill_mode-requires-2-clause-there c =
    let n = length c.args.modes.now in
    let w = c.requires.within 0 false in
    rw c.last_mode-without_flex.ensures (last_holds (λ m. m < n) (omega arith) (λ e. number_at c.args.numbers.now e true) c.parts-2.result.now (λ e i. c.requires.within e true))

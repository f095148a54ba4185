use Rattle.a68_gen.proofs.Fitting.{apart-fit, asked-fits}
use Rattle.a68_gen.proofs.Refusing.{refused-so}
use Rattle.std.specs.Prelude.{false}
use Rattle.a68_gen.proofs.translate.generate.Goals as goal

pub code_of-requires-clause-fits : goal.code_of-requires-clause-fits
code_of-requires-clause-fits c = (asked-fits c.args.program.now c.look_at_all.ensures.there c.look_at_all.ensures.nodes false 0).fits

pub code_of-requires-clause-modes : goal.code_of-requires-clause-modes
code_of-requires-clause-modes c = (asked-fits c.args.program.now c.look_at_all.ensures.there c.look_at_all.ensures.nodes false 0).operands

pub code_of-requires-clause-apart : goal.code_of-requires-clause-apart
code_of-requires-clause-apart c = (apart-fit c.args.program.now c.look_at_all.ensures.there c.look_at_all.ensures.nodes).fits

pub code_of-requires-clause-apart_modes : goal.code_of-requires-clause-apart_modes
code_of-requires-clause-apart_modes c = (apart-fit c.args.program.now c.look_at_all.ensures.there c.look_at_all.ensures.nodes).operands

pub returns-clause-refused : goal.returns-clause-refused
returns-clause-refused c = refused-so c.args.program.now c.code_of.result c.code_of.ensures.too_long

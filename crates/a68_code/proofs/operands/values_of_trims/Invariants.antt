use Rattle.std.proofs.Common.{◌≡◌, ◌+◌, drop}
use Rattle.a68_code.specs.Flow.{values_of_trims}
use Rattle.a68_code.proofs.operands.values_of_trims.Given as goal

abbrev pub invariant-loop-form : goal.invariant-loop-form
invariant-loop-form l = l.units + values_of_trims (drop l.form-index l.forms) ≡ values_of_trims l.forms

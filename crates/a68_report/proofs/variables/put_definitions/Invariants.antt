use Rattle.std.proofs.Common.{◌≡◌, ◌++◌, drop}
use Rattle.a68_report.specs.Variables.{definition_lines}
use Rattle.a68_report.proofs.variables.put_definitions.Given as goal

abbrev pub invariant-loop-id : goal.invariant-loop-id
invariant-loop-id l = l.text ++ definition_lines l.program l.kept (drop l.id-index l.ids) ≡ l.fn.text ++ definition_lines l.program l.kept l.ids

use Rattle.std.proofs.Common.{◌≡◌, ◌++◌, drop}
use Rattle.a68_ranges.specs.Definitions.{unjoined}
use Rattle.a68_report.specs.Variables.{definition_lines}
use Rattle.a68_report.proofs.variables.put_phrases.Given as goal

abbrev pub invariant-loop-phrase : goal.invariant-loop-phrase
invariant-loop-phrase l = l.text ++ definition_lines l.program l.kept (unjoined l.program.tree (drop l.phrase-index l.phrases)) ≡ l.fn.text ++ definition_lines l.program l.kept (unjoined l.program.tree l.phrases)

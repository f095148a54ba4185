use Rattle.std.proofs.Common.{◌≡◌, ◌++◌, drop}
use Rattle.a68_elab.specs.Made.{forms_of}
use Rattle.a68_emit.proofs.single.add_forms.Given as goal

-- with the rest of them, all are there
abbrev pub invariant-loop-id : goal.invariant-loop-id
invariant-loop-id l = l.forms.items ++ forms_of l.program (drop l.id-index l.ids) ≡ l.initial.forms.items ++ forms_of l.program l.ids

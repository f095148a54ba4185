use Rattle.std.proofs.Common.{◌≡◌, ◌++◌, drop}
use Rattle.a68_report.specs.Listing.{forms_text}
use Rattle.a68_report.proofs.listing.put_forms.Given as goal

abbrev pub invariant-loop-form : goal.invariant-loop-form
invariant-loop-form l = l.text ++ forms_text (drop l.form-index l.forms) ≡ l.fn.text ++ forms_text l.forms

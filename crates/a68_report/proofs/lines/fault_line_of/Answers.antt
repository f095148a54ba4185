use Rattle.std.proofs.Common.{◌∙◌, ap, ◌++◌, ◌∷◌, List, [], ℕ}
use Rattle.std.specs.Fmt.{decimal}
use Rattle.std.specs.Prelude.{codes}
use Rattle.a68_report.specs.Lines.{fault_name}
use Rattle.a68_report.proofs.Lined.{fault_bytes}
use Rattle.a68_report.proofs.lines.fault_line_of.Goals as goal

pub returns : goal.returns
returns c = ap (λ v. v.items) c.into_bytes.ensures.value ∙ c.in_ok-line.ensures.ok
    ∙ ap (λ (n : List ℕ). codes "a68: fault " ++ (n ++ (codes " at byte " ++ (decimal c.args.place ++ 10 ∷ [])))) c.fault_name_of-name.ensures
    ∙ fault_bytes (fault_name c.args.kind) (decimal c.args.place)

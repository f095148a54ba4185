use Rattle.std.proofs.Common.{◌∙◌, ap, List, ℕ, slice_get}
use Rattle.std.specs.Option.{option_and_then}
use Rattle.a68_ranges.proofs.Looking.{priority_is}
use Rattle.a68_ranges.specs.Tables.{priority_or}
use Rattle.a68_ranges.specs.declared.standard.Standard.{Standard}
use Rattle.a68_ranges.proofs.tables.Ranges.priority.Goals as goal

pub returns : goal.returns
returns c = λ tree are.
    priority_is tree _ c.args.at c.args.name c.find-found.result c.standard_priority.result c.priority_or.result (rw (← c.self.view_is) at are) (rw (← c.self.view_is) at c.requires) (c.find-found.ensures _ c.self.invariant.1.1)
    (c.standard_priority.ensures ∙ ap (λ (ss : List Standard). option_and_then (λ (s : Standard). s.priority) (slice_get ss c.args.name)) c.deref-2.ensures.value)
    (c.priority_or.ensures ∙ ap (λ (ws : List ℕ). priority_or c.find-found.result ws c.standard_priority.result) c.deref.ensures.value)

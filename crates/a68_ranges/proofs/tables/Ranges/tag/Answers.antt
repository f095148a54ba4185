use Rattle.std.proofs.Common.{◌∙◌, ap, List, slice_get}
use Rattle.std.specs.Option.{option_and_then}
use Rattle.a68_ranges.proofs.Looking.{tag_is}
use Rattle.a68_ranges.specs.declared.standard.Standard.{Standard}
use Rattle.a68_ranges.proofs.tables.Ranges.tag.Goals as goal

pub returns : goal.returns
returns c = λ tree are.
    let o = c.tag_or.ensures in
    tag_is tree _ c.args.at c.args.name c.find-found.result c.standard_tag.result c.tag_or.result (rw (← c.self.view_is) at are) (rw (← c.self.view_is) at c.requires) (c.find-found.ensures _ c.self.invariant.0)
    (c.standard_tag.ensures ∙ ap (λ (ss : List Standard). option_and_then (λ (s : Standard). s.tag) (slice_get ss c.args.name)) c.deref.ensures.value)
    o.found o.nowhere o.standard

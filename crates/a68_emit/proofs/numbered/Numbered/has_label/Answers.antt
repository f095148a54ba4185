use Rattle.std.proofs.Common.{ap, ◌∙◌}
use Rattle.a68_annot.specs.declared.annotated.Annotated.{Annotated}
use Rattle.a68_elab.specs.Made.{parts_at}
use Rattle.a68_elab.specs.Trees.{is_label_in}
use Rattle.a68_emit.specs.Seats.{labels_among}
use Rattle.a68_emit.proofs.numbered.Numbered.has_label.Goals as goal

pub returns : goal.returns
returns c =
    c.contains.ensures ∙ c.self.invariant.2 c.args.clause c.args.label
    ∙ ap (λ (x : Annotated). is_label_in c.args.label (labels_among x (parts_at x c.args.clause))) c.self.view_is

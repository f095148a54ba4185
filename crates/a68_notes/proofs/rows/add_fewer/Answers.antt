use Rattle.std.proofs.Common.{◌∙◌, ap, length, sym, subst}
use Rattle.a68_modes.specs.Nodes.{ShapeIsWithin}
use Rattle.a68_modes.specs.declared.shape.Shape.{Shape}
use Rattle.a68_notes.proofs.Rowing.{element_within, fewer_some}
use Rattle.a68_notes.specs.Rows.{with_fewer}
use Rattle.a68_notes.proofs.rows.add_fewer.Goals as goal

pub add_rows_to-requires-clause-of : goal.add_rows_to-requires-clause-of
add_rows_to-requires-clause-of c =
    element_within (length c.args.modes.now) c.shape.result.now c.in-Some.most c.in-Some.of
    (subst (λ (s : Shape). ShapeIsWithin (length c.args.modes.now) s) (sym c.shape.ensures.shape) (c.shape.ensures.nodes.within c.args.mode c.requires.there))
    (sym c.fewer_of.ensures ∙ c.in-Some.is)

pub returns-in_ok-add_rows_to-in-Some-clause-added : goal.returns-in_ok-add_rows_to-in-Some-clause-added
returns-in_ok-add_rows_to-in-Some-clause-added c =
    c.in_ok-add_rows_to-in-Some.ensures.added ∙ fewer_some c.args.modes.now c.shape.result.now c.in-Some.most c.in-Some.of (sym c.fewer_of.ensures ∙ c.in-Some.is)
    ∙ ap (with_fewer c.args.modes.now) c.shape.ensures.shape

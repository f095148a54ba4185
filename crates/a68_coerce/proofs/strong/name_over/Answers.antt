use Rattle.std.proofs.Common.{◌≡◌, ◌∙◌, sym, ap, Bool, false}
use Rattle.a68_modes.specs.Nodes.{shape_at}
use Rattle.a68_modes.specs.declared.shape.Shape.TheVariants.{Rows}
use Rattle.a68_equiv.specs.Unfolding.{unfolded}
use Rattle.a68_coerce.proofs.Orders.{name_of_mode, none_named, named_goal_below, same_name}
use Rattle.a68_coerce.proofs.Depth.{dimensions}
use Rattle.a68_coerce.proofs.Walking.{ref_below, row_below}
use Rattle.a68_coerce.proofs.strong.name_over.Goals as goal

pub behind-requires-2 : goal.behind-requires-2
behind-requires-2 c = ref_below c.args.modes.now c.shape.ensures.nodes c.behind.result c.in-Ref.a c.behind.ensures.there (sym c.shape.ensures.shape ∙ c.in-Ref.is)

pub returns-in_default-shape : goal.returns-in_default-shape
returns-in_default-shape c =
    let is = c.shape.ensures.shape ∙ ap (shape_at c.args.modes.now) c.behind.ensures.node in
    record { over = none_named c.args.modes.now c.args.goal c.in-Mode.n c.in-Mode.is (λ a d e r s. c.in_default-shape.not-Ref a (is ∙ r)); below = tt }

pub returns-in_default-shape-2 : goal.returns-in_default-shape-2
returns-in_default-shape-2 c =
    let nodes = c.args.modes.now in
    let is = sym (c.shape.ensures.shape ∙ ap (shape_at nodes) c.behind.ensures.node) ∙ c.in-Ref.is in
    let row = c.shape-2.ensures.shape ∙ ap (shape_at nodes) c.behind-2.ensures.node in
    record { over = none_named nodes c.args.goal c.in-Mode.n c.in-Mode.is (λ a d e r s. c.in_default-shape-2.not-Rows d false e (row ∙ ap (unfolded nodes) (same_name (sym is ∙ r)) ∙ s)); below = tt }

pub returns-clause-over : goal.returns-clause-over
returns-clause-over c =
    let nodes = c.args.modes.now in
    let is = sym (c.shape.ensures.shape ∙ ap (shape_at nodes) c.behind.ensures.node) ∙ c.in-Ref.is in
    let row : unfolded nodes c.in-Ref.a ≡ Rows c.in-Rows.dims false c.in-Rows.of = sym (c.shape-2.ensures.shape ∙ ap (shape_at nodes) c.behind-2.ensures.node) ∙ c.in-Rows.is ∙ ap (λ (f : Bool). Rows c.in-Rows.dims f c.in-Rows.of) c.if-flex.false in
    rw (c.name_of_fewer.ensures, c.as_it_stands.ensures) (name_of_mode nodes c.args.goal c.in-Mode.n c.in-Ref.a c.in-Rows.dims c.in-Rows.of c.in-Mode.is is row)

pub returns-clause-below : goal.returns-clause-below
returns-clause-below c =
    let nodes = c.args.modes.now in
    let is = sym c.shape-2.ensures.shape ∙ c.in-Rows.is in
    let lt = row_below nodes c.shape-2.ensures.nodes c.behind-2.result c.in-Rows.dims c.in-Rows.of c.in-Rows.flex c.behind-2.ensures.there is in
    rw (c.name_of_fewer.ensures, c.as_it_stands.ensures) (named_goal_below _ c.in-Rows.dims _ lt (dimensions nodes c.requires.rows c.behind-2.result c.in-Rows.dims c.in-Rows.of c.in-Rows.flex is).0)

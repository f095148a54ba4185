use Rattle.std.proofs.Common.{◌∙◌, sym, ap}
use Rattle.a68_modes.specs.Nodes.{shape_at}
use Rattle.a68_coerce.proofs.Orders.{over_mode, over_row, none_over, neither_over, row_goal_below}
use Rattle.a68_coerce.proofs.Depth.{less_deep, dimensions}
use Rattle.a68_coerce.proofs.Walking.{row_below}
use Rattle.a68_coerce.proofs.strong.row_over.Goals as goal

pub returns-in-Rows-clause-over : goal.returns-in-Rows-clause-over
returns-in-Rows-clause-over c =
    let is = sym (c.shape.ensures.shape ∙ ap (shape_at c.args.modes.now) c.behind.ensures.node) ∙ c.in-Rows.is in
    rw (c.fewer.ensures, c.left.ensures) (over_mode c.args.modes.now c.args.goal c.in-Mode.n c.in-Rows.dims c.in-Rows.of c.in-Rows.flex c.in-Mode.is is)

pub returns-in-Rows-clause-below : goal.returns-in-Rows-clause-below
returns-in-Rows-clause-below c =
    let nodes = c.args.modes.now in
    let is = sym c.shape.ensures.shape ∙ c.in-Rows.is in
    let lt = row_below nodes c.shape.ensures.nodes c.behind.result c.in-Rows.dims c.in-Rows.of c.in-Rows.flex c.behind.ensures.there is in
    rw c.fewer.ensures (row_goal_below _ c.in-Rows.dims _ _ lt (dimensions nodes c.requires.rows c.behind.result c.in-Rows.dims c.in-Rows.of c.in-Rows.flex is).0)

pub returns-in-Rows-clause-deep : goal.returns-in-Rows-clause-deep
returns-in-Rows-clause-deep c =
    let nodes = c.args.modes.now in
    let is = sym c.shape.ensures.shape ∙ c.in-Rows.is in
    let whole = sym (c.shape.ensures.shape ∙ ap (shape_at c.args.modes.now) c.behind.ensures.node) ∙ c.in-Rows.is in
    let lt = row_below nodes c.shape.ensures.nodes c.behind.result c.in-Rows.dims c.in-Rows.of c.in-Rows.flex c.behind.ensures.there is in
    rw (c.fewer.ensures, c.in-Mode.is, whole) (less_deep nodes c.shape.ensures.nodes c.requires.formed c.requires.rows c.in-Rows.dims _ _ lt (dimensions nodes c.requires.rows c.behind.result c.in-Rows.dims c.in-Rows.of c.in-Rows.flex is).0)

pub returns-in_default-shape : goal.returns-in_default-shape
returns-in_default-shape c =
    let is = c.shape.ensures.shape ∙ ap (shape_at c.args.modes.now) c.behind.ensures.node in
    record { over = none_over c.args.modes.now c.args.goal c.in-Mode.n c.in-Mode.is (λ d f e r. c.in_default-shape.not-Rows d f e (is ∙ r)); below = tt; deep = tt }

pub returns-in-Row-clause-over : goal.returns-in-Row-clause-over
returns-in-Row-clause-over c = rw c.fewer-in-Row.ensures (over_row c.args.modes.now c.args.goal c.in-Row.dims c.in-Row.flex c.in-Row.of c.in-Row.is)

pub returns-in-Row-clause-deep : goal.returns-in-Row-clause-deep
returns-in-Row-clause-deep c =
    let below = rw c.in-Row.is at c.requires.goal in
    rw (c.fewer-in-Row.ensures, c.in-Row.is) (less_deep c.args.modes.now c.requires.nodes c.requires.formed c.requires.rows c.in-Row.dims c.in-Row.flex c.in-Row.of below.0 below.1)

pub returns-in_default-clause-over : goal.returns-in_default-clause-over
returns-in_default-clause-over c = neither_over c.args.modes.now c.args.goal c.in_default.not-Mode c.in_default.not-Row

use Rattle.std.proofs.Common.{sym, ◌∙◌}
use Rattle.a68_layout.proofs.Seen.{within}
use Rattle.a68_layout.proofs.views.cells_seen.Goals as goal

pub returns-clause-room : goal.returns-clause-room
returns-clause-room c =
    let all = within c.args.descriptor.now c.args.width (sym c.is_beyond.ensures ∙ c.if-is_beyond.false) in
    rw (c.in_ok-cells.ensures, c.as_slice.ensures) all

use Rattle.std.proofs.Common.{◌∙◌, arith}
use Rattle.a68_layout.proofs.Spreads.{none_there}
use Rattle.a68_layout.proofs.views.all_cells.Goals as goal

pub returns-then-count-eq0 : goal.returns-then-count-eq0
returns-then-count-eq0 c = c.new.ensures.items ∙ none_there c.args.dims.now c.args.base (omega arith)

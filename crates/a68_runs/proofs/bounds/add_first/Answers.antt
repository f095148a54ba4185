use Rattle.std.proofs.Common.{refl, sym, ◌∙◌}
use Rattle.a68_runs.proofs.Listing.{first_is}
use Rattle.a68_runs.proofs.bounds.add_first.Goals as goal

pub returns-in_ok-add_bounds : goal.returns-in_ok-add_bounds
returns-in_ok-add_bounds c =
    first_is c.args.program.now c.args.parts.now _ c.len-depth.result c.args.bounds.now.items c.add_bounds.new.bounds.items c.if-parts-gt0.true refl c.len-depth.ensures
    (sym c.is_declarer.ensures ∙ c.if-is_declarer.true) c.requires c.in_ok-add_bounds.ensures

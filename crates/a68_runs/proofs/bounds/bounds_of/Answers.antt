use Rattle.std.proofs.Common.{ℕ, sym, ◌∙◌, ap, take}
use Rattle.a68_runs.proofs.Listing.{most_is}
use Rattle.a68_runs.proofs.bounds.bounds_of.Goals as goal

pub returns : goal.returns
returns c = c.truncate.ensures.items ∙ ap (λ (n : ℕ). take n c.add_first.new.bounds.items) (sym most_is) ∙ c.in_ok-add_first.ensures

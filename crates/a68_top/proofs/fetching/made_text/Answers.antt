use Rattle.std.proofs.Common.{◌∙◌, ap, take}
use Rattle.a68_top.proofs.Told.{fits}
use Rattle.a68_top.proofs.fetching.made_text.Goals as goal

pub returns-clause-text : goal.returns-clause-text
returns-clause-text c = c.cut.ensures ∙ ap (take 1048577) c.in_ok-text.ensures

pub returns-clause-length : goal.returns-clause-length
returns-clause-length c = rw c.cut.ensures (fits _ _)

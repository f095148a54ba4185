use Rattle.std.proofs.Common.{subst}
use Rattle.a68_rests.specs.Resting.{Closes, Resting}
use Rattle.a68_rests.proofs.rests.Rests.close.Goals as goal

pub returns : goal.returns
returns c = subst (λ (r : Resting). Closes r c.args.cell (c.self.inside.listed, (c.self.inside.held, c.shut.new.cells.items))) c.self.view_is (record { fewer = λ k h. h; held = λ k cell h. h; open_ = c.shut.ensures })

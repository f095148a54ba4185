use Rattle.std.proofs.Common.{◌≡◌, ◌<◌, ℕ, false, get_or}
use Rattle.a68_modes.specs.Nodes.{shape_at}
use Rattle.a68_equiv.specs.Unfolding.{leads_within}
use Rattle.a68_identify.proofs.apart.are_bare.Given as goal

abbrev pub invariant-loop-member : goal.invariant-loop-member
invariant-loop-member l = (k : ℕ) → k < l.member-index → leads_within (shape_at l.modes (get_or l.members k 0)) ≡ false

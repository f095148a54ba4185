use Rattle.std.proofs.Common.{◌≡◌, drop}
use Rattle.a68_layout.specs.Views.{parts_at}
use Rattle.a68_layout.proofs.Picks.{with_front}
use Rattle.a68_layout.proofs.picking.parts_at.Given as goal

abbrev pub invariant-loop-place : goal.invariant-loop-place
invariant-loop-place l = with_front l.picked.items (parts_at l.parts (drop l.place-index l.places)) ≡ parts_at l.parts l.places

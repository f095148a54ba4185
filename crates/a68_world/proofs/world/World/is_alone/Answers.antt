use Rattle.std.proofs.Common.{◌≡◌, length, subst, arith, MatchBool}
use Rattle.a68_world.specs.Passed.{StandsAlone}
use Rattle.a68_world.proofs.GoingAlone.{others_closed, stands_alone}
use Rattle.a68_world.proofs.world.World.is_alone.Goals as goal

pub returns : goal.returns
returns c =
    let s = c.self.inside in
    let long : c.len.result ≡ length s.seats.items = omega (arith, c.len.ensures, s.seats.ok.0) in
    λ is. rw (← c.self.view_is) (others_closed s c.self.invariant
    (stands_alone s c.is_alone.result (subst (λ n. MatchBool c.is_alone.result (StandsAlone s.passed n) (n ≡ 1 → ⊥)) long c.is_alone.ensures) is))

use Rattle.std.proofs.Common.{refl, sym, ◌∙◌, ap, inl}
use Rattle.a68_world.specs.Run.{Run, world}
use Rattle.a68_world.specs.Seats.{turn_shown}
use Rattle.a68_world.proofs.world.World.act.Goals as goal

pub returns-in-Some : goal.returns-in-Some
returns-in-Some c = inl (record { end = ap (λ (r : Run). r.end) (sym c.self.view_is) ∙ c.in-Some.is; after = refl })

pub act_ready-requires-clause-turn : goal.act_ready-requires-clause-turn
act_ready-requires-clause-turn c =
    let s = c.self.inside in
    let ask = c.args.strand.now.about.ask in
    sym (ap (turn_shown ask) c.self.invariant.store ∙ ap (λ (r : Run). turn_shown ask (world r).store) c.self.view_is) ∙ ap (λ a. turn_shown a s.store) (sym c.ask.ensures) ∙ sym c.turn_shown.ensures ∙ c.if-not-turn_shown.false

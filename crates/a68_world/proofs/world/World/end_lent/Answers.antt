use Rattle.std.proofs.Common.{refl, inr, sym, subst, ◌∙◌, ap}
use Rattle.a68_world.specs.Inside.{run_of}
use Rattle.a68_world.specs.Leases.{IsHeld}
use Rattle.a68_world.specs.Run.{Run, world}
use Rattle.a68_world.specs.Seats.{turn_shown}
use Rattle.a68_world.specs.Turns.{EndsAt, GoesOn}
use Rattle.a68_world.proofs.LentActs.{ended_sound, ready_lent}
use Rattle.a68_world.proofs.world.World.end_lent.Goals as goal

pub invariant_of-self : goal.invariant_of-self
invariant_of-self c =
    let s = c.self.inside in
    ended_sound s c.self.invariant c.args.strand.now.number c.args.end (subst (λ (r : Run). GoesOn r) (sym c.self.view_is) c.requires.goes_on)
    (subst (λ (r : Run). EndsAt r c.args.strand.now.number c.args.end) (sym c.self.view_is) c.requires.ends)

pub returns : goal.returns
returns c =
    let s = c.self.inside in
    let held : IsHeld (run_of s) c.args.strand.now = subst (λ (r : Run). IsHeld r c.args.strand.now) (sym c.self.view_is) c.requires.held in
    let turn = ap (turn_shown c.args.strand.now.about.ask) c.self.invariant.store ∙ ap (λ (r : Run). turn_shown c.args.strand.now.about.ask (world r).store) c.self.view_is ∙ c.requires.turn in
    rw (← c.self.view_is) (inr (record {
      goes_on = subst (λ (r : Run). GoesOn r) (sym c.self.view_is) c.requires.goes_on;
      ready = ready_lent s c.self.invariant c.args.strand.now held turn;
      ends = subst (λ (r : Run). EndsAt r c.args.strand.now.number c.args.end) (sym c.self.view_is) c.requires.ends;
      after = refl;
    }))

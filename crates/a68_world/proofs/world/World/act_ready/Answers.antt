use Rattle.std.proofs.Common.{sym, subst, ◌∙◌, ap}
use Rattle.a68_world.specs.Ending.{end_asked}
use Rattle.a68_world.specs.Inside.{run_of}
use Rattle.a68_world.specs.Leases.{IsHeld}
use Rattle.a68_world.specs.Run.{Run, world}
use Rattle.a68_world.specs.Seats.{turn_shown}
use Rattle.a68_world.specs.Turns.{GoesOn}
use Rattle.a68_world.proofs.LentActs.{chosen_end, chosen_due, lent_ends}
use Rattle.a68_world.proofs.world.World.act_ready.Goals as goal

pub end_lent-requires-clause-ends : goal.end_lent-requires-clause-ends
end_lent-requires-clause-ends c =
    let s = c.self.inside in
    let strand = c.args.strand.now in
    let held : IsHeld (run_of s) strand = subst (λ (r : Run). IsHeld r strand) (sym c.self.view_is) c.requires.held in
    let goes : GoesOn (run_of s) = subst (λ (r : Run). GoesOn r) (sym c.self.view_is) c.requires.goes_on in
    let turn = ap (turn_shown strand.about.ask) c.self.invariant.store ∙ ap (λ (r : Run). turn_shown strand.about.ask (world r).store) c.self.view_is ∙ c.requires.turn in
    rw (← c.self.view_is) (chosen_end s strand (end_asked strand.about.ask strand.place s.store c.is_full-full.result strand.number) c.in-Some.end
    (lent_ends s c.self.invariant strand held goes turn c.is_full-full.result c.is_full-full.ensures) (sym (ap (end_asked strand.about.ask strand.place s.store c.is_full-full.result) c.number.ensures) ∙ sym c.end_asked.ensures ∙ c.in-Some.is))

pub act_due-requires-clause-due : goal.act_due-requires-clause-due
act_due-requires-clause-due c =
    let s = c.self.inside in
    let strand = c.args.strand.now in
    let held : IsHeld (run_of s) strand = subst (λ (r : Run). IsHeld r strand) (sym c.self.view_is) c.requires.held in
    let goes : GoesOn (run_of s) = subst (λ (r : Run). GoesOn r) (sym c.self.view_is) c.requires.goes_on in
    let turn = ap (turn_shown strand.about.ask) c.self.invariant.store ∙ ap (λ (r : Run). turn_shown strand.about.ask (world r).store) c.self.view_is ∙ c.requires.turn in
    rw (← c.self.view_is) (chosen_due s strand (end_asked strand.about.ask strand.place s.store c.is_full-full.result strand.number)
    (lent_ends s c.self.invariant strand held goes turn c.is_full-full.result c.is_full-full.ensures) (sym (ap (end_asked strand.about.ask strand.place s.store c.is_full-full.result) c.number.ensures) ∙ sym c.end_asked.ensures ∙ c.in-None.is))

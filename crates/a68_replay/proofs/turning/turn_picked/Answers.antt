use Rattle.std.proofs.Common.{sym, ◌∙◌}
use Rattle.a68_replay.proofs.Picking.{goes_on, has_ended, none_unready, picked_by_act, picked_by_end}
use Rattle.a68_replay.proofs.turning.turn_picked.Goals as goal

pub returns-then-is_some : goal.returns-then-is_some
returns-then-is_some c =
    has_ended c.args.world.now c.args.strand c.end.result c.code-known.ensures.known c.requires.fuel c.end.ensures (sym c.is_some.ensures ∙ c.if-is_some.true)

pub returns-in-Acted : goal.returns-in-Acted
returns-in-Acted c = picked_by_act c.args.world.now c.turn.new.self c.args.strand c.requires.home c.in-Acted.ensures

pub returns-in-Over : goal.returns-in-Over
returns-in-Over c =
    picked_by_end c.args.world.now c.args.strand c.requires.fuel c.turn.new.self c.in-Over.field-0 c.requires.home (goes_on c.args.world.now c.end.result c.end.ensures (sym c.is_some.ensures ∙ c.if-is_some.false)) c.in-Over.ensures

pub returns-in-NotReady : goal.returns-in-NotReady
returns-in-NotReady c = none_unready c.args.world.now c.turn.new.self c.args.strand c.code-known.ensures.known c.requires.home c.in-NotReady.ensures

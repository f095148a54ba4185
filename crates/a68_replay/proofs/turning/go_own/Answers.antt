use Rattle.std.proofs.Common.{max, ap, sym, ◌∙◌}
use Rattle.a68_replay.proofs.Picking.{goes_own}
use Rattle.a68_replay.proofs.turning.go_own.Goals as goal

pub returns : goal.returns
returns c =
    goes_own c.args.world.now c.go_alone_to.new.self c.args.at c.args.until c.max.result c.requires.home c.requires.count c.requires.within.0 (c.max.ensures ∙ ap (max c.args.at) c.events.ensures) (sym c.lost.ensures ∙ c.if-lost.false)
    c.go_alone_to.ensures.within c.in_ok-go_alone_to.ensures.alone

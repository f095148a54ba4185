use Rattle.std.proofs.Common.{ap, sym, ◌∙◌}
use Rattle.a68_replay.proofs.Picking.{has_run, has_stopped_short}
use Rattle.a68_world.specs.Run.{Run}
use Rattle.a68_replay.proofs.turning.finished.Goals as goal

pub returns-in_ok-code-in-Err : goal.returns-in_ok-code-in-Err
returns-in_ok-code-in-Err c =
    has_stopped_short c.args.world c.in_ok-code-in-Err.code c.args.picks c.code-known.ensures.known c.requires.home (sym c.lost.ensures ∙ c.if-lost.false) c.in-Err.ensures.0 (c.in_ok-code-in-Err.ensures ∙ ap (λ (r : Run). r.code) c.in-Err.ensures.1) c.requires.count

pub returns-in-Ok : goal.returns-in-Ok
returns-in-Ok c = has_run c.args.world c.in-Ok.code c.in-Ok.kept c.requires.fuel c.in-Ok.ensures

use Rattle.std.proofs.Common.{◌≡◌, ◌<◌, length, arith}
use Rattle.a68_notes.proofs.Rowing.{all_added, mode_more, none_added}
use Rattle.a68_notes.proofs.rows.add_all.Goals as goal

pub loop-mode-init : goal.loop-mode-init
loop-mode-init c = none_added c.args.modes.now c.args.known.now.keys c.requires

pub loop-mode-preserved : goal.loop-mode-preserved
loop-mode-preserved c =
    let lt : c.loop-mode.mode < length c.args.modes.now = (let w = c.len-mode-end.ensures.length in let t = c.loop-mode-test.true in omega arith) in
    mode_more c.args.modes.now c.loop-mode.mode c.loop-mode.modes _ c.loop-mode.known.keys _ lt c.loop-mode.invariant c.in_ok-add_fewer.ensures.known c.in_ok-add_fewer.ensures.added

pub returns : goal.returns
returns c =
    let all : c.loop-mode.mode ≡ length c.args.modes.now = (let w = c.len-mode-end.ensures.length in let t = c.loop-mode-test.false in omega arith) in
    all_added c.args.modes.now c.loop-mode.mode c.loop-mode.modes c.loop-mode.known.keys all c.loop-mode.invariant

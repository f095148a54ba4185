use Rattle.std.proofs.Common.{◌≡◌, ◌<◌, length, arith}
use Rattle.std.proofs.Math.Seq.{take-length}
use Rattle.a68_notes.proofs.Rowing.{known_next, none_known}
use Rattle.a68_notes.proofs.rows.note_rows.Goals as goal

pub loop-mode-init : goal.loop-mode-init
loop-mode-init c = none_known c.args.known.now.keys c.requires

pub loop-mode-preserved : goal.loop-mode-preserved
loop-mode-preserved c =
    let lt : c.loop-mode.mode < length c.args.modes.now = (let w = c.len-mode-end.ensures.length in let t = c.loop-mode-test.true in omega arith) in
    known_next c.args.modes.now c.loop-mode.mode c.loop-mode.known.keys _ c.shape.result.now lt c.shape.ensures.shape c.loop-mode.invariant c.in_ok-note_row.ensures

pub returns : goal.returns
returns c =
    let all : c.loop-mode.mode ≡ length c.args.modes.now = (let w = c.len-mode-end.ensures.length in let t = c.loop-mode-test.false in omega arith) in
    rw (all, take-length) at c.loop-mode.invariant

use Rattle.std.proofs.Common.{◌<◌, ◌≡◌, ◌*◌, refl, arith, length, subst}
use Rattle.a68_equiv.specs.Graph.{HasCode}
use Rattle.a68_partition.specs.Rounds.{at_key, SoFar}
use Rattle.a68_partition.proofs.Numbering.{more}
use Rattle.a68_equiv.proofs.Graphing.{head_below, mode_there, has_code}
use Rattle.a68_equiv.proofs.graph.number_constructors.Goals as goal

pub shape-shape-requires : goal.shape-shape-requires
shape-shape-requires c =
    let lt : c.loop-i.i < 2 * length c.args.modes.now = omega arith in
    head_below c.args.modes.now c.args.behind.now c.len-i-end.ensures.nodes c.requires.behind c.mode_at-mode.result.id (mode_there c.args.modes.now c.loop-i.i c.mode_at-mode.result c.mode_at-mode.ensures lt)

pub loop-i-preserved : goal.loop-i-preserved
loop-i-preserved c =
    let nodes = c.args.modes.now in
    let lt : c.loop-i.i < 2 * length nodes = omega arith in
    let key = c.in_ok-key.key in
    let has = has_code nodes c.args.behind.now c.requires.behind c.loop-i.i c.mode_at-mode.result c.shape-shape.result.now key.items c.mode_at-mode.ensures (mode_there nodes c.loop-i.i c.mode_at-mode.result c.mode_at-mode.ensures lt) c.shape-shape.ensures.shape c.in_ok-key.ensures in
    rw c.in_ok-push.ensures.items (more (HasCode nodes) c.loop-i.table.entries c.numbered.new.table.entries c.loop-i.heads.items c.loop-i.i c.in_ok-head.head key c.loop-i.invariant has c.in_ok-head.ensures.here c.in_ok-head.ensures.others (at_key c.loop-i.table.entries key.items) refl c.in_ok-head.ensures.number)

pub returns : goal.returns
returns c =
    let all : c.loop-i.i ≡ 2 * length c.args.modes.now = omega arith in
    subst (SoFar (HasCode c.args.modes.now) c.loop-i.table.entries c.loop-i.heads.items) all c.loop-i.invariant

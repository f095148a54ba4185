use Rattle.std.proofs.Common.{ap, arith}
use Rattle.std.proofs.lemmas.List.{drop_all}
use Rattle.a68_layout.specs.Rooms.{room_for_within, elements_for}
use Rattle.a68_layout.proofs.Founds.{left-begin, left-on, left-end}
use Rattle.a68_layout.proofs.Inwards.{elements-more}
use Rattle.a68_values.specs.Content.{contents_of}
use Rattle.a68_layout.proofs.finding.find_elements.Goals as goal

pub loop-value-init : goal.loop-value-init
loop-value-init c = left-begin c.args.modes.now c.args.rows.now.items (elements_for (room_for_within c.args.depth c.args.modes.now c.args.mode) (contents_of c.args.values.now))

pub loop-value-preserved : goal.loop-value-preserved
loop-value-preserved c =
    let more = elements-more (room_for_within c.args.depth c.args.modes.now c.args.mode) c.args.values.now c.loop-value.value-index c.value-item.result c.loop-value-test.true c.value-item.is in
    left-on _ _ _ _ _ _ _ _ more c.in_ok-find_value.ensures c.loop-value.invariant

pub returns : goal.returns
returns c =
    left-end _ _ _ _ _
    (ap (λ vs. elements_for (room_for_within c.args.depth c.args.modes.now c.args.mode) (contents_of vs)) (drop_all c.loop-value.value-index c.args.values.now (omega arith)))
    c.loop-value.invariant

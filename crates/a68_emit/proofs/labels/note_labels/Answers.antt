use Rattle.std.proofs.Common.{arith, refl, nat_eq}
use Rattle.std.specs.Prelude.{◌&&◌, ◌||◌}
use Rattle.a68_elab.specs.Trees.{is_label_in}
use Rattle.a68_emit.proofs.Seating.{label_on, labels_whole}
use Rattle.a68_emit.specs.Seats.{has_pair, labels_among}
use Rattle.a68_emit.proofs.labels.note_labels.Goals as goal

pub loop-at-init : goal.loop-at-init
loop-at-init c = λ clause label. refl

pub loop-at-preserved : goal.loop-at-preserved
loop-at-preserved c =
    label_on c.args.program.now c.args.parts.now c.loop-at.at c.args.id c.loop-at.known.keys _
    (λ clause label. has_pair c.args.known.now.keys clause label || (nat_eq clause c.args.id && is_label_in label (labels_among c.args.program.now c.args.parts.now)))
    (omega arith) c.loop-at.invariant c.in_ok-note_label.ensures

pub returns : goal.returns
returns c =
    labels_whole c.args.program.now c.args.parts.now c.loop-at.at c.args.id c.loop-at.known.keys
    (λ clause label. has_pair c.args.known.now.keys clause label || (nat_eq clause c.args.id && is_label_in label (labels_among c.args.program.now c.args.parts.now)))
    (omega arith) c.loop-at.invariant

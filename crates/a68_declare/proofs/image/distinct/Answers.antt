use Rattle.std.proofs.Common.{List, ℕ, subst}
use Rattle.std.specs.Prelude.{map}
use Rattle.a68_declare.proofs.Filling.{noted_images, sorted_images, sorted_once, sorted_rise}
use Rattle.a68_declare.specs.Numbering.{number_in}
use Rattle.a68_equiv.specs.Spread.{NotesModes}
use Rattle.a68_declare.proofs.image.distinct.Goals as goal

pub returns-clause-same : goal.returns-clause-same
returns-clause-same c =
    sorted_images c.args.to.now c.args.modes.now c.note.new.found.items c.put_in_order.new.numbers.items
    (noted_images c.args.to.now c.args.modes.now c.note.new.found.items
    (subst (λ (old : List ℕ). NotesModes (map (number_in c.args.to.now) c.args.modes.now) old c.note.new.found.items) c.new-items.ensures.items c.in_ok-note.ensures.notes))
    c.put_in_order.ensures.moved

pub returns-clause-once : goal.returns-clause-once
returns-clause-once c = sorted_once c.note.new.found.items c.put_in_order.new.numbers.items c.in_ok-note.ensures.known.distinct c.put_in_order.ensures.moved

pub returns-clause-rising : goal.returns-clause-rising
returns-clause-rising c =
    sorted_rise c.note.new.found.items c.put_in_order.new.numbers.items c.in_ok-note.ensures.known.distinct c.put_in_order.ensures.moved c.put_in_order.ensures.sorted

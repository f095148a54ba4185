use Rattle.std.proofs.Common.{◌≡◌, ◌∙◌, ◌<◌, length, ap, sym}
use Rattle.std.specs.Prelude.{Some, slice_get}
use Rattle.std.proofs.lemmas.Option.{slice_get-get_or, slice_get_past}
use Rattle.a68_store.proofs.Places.{laid-at, kept-none}
use Rattle.a68_store.proofs.room.keep.Goals as goal

pub move_values-requires-clause-within : goal.move_values-requires-clause-within
move_values-requires-clause-within c =
    let there : 1 < length c.args.frames.now = c.in-Some.ensures.lookup.3.0 in
    let is : slice_get c.args.frames.now 1 ≡ Some c.in-Some.frame.now = slice_get-get_or c.args.frames.now 1 c.in-Some.frame.now there ∙ ap (λ o. Some o) (sym c.in-Some.ensures.lookup.1) in
    let laid = laid-at c.args.frames.now 0 (length c.args.bound.now) 1 c.in-Some.frame.now c.requires.laid is in
    laid.1

pub returns-in_default : goal.returns-in_default
returns-in_default c = c.requires.none ∙ sym (kept-none c.args.frames.now c.args.bound.now (slice_get_past c.args.frames.now 1 c.in_default.ensures.lookup.3))

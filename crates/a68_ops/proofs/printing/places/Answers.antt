use Rattle.std.proofs.Common.{◌≡◌, sym, arith}
use Rattle.std.proofs.lemmas.List.FromFn.{map-range_with_len_more}
use Rattle.a68_ops.specs.Printed.{place_text, places}
use Rattle.a68_ops.proofs.printing.places.Goals as goal

pub loop-place-preserved : goal.loop-place-preserved
loop-place-preserved c =
    rw (c.in_ok-push.ensures.items, c.loop-place.invariant, c.place_text.ensures)
    (sym (map-range_with_len_more (place_text c.args.bits) 0 c.loop-place.place c.loop-place.place (omega arith)))

pub returns : goal.returns
unfolding places
returns c =
    let all : c.loop-place.place ≡ 64 = omega arith in
    rw all at c.loop-place.invariant

use Rattle.std.proofs.Common.{◌≡◌, ◌<◌, length, arith, Some, slice_get, false}
use Rattle.std.specs.Prelude.{slice_index_or}
use Rattle.std.specs.Vec.{vec_len}
use Rattle.std.proofs.lemmas.Option.{slice_get_read}
use Rattle.a68_ranges.specs.Links.{IsBelow}
use Rattle.a68_frames.proofs.Chaining.{chained_more, chained_twin, linked_more}
use Rattle.a68_frames.proofs.chain.add_next.Goals as goal

pub returns-in-Some-clause-chained : goal.returns-in-Some-clause-chained
returns-in-Some-clause-chained c = λ tree made are.
    let by_layer = c.args.growing.now.by_layer in
    let number : c.len-number.result ≡ length by_layer.items = omega (arith, by_layer.ok.0, c.len-number.ensures) in
    let before : c.in-Some.twin < c.len-number.result = c.in-Some.ensures.0 in
    let low : c.in-Some.twin < length by_layer.items = omega (arith, before, number) in
    let is = slice_get_read by_layer.items (vec_len by_layer) c.in-Some.twin c.index-frame.result.now (omega (arith, by_layer.ok, low)) (omega (arith, by_layer.ok)) c.index-frame.ensures in
    rw c.in_ok-push.ensures.items
    (chained_twin tree c.args.ranges.now.nests.layers by_layer.items c.args.growing.now.frames.items c.len-number.result c.in-Some.twin c.index-frame.result.now number is c.in-Some.ensures.1 are)

pub returns-clause-linked : goal.returns-clause-linked
returns-clause-linked c =
    let by_layer = c.args.growing.now.by_layer in
    let layer = c.layer.result in
    let number : c.len-number.result ≡ length by_layer.items = omega (arith, by_layer.ok.0, c.len-number.ensures) in
    let out : IsBelow (length by_layer.items) layer.outer = rw number at c.layer.ensures.outer in
    linked_more by_layer.items c.add_layer.new.growing.by_layer.items c.args.growing.now.frames.items c.add_layer.new.growing.frames.items layer (slice_index_or c.args.makes.now layer.range false) c.in_ok-add_layer.ensures c.requires.linked out

pub returns-clause-chained : goal.returns-clause-chained
returns-clause-chained c = λ tree made are.
    let by_layer = c.args.growing.now.by_layer in
    let layers = c.args.ranges.now.nests.layers in
    let layer = c.layer.result in
    let number : c.len-number.result ≡ length by_layer.items = omega (arith, by_layer.ok.0, c.len-number.ensures) in
    let is : slice_get layers (length by_layer.items) ≡ Some layer = rw number at c.layer.ensures.is in
    let out : IsBelow (length by_layer.items) layer.outer = rw number at c.layer.ensures.outer in
    chained_more by_layer.items c.add_layer.new.growing.by_layer.items c.args.growing.now.frames.items c.add_layer.new.growing.frames.items layer tree layers (slice_index_or c.args.makes.now layer.range false) c.in_ok-add_layer.ensures
    (made layer.range) is out are

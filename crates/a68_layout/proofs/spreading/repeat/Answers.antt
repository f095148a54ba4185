use Rattle.std.proofs.Common.{◌≡◌, ◌∙◌, ap, arith, rules, w64, to_z, of_z, length, take, add-one}
use Rattle.std.proofs.lemmas.Int.{to_z-of_z}
use Rattle.a68_layout.specs.Widths.{between}
use Rattle.a68_layout.proofs.Spreads.{copies_front, copies_long, copies_more, few_moved}
use Rattle.a68_layout.proofs.spreading.repeat.Goals as goal

pub add_moved-requires-clause-there : goal.add_moved-requires-clause-there
add_moved-requires-clause-there c =
    let len : c.len-len.result ≡ length c.args.cells.now.items = omega (arith, c.args.cells.now.ok.0) in
    rw len (copies_long c.args.dim.now.stride c.loop-k.k c.args.cells.now.items c.loop-k.cells.items c.loop-k.auto.k c.loop-k.invariant)

pub add_moved-requires-clause-few : goal.add_moved-requires-clause-few
add_moved-requires-clause-few c =
    let len : c.len-len.result ≡ length c.args.cells.now.items = omega (arith, c.args.cells.now.ok.0) in
    let dim = c.args.dim.now in
    let lower : to_z w64 (of_z w64 dim.lower) ≡ dim.lower = to_z-of_z w64 dim.lower (search rules) in
    let upper : to_z w64 (of_z w64 dim.upper) ≡ dim.upper = to_z-of_z w64 dim.upper (search rules) in
    let count = rw (lower, upper) at c.extent-count.ensures in
    few_moved (between dim.lower dim.upper) dim.stride c.loop-k.k c.len-len.result c.args.cells.now.items c.loop-k.cells.items (omega (arith, count))
    (ap (λ n. take n c.loop-k.cells.items) len ∙ copies_front dim.stride c.loop-k.k c.args.cells.now.items c.loop-k.cells.items c.loop-k.auto.k c.loop-k.invariant)
    c.requires.few

pub loop-k-preserved : goal.loop-k-preserved
loop-k-preserved c =
    let len : c.len-len.result ≡ length c.args.cells.now.items = omega (arith, c.args.cells.now.ok.0) in
    rw add-one
    (copies_more c.args.dim.now.stride c.loop-k.k c.args.cells.now.items c.loop-k.cells.items c.add_moved.new.cells.items c.loop-k.auto.k c.loop-k.invariant (rw len at c.in_ok-add_moved.ensures))

pub returns : goal.returns
returns c =
    let dim = c.args.dim.now in
    let lower : to_z w64 (of_z w64 dim.lower) ≡ dim.lower = to_z-of_z w64 dim.lower (search rules) in
    let upper : to_z w64 (of_z w64 dim.upper) ≡ dim.upper = to_z-of_z w64 dim.upper (search rules) in
    let count = rw (lower, upper) at c.extent-count.ensures in
    let all : c.loop-k.k ≡ between dim.lower dim.upper = omega (arith, count) in
    rw all at c.loop-k.invariant

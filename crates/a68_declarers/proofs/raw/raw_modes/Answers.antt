use Rattle.std.proofs.Common.{◌≡◌, ◌+◌, ◌*◌, ap, length, arith}
use Rattle.a68_declarers.proofs.Counting.{ordered}
use Rattle.a68_declarers.specs.Numbers.{declarers}
use Rattle.a68_declarers.proofs.raw.raw_modes.Goals as goal

pub returns-clause-ordered : goal.returns-clause-ordered
returns-clause-ordered c =
    let tree = c.args.tree.now in
    let is = c.count.ensures.is in
    let begun = ap length c.in_ok-modes.ensures in
    let blank = c.in_ok-add_blank.ensures.long in
    let same = c.in_ok-set_all.ensures.long in
    let long : length c.set_all.new.modes ≡ 15 + 2 * declarers tree (length tree.nodes) = omega (arith, begun, blank, same) in
    ordered tree c.args.numbers.now c.requires.numbers c.set_all.new.modes long

pub returns-clause-few : goal.returns-clause-few
returns-clause-few c =
    let is = c.count.ensures.is in
    let begun = ap length c.in_ok-modes.ensures in
    let blank = c.in_ok-add_blank.ensures.long in
    let same = c.in_ok-set_all.ensures.long in
    let few = c.requires.few in
    omega (arith, begun, blank, same)

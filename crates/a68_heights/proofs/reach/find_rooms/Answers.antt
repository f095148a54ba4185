use Rattle.std.proofs.Common.{◌≤◌, [], suc, length, ap, arith}
use Rattle.a68_heights.proofs.Reaching.{even_suffices, of_even}
use Rattle.a68_heights.proofs.reach.find_rooms.Goals as goal

pub returns : goal.returns
returns c =
    let list = ap (λ code. code.list) c.code.view_is in
    let whole : length c.args.code.now.list ≤ suc c.len.result = omega (arith, c.len.ensures, ap length list) in
    of_even c.args.code.now c.of.result ([], c.len.result) (even_suffices c.args.code.now c.requires.valid c.len.result whole) c.of.ensures

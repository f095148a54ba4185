use Rattle.std.proofs.Common.{◌≡◌, ◌+◌, ◌-◌, arith, subst}
use Rattle.a68_refusals.proofs.Walking.{all_nodes, none_yet}
use Rattle.a68_refusals.specs.First.{Asked, IsBrokenFrom}
use Rattle.a68_refusals.specs.Order.{IsFirstOf}
use Rattle.a68_refusals.proofs.first.first_among.Goals as goal

pub loop-left-init : goal.loop-left-init
loop-left-init c =
    let a : Asked = record { tree = c.args.tree.now; tags = c.args.tags.now; defined = c.args.defined.now; nodes = c.args.modes.now; ys = c.args.yields.now; fs = c.args.findings.now; ps = c.args.positions.now } in
    record { within = omega (arith, c.len-left.ensures); first = none_yet a c.len-left.result c.len-left.ensures }

pub with_node-requires-clause-behind : goal.with_node-requires-clause-behind
with_node-requires-clause-behind c =
    let a : Asked = record { tree = c.args.tree.now; tags = c.args.tags.now; defined = c.args.defined.now; nodes = c.args.modes.now; ys = c.args.yields.now; fs = c.args.findings.now; ps = c.args.positions.now } in
    let same : c.loop-left.left ≡ c.loop-left.left - 1 + 1 = omega (arith, c.loop-left-test.true) in
    subst (λ n. IsFirstOf (IsBrokenFrom a n) c.loop-left.first) same c.loop-left.invariant.first

pub returns : goal.returns
returns c =
    let a : Asked = record { tree = c.args.tree.now; tags = c.args.tags.now; defined = c.args.defined.now; nodes = c.args.modes.now; ys = c.args.yields.now; fs = c.args.findings.now; ps = c.args.positions.now } in
    all_nodes a c.loop-left.left c.loop-left.first (omega (arith, c.loop-left-test.false)) c.loop-left.invariant.first

use Rattle.std.proofs.Common.{◌≡◌, refl, rules}
use Rattle.a68_tree.specs.declared.kind.NodeKind.TheVariants as kind
use Rattle.a68_runs.proofs.runs.leaves_as.Goals as goal

pub returns-in-Serial : goal.returns-in-Serial
returns-in-Serial c =
    let node = c.args.node.now in
    let is : node.kind ≡ kind.Serial = search rules in
    let parts : c.deref-in-Serial.result.now ≡ node.parts = search rules in
    rw (c.if_so-left-in-Serial.ensures, c.are_steps.ensures, c.asks_value-asked.ensures, parts, is) refl

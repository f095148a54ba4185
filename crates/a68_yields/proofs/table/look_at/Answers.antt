use Rattle.std.proofs.Common.{◌≡◌, ◌<◌, ◌≤◌, length, arith, add-one, sym}
use Rattle.a68_declare.proofs.Standing.{fifteen}
use Rattle.a68_fields.proofs.Keeping.{fields_stay}
use Rattle.a68_ranges.specs.Nodes.{kind_at, parts_at}
use Rattle.a68_tree.specs.Trees.{AllBetween}
use Rattle.a68_yields.proofs.Looking.{sought_below}
use Rattle.a68_yields.proofs.Tabling.{tables_more}
use Rattle.a68_yields.proofs.Telling.{told_below}
use Rattle.a68_yields.specs.Found.{IsFound}
use Rattle.a68_yields.specs.Sought.{sought_at}
use Rattle.a68_yields.specs.Yields.{IsToldYield, Known, one_more, told}
use Rattle.a68_yields.proofs.table.look_at.Goals as goal

pub found_at-requires-clause-sought : goal.found_at-requires-clause-sought
found_at-requires-clause-sought c =
    let many : 15 ≤ length c.args.modes.now = fifteen c.args.modes.now c.modes-modes.ensures.holds in
    let some : 2 < length c.args.modes.now = omega arith in
    rw c.sought_at-sought.ensures (sought_below (length c.args.modes.now) some c.args.tree.now _ _ _)

pub granted-requires : goal.granted-requires
granted-requires c =
    let many : 15 ≤ length c.args.modes.now = fifteen c.args.modes.now c.modes-modes.ensures.holds in
    let behind : AllBetween c.args.node (length c.args.tree.now.nodes) (parts_at c.args.tree.now c.args.node) = rw (← c.parts_of-parts.ensures.is) c.parts_of-parts.ensures.behind in
    let k : Known = record { tree = c.args.tree.now; tags = c.args.tags.now; of = c.args.of.now.of; defined = c.args.defined.now } in
    rw (c.len.ensures, c.yields_of-told.ensures c.args.of.now.of, c.modes.ensures.is)
    (told_below c.args.modes.now c.modes-modes.ensures.holds many (length c.args.tree.now.nodes) c.args.node k c.args.yields.now c.in_ok-found.found (kind_at c.args.tree.now c.args.node) c.requires.defined
    c.in_ok-found.ensures.there behind)

pub returns-clause-yields : goal.returns-clause-yields
returns-clause-yields c start before =
    let k : Known = record { tree = c.args.tree.now; tags = c.args.tags.now; of = c.args.of.now.of; defined = c.args.defined.now } in
    let found : IsFound c.args.tree.now c.args.modes.now c.args.of.now.of c.args.yields.now c.args.node (sought_at c.args.tree.now c.args.tags.now c.args.node) c.in_ok-found.found =
    rw (← c.sought_at-sought.ensures) c.in_ok-found.ensures.found in
    let is : c.yields_of-told.result ≡ told k c.args.modes.now c.args.yields.now c.args.node c.in_ok-found.found (kind_at c.args.tree.now c.args.node) =
    rw c.modes.ensures.is at (c.yields_of-told.ensures c.args.of.now.of) in
    let y : IsToldYield c.args.modes.now (told k c.args.modes.now c.args.yields.now c.args.node c.in_ok-found.found (kind_at c.args.tree.now c.args.node)) c.granted.new.modes c.in_ok-yielding.yielding =
    rw (← is) c.in_ok-yielding.ensures.is in
    one_more c.args.modes.now c.args.yields.now c.args.findings.now c.in_ok-found.found c.in_ok-yielding.yielding (rw (sym (add-one c.args.node)) before) found y c.note_yield.ensures c.note_finding.ensures

pub returns-clause-tables : goal.returns-clause-tables
returns-clause-tables c = rw (c.note_yield.ensures, c.note_finding.ensures)
    (tables_more (length c.args.modes.now) (length c.granted.new.modes) (length c.args.tree.now.nodes) c.args.node c.args.yields.now c.args.findings.now c.in_ok-yielding.yielding c.in_ok-found.found
    c.in_ok-yielding.ensures.longer c.requires.tables (rw (← c.len.ensures) c.in_ok-yielding.ensures.below) c.in_ok-found.ensures.there)

pub returns-clause-fields : goal.returns-clause-fields
returns-clause-fields c = fields_stay c.args.modes.now c.granted.new.modes c.args.fields.now c.in_ok-yielding.ensures.fields c.requires.fields

use Rattle.std.proofs.Common.{◌<◌, ◌≤◌, length, add-one, arith}
use Rattle.a68_declare.proofs.Standing.{fifteen}
use Rattle.a68_definitions.proofs.Defining.{IsLonger, all_longer}
use Rattle.a68_positions.proofs.Bounds.{aside_within, fixed_below, parts_within}
use Rattle.a68_positions.proofs.Longer.{aside_longer, position_longer, positions_longer, tables_longer, there_longer}
use Rattle.a68_positions.specs.Below.{IsPositionBelow}
use Rattle.a68_positions.specs.Positions.{one_more}
use Rattle.a68_ranges.specs.Nodes.{kind_at, parts_at}
use Rattle.a68_yields.proofs.Tabling.{finding_longer}
use Rattle.a68_yields.specs.Below.{IsFindingBelow}
use Rattle.a68_yields.specs.Yields.{Known}
use Rattle.a68_positions.proofs.table.look.Goals as goal

pub set_aside-requires-clause-aside : goal.set_aside-requires-clause-aside
set_aside-requires-clause-aside c =
    let some : 8 < length c.args.modes.now = omega (arith, fifteen c.args.modes.now c.modes.ensures.holds) in
    let own : IsPositionBelow (length c.args.modes.now) c.position_of-own.result = rw c.position_of-own.ensures (c.requires.positions c.args.node) in
    let found : IsFindingBelow (length c.args.modes.now) c.finding_of-found.result = rw c.finding_of-found.ensures (c.requires.tables.found c.args.node) in
    let k : Known = record { tree = c.args.tree.now; tags = c.args.tags.now; of = c.args.of.now; defined = c.args.defined.now } in
    rw (c.aside_of-needed.ensures c.args.of.now c.args.defined.now, c.modes.ensures.is) (aside_within c.args.modes.now c.modes.ensures.holds some k c.args.node _ _ (kind_at c.args.tree.now c.args.node) own found)

pub note_parts-requires-clause-own : goal.note_parts-requires-clause-own
note_parts-requires-clause-own c =
    let some : 15 ≤ length c.args.modes.now = fifteen c.args.modes.now c.modes.ensures.holds in
    let long : IsLonger c.args.modes.now c.set_aside.new.modes c.in_ok-aside.aside = aside_longer (record { tree = c.args.tree.now; tags = c.args.tags.now; of = c.args.of.now; defined = c.args.defined.now }) _ _ _ _ _ some (c.in_ok-aside.ensures c.args.tags.now c.args.defined.now) in
    let own : IsPositionBelow (length c.args.modes.now) c.position_of-own.result = rw c.position_of-own.ensures (c.requires.positions c.args.node) in
    rw c.modes-2.ensures.is (position_longer _ _ long.long c.position_of-own.result own)

pub note_parts-requires-clause-found : goal.note_parts-requires-clause-found
note_parts-requires-clause-found c =
    let some : 15 ≤ length c.args.modes.now = fifteen c.args.modes.now c.modes.ensures.holds in
    let long : IsLonger c.args.modes.now c.set_aside.new.modes c.in_ok-aside.aside = aside_longer (record { tree = c.args.tree.now; tags = c.args.tags.now; of = c.args.of.now; defined = c.args.defined.now }) _ _ _ _ _ some (c.in_ok-aside.ensures c.args.tags.now c.args.defined.now) in
    let found : IsFindingBelow (length c.args.modes.now) c.finding_of-found.result = rw c.finding_of-found.ensures (c.requires.tables.found c.args.node) in
    rw c.modes-2.ensures.is (finding_longer _ _ c.finding_of-found.result long.long found)

pub note_parts-requires-clause-defined : goal.note_parts-requires-clause-defined
note_parts-requires-clause-defined c =
    let some : 15 ≤ length c.args.modes.now = fifteen c.args.modes.now c.modes.ensures.holds in
    let long : IsLonger c.args.modes.now c.set_aside.new.modes c.in_ok-aside.aside = aside_longer (record { tree = c.args.tree.now; tags = c.args.tags.now; of = c.args.of.now; defined = c.args.defined.now }) _ _ _ _ _ some (c.in_ok-aside.ensures c.args.tags.now c.args.defined.now) in
    rw c.modes-2.ensures.is (all_longer _ _ _ long.long c.requires.defined)

pub returns-clause-positions : goal.returns-clause-positions
returns-clause-positions c start before =
    let needed = rw (c.modes.ensures.is, c.position_of-own.ensures, c.finding_of-found.ensures) at (c.aside_of-needed.ensures c.args.of.now c.args.defined.now) in
    let written = rw (c.modes-2.ensures.is, c.position_of-own.ensures, c.finding_of-found.ensures) at c.note_parts.ensures in
    one_more c.args.node c.in_ok-aside.aside c.args.modes.now c.args.positions.now before (rw needed at (c.in_ok-aside.ensures c.args.tags.now c.args.defined.now)) written (add-one c.args.node)

pub returns-clause-below : goal.returns-clause-below
returns-clause-below c =
    let some : 15 ≤ length c.args.modes.now = fifteen c.args.modes.now c.modes.ensures.holds in
    let more : 8 < length c.set_aside.new.modes = omega (arith, fifteen c.set_aside.new.modes c.modes-2.ensures.holds) in
    let long : IsLonger c.args.modes.now c.set_aside.new.modes c.in_ok-aside.aside = aside_longer (record { tree = c.args.tree.now; tags = c.args.tags.now; of = c.args.of.now; defined = c.args.defined.now }) _ _ _ _ _ some (c.in_ok-aside.ensures c.args.tags.now c.args.defined.now) in
    let own : IsPositionBelow (length c.args.modes.now) c.position_of-own.result = rw c.position_of-own.ensures (c.requires.positions c.args.node) in
    let found : IsFindingBelow (length c.args.modes.now) c.finding_of-found.result = rw c.finding_of-found.ensures (c.requires.tables.found c.args.node) in
    rw (c.note_parts.ensures, c.modes-2.ensures.is)
    (parts_within c.set_aside.new.modes c.modes-2.ensures.holds more (record { tree = c.args.tree.now; tags = c.args.tags.now; of = c.args.of.now; defined = c.args.defined.now })
    (record { node = c.args.node; own = c.position_of-own.result; found = c.finding_of-found.result; aside = c.in_ok-aside.aside }) 0 (parts_at c.args.tree.now c.args.node) c.args.positions.now
    (fixed_below c.args.tree.now c.set_aside.new.modes c.args.of.now (omega arith) (there_longer _ _ _ _ long.long c.requires.of)) (all_longer _ _ _ long.long c.requires.defined) (position_longer _ _ long.long _ own) (finding_longer _ _ _ long.long found) long.there
    (positions_longer _ _ long.long _ c.requires.positions))

pub returns-clause-of : goal.returns-clause-of
returns-clause-of c =
    let some : 15 ≤ length c.args.modes.now = fifteen c.args.modes.now c.modes.ensures.holds in
    let long : IsLonger c.args.modes.now c.set_aside.new.modes c.in_ok-aside.aside = aside_longer (record { tree = c.args.tree.now; tags = c.args.tags.now; of = c.args.of.now; defined = c.args.defined.now }) _ _ _ _ _ some (c.in_ok-aside.ensures c.args.tags.now c.args.defined.now) in
    there_longer _ _ _ _ long.long c.requires.of

pub returns-clause-defined : goal.returns-clause-defined
returns-clause-defined c =
    let some : 15 ≤ length c.args.modes.now = fifteen c.args.modes.now c.modes.ensures.holds in
    let long : IsLonger c.args.modes.now c.set_aside.new.modes c.in_ok-aside.aside = aside_longer (record { tree = c.args.tree.now; tags = c.args.tags.now; of = c.args.of.now; defined = c.args.defined.now }) _ _ _ _ _ some (c.in_ok-aside.ensures c.args.tags.now c.args.defined.now) in
    all_longer _ _ _ long.long c.requires.defined

pub returns-clause-tables : goal.returns-clause-tables
returns-clause-tables c =
    let some : 15 ≤ length c.args.modes.now = fifteen c.args.modes.now c.modes.ensures.holds in
    let long : IsLonger c.args.modes.now c.set_aside.new.modes c.in_ok-aside.aside = aside_longer (record { tree = c.args.tree.now; tags = c.args.tags.now; of = c.args.of.now; defined = c.args.defined.now }) _ _ _ _ _ some (c.in_ok-aside.ensures c.args.tags.now c.args.defined.now) in
    tables_longer _ _ long.long _ _ _ c.requires.tables

use Rattle.std.proofs.Common.{length, add-one, sym}
use Rattle.a68_definitions.proofs.Defining.{IsLonger, granted_long, mode_below, of_longer, all_longer, requested_below, some_modes}
use Rattle.a68_definitions.specs.Defined.{IsGranted, IsRequestBelow, one_more, requested}
use Rattle.a68_ranges.specs.Nodes.{kind_at, parts_at}
use Rattle.a68_definitions.proofs.defined.define.Goals as goal

pub granted-requires : goal.granted-requires
granted-requires c = rw (c.in_ok-request.ensures, c.kind_of-kind.ensures, c.parts_of.ensures.is)
    (requested_below c.args.tree.now c.args.of.now (length c.args.modes.now) c.args.table.now _ _ (some_modes c.args.modes.now c.modes-modes.ensures.holds) c.requires.of c.requires.table)

pub returns-clause-defined : goal.returns-clause-defined
returns-clause-defined c start before =
    let is : IsGranted c.args.modes.now (requested c.args.tree.now c.args.of.now c.args.table.now (kind_at c.args.tree.now c.args.node) (parts_at c.args.tree.now c.args.node)) c.granted.new.modes c.in_ok-mode.mode =
    rw (← c.parts_of.ensures.is, ← c.kind_of-kind.ensures, ← c.in_ok-request.ensures) c.in_ok-mode.ensures in
    one_more c.in_ok-mode.mode c.args.modes.now c.args.table.now (rw (sym (add-one c.args.node)) before) is c.note_all.ensures

pub returns-clause-table : goal.returns-clause-table
returns-clause-table c =
    let below : IsRequestBelow (length c.args.modes.now) c.in_ok-request.request = rw (c.in_ok-request.ensures, c.kind_of-kind.ensures, c.parts_of.ensures.is)
    (requested_below c.args.tree.now c.args.of.now (length c.args.modes.now) c.args.table.now _ _ (some_modes c.args.modes.now c.modes-modes.ensures.holds) c.requires.of c.requires.table) in
    let long : IsLonger c.args.modes.now c.granted.new.modes c.in_ok-mode.mode = granted_long _ _ _ _ below c.in_ok-mode.ensures in
    rw c.note_all.ensures (mode_below c.args.tree.now c.args.of.now (length c.granted.new.modes) c.args.node c.in_ok-mode.mode c.args.table.now
    (of_longer _ _ _ long.long c.requires.of) (all_longer _ _ _ long.long c.requires.table) long.there)

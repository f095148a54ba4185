use Rattle.a68_definitions.proofs.Alone.{defined_longer}
use Rattle.a68_definitions.proofs.Defining.{modes_below}
use Rattle.a68_identify.proofs.Serving.{modes_are_there}
use Rattle.a68_positions.proofs.Longer.{there_longer}
use Rattle.a68_meaning.proofs.meaning.meaning_by.Goals as goal

pub defined_modes-requires : goal.defined_modes-requires
defined_modes-requires c = modes_below c.args.tree.now c.args.modes c.args.of c.requires.modes.are

pub find_yields-requires-clause-of : goal.find_yields-requires-clause-of
find_yields-requires-clause-of c =
    there_longer _ _ _ _ (defined_longer c.args.tree.now c.args.of c.args.modes c.in_ok-defined.ensures.defined).long (modes_are_there c.args.tree.now c.args.modes c.args.of c.requires.modes.are)

pub positions-requires-clause-defined : goal.positions-requires-clause-defined
positions-requires-clause-defined c = rw c.deref-2.ensures.value (rw c.deref.ensures.value at c.in_ok-yields.ensures.defined)

pub returns-clause-is : goal.returns-clause-is
returns-clause-is c = record {
  declared = c.args.modes;
  modes = c.requires.modes;
  tags = c.in_ok-tags.ensures;
  named = c.defined_modes.new.modes;
  defined = c.in_ok-defined.ensures.defined;
  yielded = c.find_yields.new.modes;
  yields = rw c.deref.ensures.value at c.in_ok-yields.ensures.yields;
  there = c.in_ok-yields.ensures.of;
  below = rw c.deref.ensures.value at c.in_ok-yields.ensures.defined;
  tables = c.in_ok-yields.ensures.tables;
  positions = rw c.deref-4.ensures.value at (rw c.deref-3.ensures.value at (rw c.deref-2.ensures.value at c.in_ok-asked.ensures.positions));
  room = c.len-few.ensures.sound.holds.few;
}

pub returns-clause-below : goal.returns-clause-below
returns-clause-below c = rw c.deref-2.ensures.value at c.in_ok-asked.ensures.defined

pub returns-clause-tables : goal.returns-clause-tables
returns-clause-tables c = rw c.deref-4.ensures.value at (rw c.deref-3.ensures.value at c.in_ok-asked.ensures.tables)

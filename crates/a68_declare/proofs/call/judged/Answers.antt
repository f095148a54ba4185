use Rattle.a68_declare.proofs.Fixing.{have_twins, raw_fixed}
use Rattle.a68_declare.proofs.Rawing.{raw_dims, raw_full}
use Rattle.a68_declarers.specs.Numbers.{number_at}
use Rattle.a68_declare.proofs.call.judged.Goals as goal

pub clean_modes-requires-clause-full : goal.clean_modes-requires-clause-full
clean_modes-requires-clause-full c = raw_full c.args.tree.now c.args.raw.now (number_at c.args.numbers.now) c.len-there.ensures.nodes c.requires.raw.declared c.requires.ordered

pub returns-clause-rows : goal.returns-clause-rows
returns-clause-rows c = c.in_ok-cleaned.ensures.rows (raw_dims c.args.tree.now c.args.raw.now (number_at c.args.numbers.now) c.len-there.ensures.nodes c.requires.raw.declared c.requires.ordered)

pub returns-clause-fixed : goal.returns-clause-fixed
returns-clause-fixed c = λ once.
    c.in_ok-cleaned.ensures.fixed (have_twins c.args.tree.now c.args.raw.now (number_at c.args.numbers.now) c.len-there.ensures.nodes c.requires.raw.declared c.requires.ordered once c.requires.raw.numbered)

pub returns-clause-members : goal.returns-clause-members
returns-clause-members c = c.in_ok-cleaned.ensures.members (raw_fixed c.args.tree.now c.args.raw.now (number_at c.args.numbers.now) c.len-there.ensures.nodes c.requires.raw.declared c.requires.ordered)

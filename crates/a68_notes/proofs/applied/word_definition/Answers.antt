use Rattle.std.proofs.Common.{◌∙◌, sym, subst, ℕ}
use Rattle.a68_notes.proofs.Applying.{word_below}
use Rattle.a68_ranges.specs.Standard.{IsModeWordOf}
use Rattle.a68_notes.proofs.applied.word_definition.Goals as goal

pub returns-in-Word-clause-is : goal.returns-in-Word-clause-is
returns-in-Word-clause-is c =
    rw (sym c.form_of.ensures ∙ c.in-Word.is)
    (subst (λ (n : ℕ). IsModeWordOf c.args.tree.now c.args.node n c.mode_word.result) c.name_of.ensures (c.mode_word.ensures c.args.tree.now c.requires.ranges))

pub returns-in-Word-clause-there : goal.returns-in-Word-clause-there
returns-in-Word-clause-there c = word_below c.args.tree.now c.args.node c.name_of.result c.mode_word.result (c.mode_word.ensures c.args.tree.now c.requires.ranges)

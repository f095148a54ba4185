use Rattle.std.proofs.Common.{◌∙◌, sym}
use Rattle.std.proofs.lemmas.Bool.{false≢true}
use Rattle.std.proofs.lemmas.Option.{slice_get-get_or}
use Rattle.a68_coerce.proofs.Leaves.{no_form, not_formed}
use Rattle.a68_coerce.proofs.balancing.formed_at.Goals as goal

pub returns-in_default-clause-at : goal.returns-in_default-clause-at
returns-in_default-clause-at c = no_form c.args.modes.now c.args.sort c.args.form c.args.leaves.now c.args.at _ (slice_get-get_or c.args.leaves.now c.args.at _ c.requires.at) c.in_default.ensures.forms

pub returns-then-branch-clause-at : goal.returns-then-branch-clause-at
returns-then-branch-clause-at c = record {
  leaf = _;
  there = slice_get-get_or c.args.leaves.now c.args.at _ c.requires.at;
  leads = c.in-Some.ensures.forms;
  others = c.in_ok-others_suit.ensures.0 c.if-branch.true;
}

pub returns-else-branch-clause-at : goal.returns-else-branch-clause-at
returns-else-branch-clause-at c = not_formed c.args.modes.now c.args.sort c.args.form c.args.leaves.now c.args.at _ c.in-Some.mode (slice_get-get_or c.args.leaves.now c.args.at _ c.requires.at) c.in-Some.ensures.forms
    (λ h. false≢true (sym c.if-branch.false ∙ c.in_ok-others_suit.ensures.1 h))

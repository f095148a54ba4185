use Rattle.std.proofs.Common.{◌∙◌}
use Rattle.a68_declare.proofs.Judging.{among_are, wrong_members}
use Rattle.a68_declare.proofs.unions.is_wrong.Goals as goal

pub returns : goal.returns
returns c =
    let nodes = c.args.modes.now in
    let members = c.in_ok-members.members in
    wrong_members nodes c.args.classes.now.of c.requires.exact c.args.union members c.deref.result.now (c.deref.ensures.value ∙ c.members.view_is) c.in_ok-members.ensures.below
    (among_are nodes c.args.union members c.requires.united c.in_ok-members.ensures.among) _ c.in_ok-wrong.ensures

use Rattle.std.proofs.Common.{◌∙◌, ◌<◌, sym, ap, length, subst}
use Rattle.std.specs.List.{All}
use Rattle.a68_modes.specs.Nodes.{shape_at}
use Rattle.a68_coerce.proofs.Members.{listed, not_united}
use Rattle.a68_coerce.proofs.unite.united.Goals as goal

pub united_among-requires-clause-members : goal.united_among-requires-clause-members
united_among-requires-clause-members c =
    let nodes = c.args.modes.now in
    let is = sym (c.shape.ensures.shape ∙ ap (shape_at nodes) c.behind.ensures.node) ∙ c.in-Union.is in
    let e = c.deref.ensures.value ∙ c.members.view_is in
    record {
      members = c.in-Union.field-0;
      union = is;
      listed = listed nodes c.args.to c.in-Union.field-0 _ _ is e c.in_ok-members.ensures.among;
      below = subst (All (λ m. m < length nodes)) (sym e) c.in_ok-members.ensures.below;
    }

pub returns-in_default : goal.returns-in_default
returns-in_default c =
    let is = c.shape.ensures.shape ∙ ap (shape_at c.args.modes.now) c.behind.ensures.node in
    λ p v. not_united c.args.modes.now c.args.to v.mode (λ ms e. c.in_default.not-Union ms (is ∙ e)) v.unites

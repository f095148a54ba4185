use Rattle.std.proofs.Common.{◌∙◌, sym, ap, refl}
use Rattle.std.proofs.lemmas.Bool.{false≢true}
use Rattle.a68_modes.specs.Nodes.{shape_at}
use Rattle.a68_coerce.specs.Goals.{within}
use Rattle.a68_coerce.specs.Paths.UnitesTo.{a_member, a_union}
use Rattle.a68_coerce.proofs.Members.{listed, yes, back, no_union, each_one}
use Rattle.a68_coerce.proofs.unite.unites.Goals as goal

pub returns-then-is_member : goal.returns-then-is_member
returns-then-is_member c =
    let nodes = c.args.modes.now in
    let are = c.requires.members in
    (λ t. a_member are.union (yes nodes c.args.to c.args.members.now are c.args.mode ((c.is_member.ensures nodes c.requires.exact).0 c.if-is_member.true)), λ u. refl)

pub returns-in_default : goal.returns-in_default
returns-in_default c =
    let nodes = c.args.modes.now in
    let are = c.requires.members in
    let so = c.shape.ensures.shape ∙ ap (shape_at nodes) c.behind.ensures.node in (
      λ t. absurd (false≢true t),
      λ u. absurd (no_union nodes c.args.to c.args.mode
          (λ w. false≢true (sym c.if-is_member.false ∙ (c.is_member.ensures nodes c.requires.exact).1 (back nodes c.args.to c.args.members.now are c.args.mode w)))
          (λ s f. c.in_default.not-Union s (so ∙ f)) u),
    )

pub returns : goal.returns
returns c =
    let nodes = c.args.modes.now in
    let are = c.requires.members in
    let so = sym (c.shape.ensures.shape ∙ ap (shape_at nodes) c.behind.ensures.node) ∙ c.in-Union.is in
    let g = c.deref.ensures.value ∙ c.some.view_is in
    let does = c.are_members.ensures nodes c.requires.exact in (
      λ t. a_union are.union so (λ x i. yes nodes c.args.to c.args.members.now are (within c.args.mode x) ((does.0 t) x ((listed nodes c.args.mode c.in-Union.field-0 _ _ so g c.in_ok-some.ensures.among x).1 i))),
      λ u. does.1 (λ y i. back nodes c.args.to c.args.members.now are (within c.args.mode y)
          (each_one nodes c.args.to c.args.mode (λ w. false≢true (sym c.if-is_member.false ∙ (c.is_member.ensures nodes c.requires.exact).1 (back nodes c.args.to c.args.members.now are c.args.mode w))) u y
          ((listed nodes c.args.mode c.in-Union.field-0 _ _ so g c.in_ok-some.ensures.among y).0 i))),
    )

use Rattle.std.proofs.Common.{◌≡◌, ◌∙◌, ℕ, List, length, sym, ap, true, false, subst}
use Rattle.std.specs.List.{Contains}
use Rattle.std.specs.Prelude.{◌↔◌}
use Rattle.a68_modes.specs.Nodes.{shape_at, ShapeIsWithin}
use Rattle.a68_equiv.specs.declared.steps.Inward.TheVariants.{WithinUnions}
use Rattle.a68_equiv.specs.Ways.{steps_of}
use Rattle.a68_equiv.specs.Spread.{IsSpread}
use Rattle.a68_equiv.specs.Unfolding.{unfolded, is_union}
use Rattle.a68_equiv.proofs.Meekly.{among_itself}
use Rattle.a68_equiv.proofs.Parting.{among_members}
use Rattle.a68_equiv.proofs.Stepping.{steps_within}
use Rattle.a68_equiv.proofs.firm.among.Goals as goal

pub spread-requires : goal.spread-requires
spread-requires c =
    let nodes = c.args.modes.now in
    let within : ShapeIsWithin (length nodes) c.shape-then-is_union.result.now = rw c.shape-then-is_union.ensures.shape (c.shape.ensures.nodes.within c.args.mode c.requires) in
    rw (c.deref.ensures.value, c.start.view_is, c.in_ok-start.ensures) (steps_within WithinUnions (length nodes) c.shape-then-is_union.result.now within)

pub returns-then-is_union-clause-among : goal.returns-then-is_union-clause-among
returns-then-is_union-clause-among c =
    let nodes = c.args.modes.now in
    let union : is_union (unfolded nodes c.args.mode) ≡ true =
    ap is_union (sym (c.shape.ensures.shape ∙ ap (shape_at nodes) c.behind.ensures.node)) ∙ sym c.is_union.ensures ∙ c.if-is_union.true in
    let start : c.deref.result.now ≡ steps_of WithinUnions (shape_at nodes c.args.mode) = c.deref.ensures.value ∙ c.start.view_is ∙ c.in_ok-start.ensures ∙ ap (steps_of WithinUnions) c.shape-then-is_union.ensures.shape in
    let f = subst (λ (xs : List ℕ). (x : ℕ) → Contains c.in_ok-among.among x ↔ IsSpread nodes xs x) start c.in_ok-among.ensures.members in
    let g = among_members nodes c.args.mode (unfolded nodes c.args.mode) c.requires union in
    λ x. (λ i. (g x).1 ((f x).0 i), λ is. (f x).1 ((g x).0 is))

pub returns-clause-among : goal.returns-clause-among
returns-clause-among c =
    let nodes = c.args.modes.now in
    let plain : is_union (unfolded nodes c.args.mode) ≡ false =
    ap is_union (sym (c.shape.ensures.shape ∙ ap (shape_at nodes) c.behind.ensures.node)) ∙ sym c.is_union.ensures ∙ c.if-is_union.false in
    λ x. rw c.in_ok-among-2.ensures (among_itself nodes c.args.mode (unfolded nodes c.args.mode) plain x)

use Rattle.std.proofs.Common.{◌≡◌, ◌++◌, ◌∷◌, [], List, ap, sym, ◌∙◌}
use Rattle.std.proofs.lemmas.List.{append_assoc}
use Rattle.a68_acts.specs.Operations as operations
use Rattle.a68_values.specs.Content.{Content, contents_of}
use Rattle.a68_steps.proofs.Filled.{no-field}
use Rattle.a68_steps.proofs.structures.fields_at.Goals as goal

pub returns-in-None : goal.returns-in-None
returns-in-None c =
    let rest = c.pop.new.self.items in
    let back : c.loop-part.left ≡ rest ++ c.in-Some.part ∷ [] = sym c.left-in-loop-part.view_is ∙ c.in-Some.ensures.items in
    let whole : c.args.parts ≡ rest ++ c.in-Some.part ∷ c.loop-part.invariant.gone =
    c.loop-part.invariant.all ∙ ap (λ (l : List Content). l ++ c.loop-part.invariant.gone) back ∙ append_assoc rest (c.in-Some.part ∷ []) c.loop-part.invariant.gone in
    ap (λ (l : List Content). operations.fields_at c.args.field (contents_of l)) whole ∙ no-field c.args.field rest c.loop-part.invariant.gone c.in-Some.part (sym c.in-None.ensures)

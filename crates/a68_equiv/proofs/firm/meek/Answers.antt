use Rattle.std.proofs.Common.{◌≡◌, ◌<◌, ◌++◌, ◌∷◌, [], ◌∙◌, sym, arith, length, rules}
use Rattle.std.proofs.lemmas.List.Elements.{All-contains, Contains-push}
use Rattle.a68_modes.specs.declared.shape.Shape.TheVariants.{Ref, Proc}
use Rattle.a68_modes.specs.Nodes.{shape_at}
use Rattle.a68_equiv.proofs.firm.meek.Goals as goal

pub returns-in-Ref-clause-there : goal.returns-in-Ref-clause-there
returns-in-Ref-clause-there c =
    let is : shape_at c.args.modes.now c.behind.result ≡ Ref c.in-Ref.of = sym c.shape.ensures.shape ∙ c.in-Ref.is in
    rw c.without_flex.ensures ((rw is at (c.shape.ensures.nodes.within c.behind.result c.behind.ensures.there)) 0 0 (omega arith))

pub returns-in-Proc-clause-there : goal.returns-in-Proc-clause-there
returns-in-Proc-clause-there c =
    let is : shape_at c.args.modes.now c.behind.result ≡ Proc c.in-Proc.params c.in-Proc.result = sym c.shape.ensures.shape ∙ c.in-Proc.is in
    rw c.as_it_stands.ensures (All-contains (λ m. m < length c.args.modes.now) (c.in-Proc.params ++ c.in-Proc.result ∷ []) c.in-Proc.result (rw is at (c.shape.ensures.nodes.within c.behind.result c.behind.ensures.there)) (Contains-push c.in-Proc.params c.in-Proc.result))

pub returns-in-Ref-clause-step : goal.returns-in-Ref-clause-step
returns-in-Ref-clause-step c = search rules

use Rattle.std.proofs.Common.{◌≡◌, ◌∙◌, ap, sym, subst, false, true, length}
use Rattle.a68_annot.specs.declared.annotated.Annotated.{Annotated}
use Rattle.a68_elab.specs.Runs.{is_outcome, outcome}
use Rattle.a68_elab.specs.Trees.{Tree}
use Rattle.a68_emit.specs.Listing.{stretch}
use Rattle.a68_emit.specs.Writing.{Writes}
use Rattle.a68_gen.proofs.Generating.{asked_none, asked_some}
use Rattle.a68_gen.proofs.translate.write_asked.Goals as goal

pub returns-then-not-leaves : goal.returns-then-not-leaves
returns-then-not-leaves c =
    let a = c.args.program.now in
    let wanted = c.args.wanted in
    let id = c.args.id in
    let w0 = c.args.out.now in
    let w1 = c.misfit.new.out in
    let none : is_outcome wanted (outcome a id) ≡ false = ap (λ (x : Annotated). is_outcome wanted (outcome x id)) (sym c.annotated.ensures) ∙ sym c.leaves.ensures ∙ c.if-not-leaves.true in
    subst (λ (u : Tree). Writes w0.stop w1.stop w0.list w1.list (stretch u (length w0.list))) (asked_none a wanted id c.node.result.now c.node.ensures.is none) c.misfit.ensures

pub returns : goal.returns
returns c =
    let a = c.args.program.now in
    let wanted = c.args.wanted in
    let id = c.args.id in
    let w0 = c.args.out.now in
    let w1 = c.unit.new.out in
    let some : is_outcome wanted (outcome a id) ≡ true = ap (λ (x : Annotated). is_outcome wanted (outcome x id)) (sym c.annotated.ensures) ∙ sym c.leaves.ensures ∙ c.if-not-leaves.false in
    subst (λ (u : Tree). Writes w0.stop w1.stop w0.list w1.list (stretch u (length w0.list))) (asked_some a wanted id some) c.unit.ensures

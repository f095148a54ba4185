use Rattle.std.proofs.Common.{◌≡◌, ◌∷◌, true, List, Ok, ap, sym, ◌∙◌}
use Rattle.a68_acts.specs.Steps as spec
use Rattle.a68_acts.specs.declared.step.Step.{Step}
use Rattle.a68_acts.specs.declared.step.Step.TheVariants.{AssignRow, Leave}
use Rattle.a68_layout.specs.Rooms.{planned_elements}
use Rattle.a68_values.specs.Content.{Content, plain, contents_of}
use Rattle.a68_values.specs.declared.plain.Plain.TheVariants as value
use Rattle.a68_steps.proofs.Filled.{parts_in-contents}
use Rattle.a68_steps.proofs.going.updates.Goals as goal

pub returns : goal.returns
returns c left =
    let told = planned_elements c.args.modes.now 3 (contents_of c.in-Some.parts) in
    let want : c.in_ok-want.want ≡ spec.makes told = c.in_ok-want.ensures told (rw c.as_slice.ensures at c.plan_elements.ensures.cells) (rw c.as_slice.ensures at c.plan_elements.ensures.fault) in
    let behind = Leave (plain (value.Name c.args.name)) ∷ c.args.steps.now in
    let front = λ (ps : List Content). AssignRow 3 true c.args.name.cell c.in-Some.bounds ps ∷ behind in
    let first : c.push.new.self ≡ behind = c.in_ok-push.ensures.ok ∙ ap (λ v. Leave v ∷ c.args.steps.now) c.of.ensures in
    let steps : c.push-2.new.self ≡ front c.in-Some.parts =
    c.in_ok-push-2.ensures.ok ∙ ap (λ (s : List Step). AssignRow 3 true c.args.name.cell c.in-Some.bounds c.in-Some.parts ∷ s) first in
    ap (λ w. spec.told w c.push-2.new.self left) want
    ∙ ap (λ (s : List Step). spec.told (spec.makes told) s left) (steps ∙ ap front (sym (parts_in-contents c.in-Some.parts)))
    ∙ sym (ap (λ (v : Content). spec.updates c.args.modes.now c.args.name (Ok v) c.args.steps.now left) c.in-Some.ensures)

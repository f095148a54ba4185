use Rattle.std.proofs.Common.{rules, ◌≡◌, ◌+◌, ◌-◌, ◌∷◌, List, ap, sym, arith, length, length-set, take, get_or, ◌∙◌}
use Rattle.std.specs.Prelude.{reverse, slice_set}
use Rattle.std.proofs.lemmas.List.{get_or_default}
use Rattle.a68_acts.proofs.Passing.{first_of_all, last_first, set_first}
use Rattle.a68_acts.specs.declared.step.Step.{Step}
use Rattle.a68_acts.specs.declared.step.Step.TheVariants as step
use Rattle.a68_values.specs.declared.held.Held.TheVariants as held
use Rattle.a68_acts.proofs.step.Steps.pass_assign.Goals as goal

pub returns : goal.returns
returns c =
    let xs = c.self.inside.items.items in
    let m = c.len-count.result - 2 in
    let count : length xs ≡ (m + 1) + 1 = omega (arith, c.if-count-lt2.false, c.len-count.ensures) in
    let given = step.Assign c.in_ok-next.next.0 (held.Plain c.in_ok-next.next.1) in
    let first : get_or xs (m + 1) step.Assigned ≡ step.Assigned = search rules in
    let second : get_or xs m step.Assigned ≡ given = get_or_default xs m step.Assigned c.index-2.result.now (omega (arith, count)) ∙ sym c.index-2.ensures ∙ c.in_ok-next.ensures in
    let view : c.args.self.now ≡ reverse xs = search rules in
    let popped : c.pop-passed.new.self.items ≡ take (m + 1) (slice_set xs m step.Assigned) =
    c.pop-passed.ensures.rest ∙ ap (λ (l : List Step). take (c.put.new.steps.len - 1) l) c.put.ensures.items ∙ ap (λ k. take k (slice_set xs m step.Assigned)) (omega (arith, c.put.ensures.len, c.len-count.ensures, c.if-count-lt2.false)) in (
      reverse (take m xs),
      view ∙ first_of_all xs (m + 1) step.Assigned count ∙ ap (λ (s : Step). s ∷ reverse (take (m + 1) xs)) first
          ∙ ap (λ (l : List Step). step.Assigned ∷ l) (last_first xs m step.Assigned (omega (arith, count)) ∙ ap (λ (s : Step). s ∷ reverse (take m xs)) second),
      ap (λ (l : List Step). reverse l) popped ∙ set_first xs m step.Assigned (omega (arith, count)),
    )

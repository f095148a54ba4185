use Rattle.std.proofs.Common.{rules, ◌≡◌, ◌∙◌, sym, Some, None, w64, FitsSigned}
use Rattle.std.proofs.lemmas.Int.{to_z-of_z}
use Rattle.a68_ops.specs.Applied as spec
use Rattle.a68_ops.proofs.applied.with_texts.Goals as goal

pub returns-in-Some : goal.returns-in-Some
returns-in-Some c =
    let fits : FitsSigned w64 c.in-Some.count = search rules in
    let left : spec.as_int c.args.left.now ≡ Some c.in-Some.count = sym c.as_int.ensures ∙ c.in-Some.is in
    rw left (rw (to_z-of_z w64 c.in-Some.count fits) at c.counted.ensures)

pub returns-in-Some-as_int : goal.returns-in-Some-as_int
returns-in-Some-as_int c =
    let fits : FitsSigned w64 c.in-Some-as_int.count = search rules in
    let left : spec.as_int c.args.left.now ≡ None = sym c.as_int.ensures ∙ c.in-None.is in
    let right : spec.as_int c.args.right.now ≡ Some c.in-Some-as_int.count = sym c.as_int-in-None.ensures ∙ c.in-Some-as_int.is in
    rw (left, right) (rw (to_z-of_z w64 c.in-Some-as_int.count fits) at c.counted-in-Some-as_int.ensures)

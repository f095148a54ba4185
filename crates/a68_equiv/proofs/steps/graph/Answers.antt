use Rattle.std.proofs.Common.{refl, ◌<◌, ◌≡◌, ◌∙◌, ap, sym, subst, List, ℕ, arith, take, length}
use Rattle.std.specs.Prelude.{map}
use Rattle.std.proofs.lemmas.List.{take_more, map-append}
use Rattle.a68_modes.specs.declared.shape.Shape.TheVariants.{Blank}
use Rattle.std.proofs.Math.Seq.{take-length}
use Rattle.a68_modes.specs.declared.shape.Shape.{Shape}
use Rattle.a68_equiv.specs.Ways.{StepsStayInside, steps_of}
use Rattle.a68_equiv.proofs.Stepping.{closed}
use Rattle.a68_equiv.proofs.steps.graph.Goals as goal

pub returns-clause-closed : goal.returns-clause-closed
returns-clause-closed c =
    let nodes = c.args.modes.now in
    let all : c.loop-id.id ≡ length nodes = omega arith in
    let is : c.loop-id.graph.items ≡ map (steps_of c.args.which) nodes = c.loop-id.invariant ∙ ap (λ (n : ℕ). map (steps_of c.args.which) (take n nodes)) all ∙ ap (λ (xs : List Shape). map (steps_of c.args.which) xs) (take-length nodes) in
    subst StepsStayInside (sym is) (closed c.args.which nodes c.len-id-end.ensures.nodes)

pub returns-clause-rows : goal.returns-clause-rows
returns-clause-rows c =
    let all : c.loop-id.id ≡ length c.args.modes.now = omega arith in
    rw (all, take-length) at c.loop-id.invariant

pub loop-id-preserved : goal.loop-id-preserved
loop-id-preserved c =
    let nodes = c.args.modes.now in
    let lt : c.loop-id.id < length nodes = omega arith in
    rw (c.in_ok-push.ensures.items, take_more nodes c.loop-id.id Blank lt, map-append (steps_of c.args.which) (take c.loop-id.id nodes), c.loop-id.invariant, c.in_ok-row.ensures, c.shape.ensures.shape) refl

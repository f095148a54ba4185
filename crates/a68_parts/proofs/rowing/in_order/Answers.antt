use Rattle.std.proofs.Common.{◌≡◌, ◌<◌, ◌∙◌, ℕ, true, length, arith, sym, ap, subst, ⊎_elim}
use Rattle.std.proofs.lemmas.Bool.{cases_eq}
use Rattle.a68_modes.specs.Nodes.{shape_at}
use Rattle.a68_modes.specs.declared.shape.Shape.{Shape}
use Rattle.a68_parts.specs.Rowing.{stands}
use Rattle.a68_parts.proofs.rowing.in_order.Goals as goal

pub loop-mode-preserved : goal.loop-mode-preserved
loop-mode-preserved c =
    let modes = c.args.modes.now in
    let here : stands c.args.dims c.args.of c.in-Some.fewer c.loop-mode.mode (shape_at modes c.loop-mode.mode) ≡ true =
    sym (ap (λ (s : Shape). stands c.args.dims c.args.of c.in-Some.fewer c.loop-mode.mode s) c.shape.ensures.shape) ∙ sym c.stands.ensures ∙ c.if-not-stands.false in
    λ m less. ⊎_elim (λ e. subst (λ (k : ℕ). stands c.args.dims c.args.of c.in-Some.fewer k (shape_at modes k) ≡ true) (sym e) here) (λ ne. c.loop-mode.invariant m (omega (arith, less, ne)))
    (cases_eq m c.loop-mode.mode)

pub returns : goal.returns
returns c =
    let all : c.loop-mode.mode ≡ length c.args.modes.now = omega (arith, c.len-mode-end.ensures.length) in
    λ m less. c.loop-mode.invariant m (subst (λ (n : ℕ). m < n) (sym all) less)

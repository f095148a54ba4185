use Rattle.std.proofs.Common.{◌≡◌, ◌+◌, ◌∷◌, [], ℕ, arith, subst}
use Rattle.a68_builder.proofs.Knowing.{far_is}
use Rattle.a68_builder.specs.Labels.{far}
use Rattle.a68_code.specs.declared.does.Does.TheVariants.{Goto}
use Rattle.a68_emit.specs.Listing.{instr}
use Rattle.a68_emit.specs.Writers.{Wrote}
use Rattle.a68_emit.proofs.seat.go_to.Goals as goal

pub returns-in-Some : goal.returns-in-Some
returns-in-Some c =
    let same = c.in-Some.ensures.1 in
    let to : c.in-Some.to ≡ far + c.args.label = omega (arith, far_is, same) in
    subst (λ (n : ℕ). Wrote c.args.out.now c.emit.new.self (instr c.args.place (Goto n c.args.frames c.args.height c.args.gives) ∷ [])) to c.emit.ensures

use Rattle.std.proofs.Common.{ℕ, ◌∙◌, ap}
use Rattle.a68_constructs.proofs.Seen.{inner_slots}
use Rattle.a68_constructs.proofs.choices.inner.Goals as goal
use Rattle.a68_emit.specs.Views.{within}

pub returns : goal.returns
returns c =
    let v = c.args.program.now in
    c.within.ensures.view ∙ ap (λ (n : ℕ). within n v) (inner_slots v.of.now c.args.parts.now c.note.result.now c.requires.some c.note.ensures)

use Rattle.std.proofs.Common.{◌-◌, List, ℕ, length, arith, ap, sym, ◌∙◌}
use Rattle.a68_elab.specs.Made.{last_id}
use Rattle.a68_emit.proofs.Linking.{parts_are}
use Rattle.a68_gen.proofs.Generating.{last_is_last}
use Rattle.a68_parts.proofs.Between.{between-each}
use Rattle.std.specs.Prelude.{slice_get}
use Rattle.a68_gen.proofs.translate.body.Goals as goal

pub returns-else-parts-eq0-clause-last : goal.returns-else-parts-eq0-clause-last
returns-else-parts-eq0-clause-last c =
    let are = parts_are (slice_get c.args.program.now.tree.nodes c.args.id) c.parts-parts.result.now c.parts-parts.ensures.is in
    last_is_last c.parts-parts.result.now (omega arith) ∙ ap (λ (l : List ℕ). last_id l) (sym are)

pub returns-else-parts-eq0-clause-within : goal.returns-else-parts-eq0-clause-within
returns-else-parts-eq0-clause-within c =
    let ids = c.parts-parts.result.now in
    (between-each c.args.id (length c.args.program.now.tree.nodes) (length ids - 1) ids c.parts-parts.ensures.behind (omega arith)).1

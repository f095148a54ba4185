use Rattle.std.proofs.Common.{◌≡◌, ◌∙◌, ap, arith, length, None, Some, sym, get_or, Bool, true, false, ◌-◌}
use Rattle.std.specs.Prelude.{if◌then◌else◌}
use Rattle.a68_elab.specs.Made.{is_out, kind_at}
use Rattle.a68_parts.proofs.Between.{between-each}
use Rattle.a68_parts.proofs.Choosing.{out_is}
use Rattle.a68_parts.proofs.nodes.out_of.Goals as goal
use Rattle.a68_tree.specs.declared.kind.NodeKind.{NodeKind}

pub returns-then-is_out-clause-out : goal.returns-then-is_out-clause-out
returns-then-is_out-clause-out c =
    let last = get_or c.args.parts.now (length c.args.parts.now - 1) 0 in
    let is : is_out (kind_at c.args.program.now last) ≡ true = sym (c.is_out.ensures ∙ ap (λ (k : NodeKind). is_out k) c.kind_at.ensures) ∙ c.if-is_out.true in
    sym (out_is c.args.program.now c.args.parts.now (omega arith) ∙ ap (λ (b : Bool). if b then Some last else None) is)

pub returns-then-is_out-clause-within : goal.returns-then-is_out-clause-within
returns-then-is_out-clause-within c =
    between-each c.args.id (length c.args.program.now.tree.nodes) (length c.args.parts.now - 1) c.args.parts.now c.requires (omega arith)

pub returns-else-is_out-clause-out : goal.returns-else-is_out-clause-out
returns-else-is_out-clause-out c =
    let last = get_or c.args.parts.now (length c.args.parts.now - 1) 0 in
    let is : is_out (kind_at c.args.program.now last) ≡ false = sym (c.is_out.ensures ∙ ap (λ (k : NodeKind). is_out k) c.kind_at.ensures) ∙ c.if-is_out.false in
    sym (out_is c.args.program.now c.args.parts.now (omega arith) ∙ ap (λ (b : Bool). if b then Some last else None) is)

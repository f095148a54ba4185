use Rattle.std.proofs.Common.{◌∙◌, sym, arith}
use Rattle.std.proofs.lemmas.Option.{slice_get-get_or}
use Rattle.a68_op_ident.proofs.Roots.{new_root, old_root}
use Rattle.a68_op_ident.proofs.place.root_to.Goals as goal

pub returns : goal.returns
returns c =
    let over = sym (rw (c.priority_of.ensures, c.priority_of-2.ensures) at c.stands_over.ensures) ∙ c.if-stands_over.false in
    λ is. old_root c.args.tokens.now c.args.k c.args.root _ _ is (slice_get-get_or c.args.tokens.now c.args.k _ c.requires.there)
    (slice_get-get_or c.args.tokens.now c.args.root _ (omega (arith, c.requires.there, c.requires.order))) over

pub returns-then-stands_over : goal.returns-then-stands_over
returns-then-stands_over c =
    let over = sym (rw (c.priority_of.ensures, c.priority_of-2.ensures) at c.stands_over.ensures) ∙ c.if-stands_over.true in
    λ is. new_root c.args.tokens.now c.args.k c.args.root _ _ is (slice_get-get_or c.args.tokens.now c.args.k _ c.requires.there)
    (slice_get-get_or c.args.tokens.now c.args.root _ (omega (arith, c.requires.there, c.requires.order))) over

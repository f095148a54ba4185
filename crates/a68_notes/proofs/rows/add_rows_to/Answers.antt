use Rattle.std.proofs.Common.{◌≡◌, arith, refl, subst}
use Rattle.a68_notes.proofs.Rowing.{one_more}
use Rattle.a68_notes.specs.Rows.{with_rows_to}
use Rattle.a68_notes.proofs.rows.add_rows_to.Goals as goal

pub loop-dims-init : goal.loop-dims-init
loop-dims-init c = record { below = c.requires.of; known = c.requires.known; added = refl }

pub add_row-requires : goal.add_row-requires
add_row-requires c = record { of = c.loop-dims.invariant.below; known = c.loop-dims.invariant.known }

pub loop-dims-preserved : goal.loop-dims-preserved
loop-dims-preserved c =
    one_more c.args.modes.now c.args.of c.loop-dims.dims c.loop-dims.modes _ c.loop-dims.known.keys _ c.loop-dims.invariant c.in_ok-add_row.ensures.known c.in_ok-add_row.ensures.added

pub returns-clause-known : goal.returns-clause-known
returns-clause-known c = c.loop-dims.invariant.known

pub returns-clause-added : goal.returns-clause-added
returns-clause-added c =
    let all : c.loop-dims.dims ≡ c.args.most = (let t = c.loop-dims-test.false in omega arith) in
    subst (λ n. c.loop-dims.modes ≡ with_rows_to c.args.modes.now n c.args.of) all c.loop-dims.invariant.added

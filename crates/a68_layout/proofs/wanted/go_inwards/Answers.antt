use Rattle.std.proofs.Common.{◌≡◌, ◌∙◌, ◌+◌, ◌<◌, length, ap, sym, subst, arith}
use Rattle.std.proofs.lemmas.Result.{err_from_is_err_and}
use Rattle.a68_layout.specs.Rooms.{all_inwards}
use Rattle.a68_layout.specs.Wanting.{IsMade, IsTooMany, rooms_in, rows_of}
use Rattle.a68_layout.specs.Widths.{most_cells}
use Rattle.a68_layout.specs.declared.types.LayoutStop.TheVariants.{Fault}
use Rattle.a68_layout.proofs.Founds.{at-here, at-next, below-as}
use Rattle.a68_layout.proofs.Levels.{made-none, made-far, made-many, made-more}
use Rattle.a68_layout.proofs.wanted.go_inwards.Goals as goal
use Rattle.a68_values.specs.declared.act.FaultKind.TheVariants as fault

pub returns-then-behind-at-clause-cells : goal.returns-then-behind-at-clause-cells
returns-then-behind-at-clause-cells c =
    let modes = c.args.modes.now in
    let rs = rooms_in modes c.args.wanted.now in
    let here = ap length (at-here modes c.loop-level.level rs c.loop-level.rows.items c.loop-level.invariant.rows) in
    let seen = ap (λ rows. length (all_inwards 1 (rows_of modes rows))) c.deref.ensures.value in
    let none : length (all_inwards c.loop-level.level rs) ≡ 0 =
    omega (arith, here, seen, c.count_level-behind.ensures, c.if-behind-at.true, c.len-at.ensures, c.loop-level.made.cells.ok.0, c.loop-level.invariant.cells.few) in
    (made-none modes c.loop-level.level rs c.loop-level.made.cells.items none c.loop-level.invariant.cells).0

pub returns-then-behind-at-clause-near : goal.returns-then-behind-at-clause-near
returns-then-behind-at-clause-near c =
    let modes = c.args.modes.now in
    let rs = rooms_in modes c.args.wanted.now in
    let here = ap length (at-here modes c.loop-level.level rs c.loop-level.rows.items c.loop-level.invariant.rows) in
    let seen = ap (λ rows. length (all_inwards 1 (rows_of modes rows))) c.deref.ensures.value in
    let none : length (all_inwards c.loop-level.level rs) ≡ 0 =
    omega (arith, here, seen, c.count_level-behind.ensures, c.if-behind-at.true, c.len-at.ensures, c.loop-level.made.cells.ok.0, c.loop-level.invariant.cells.few) in
    (made-none modes c.loop-level.level rs c.loop-level.made.cells.items none c.loop-level.invariant.cells).1

pub returns-then-behind-gt-MOST_COUNTED-clause-fault : goal.returns-then-behind-gt-MOST_COUNTED-clause-fault
returns-then-behind-gt-MOST_COUNTED-clause-fault c =
    let modes = c.args.modes.now in
    let rs = rooms_in modes c.args.wanted.now in
    let here = ap length (at-here modes c.loop-level.level rs c.loop-level.rows.items c.loop-level.invariant.rows) in
    let seen = ap (λ rows. length (all_inwards 1 (rows_of modes rows))) c.deref.ensures.value in
    let many : most_cells < length c.loop-level.made.cells.items + length (all_inwards c.loop-level.level rs) =
    omega (arith, here, seen, c.count_level-behind.ensures, c.len-at.ensures, c.loop-level.made.cells.ok.0, c.loop-level.invariant.cells.few) in
    λ kind e.
    let same : kind ≡ fault.Cells = cc in
    subst (IsTooMany modes rs) (sym same) (made-many modes c.loop-level.level rs c.loop-level.made.cells.items (omega (arith, c.len-level-end.ensures.length)) many c.loop-level.invariant.cells)

pub returns-in_err-make_level-clause-fault : goal.returns-in_err-make_level-clause-fault
returns-in_err-make_level-clause-fault c =
    let modes = c.args.modes.now in
    let rs = rooms_in modes c.args.wanted.now in
    let p = err_from_is_err_and c.from_residual-in_err-make_level.result c.from_residual-in_err-make_level.ensures.1 in
    let level = at-here modes c.loop-level.level rs c.loop-level.rows.items c.loop-level.invariant.rows in
    let here = ap length level in
    let seen = ap (λ rows. length (all_inwards 1 (rows_of modes rows))) c.deref.ensures.value in
    let next : c.count_level-behind.result ≡ length c.reserve.new.self.items + length (all_inwards c.loop-level.level rs) =
    omega (arith, here, seen, c.count_level-behind.ensures, c.len-at.ensures, c.loop-level.made.cells.ok.0, c.loop-level.invariant.cells.few, ap length c.reserve.ensures.items) in
    let is = subst (IsMade modes c.loop-level.level rs) (sym c.reserve.ensures.items) c.loop-level.invariant.cells in
    let same_rows = ap (λ rows. all_inwards 1 (rows_of modes rows)) c.deref-in-loop-level.ensures.value ∙ level in
    λ kind e.
    let same : c.in_err-make_level.field-0.0 ≡ Fault kind = cc in
    made-far modes c.loop-level.level c.count_level-behind.result rs c.reserve.new.self.items _ _ c.in_err-make_level.field-0.0 kind (omega (arith, c.len-level-end.ensures.length)) next same
    (rw same_rows at c.in_err-make_level.ensures) is

pub loop-level-preserved : goal.loop-level-preserved
loop-level-preserved c =
    let modes = c.args.modes.now in
    let rs = rooms_in modes c.args.wanted.now in
    let level = at-here modes c.loop-level.level rs c.loop-level.rows.items c.loop-level.invariant.rows in
    let here = ap length level in
    let seen = ap (λ rows. length (all_inwards 1 (rows_of modes rows))) c.deref.ensures.value in
    let next : c.count_level-behind.result ≡ length c.reserve.new.self.items + length (all_inwards c.loop-level.level rs) =
    omega (arith, here, seen, c.count_level-behind.ensures, c.len-at.ensures, c.loop-level.made.cells.ok.0, c.loop-level.invariant.cells.few, ap length c.reserve.ensures.items) in
    let is = subst (IsMade modes c.loop-level.level rs) (sym c.reserve.ensures.items) c.loop-level.invariant.cells in
    let same_rows = ap (λ rows. all_inwards 1 (rows_of modes rows)) c.deref-in-loop-level.ensures.value ∙ level in
    let below = below-as modes _ _ _ c.deref-in-loop-level-2.ensures.value c.in_ok-rows.ensures in
    record {
      rows = at-next modes c.loop-level.level rs _ _ below c.loop-level.invariant.rows;
      cells = made-more modes c.loop-level.level c.count_level-behind.result _ rs c.reserve.new.self.items _ (omega (arith, c.len-level-end.ensures.length)) next (omega arith)
          (rw same_rows at c.in_ok-make_level.ensures) is;
    }

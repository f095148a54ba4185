use Rattle.std.proofs.Common.{◌≡◌, ◌∙◌, ◌+◌, ◌<◌, [], length, refl, ap, sym, subst, arith}
use Rattle.std.proofs.lemmas.Result.{err_from_is_err_and}
use Rattle.a68_layout.specs.Rooms.{all_inwards}
use Rattle.a68_layout.specs.Wanting.{IsTooMany, rooms_in}
use Rattle.a68_layout.specs.Widths.{most_cells}
use Rattle.a68_layout.specs.declared.types.LayoutStop.TheVariants.{Fault}
use Rattle.a68_layout.proofs.Founds.{at-first}
use Rattle.a68_layout.proofs.Levels.{made-begin, made-far, made-many, made-more}
use Rattle.a68_layout.proofs.wanted.begin.Goals as goal
use Rattle.a68_values.specs.declared.act.FaultKind.TheVariants as fault

pub returns-clause-rows : goal.returns-clause-rows
returns-clause-rows c = at-first c.args.modes.now (rooms_in c.args.modes.now c.args.wanted.now) _ _ c.new-rows.ensures.items c.in_ok-find_first.ensures

pub returns-clause-cells : goal.returns-clause-cells
returns-clause-cells c =
    let rs = rooms_in c.args.modes.now c.args.wanted.now in
    let none : c.reserve.new.self.items ≡ [] = c.reserve.ensures.items ∙ c.requires in
    made-more c.args.modes.now 0 c.count_first-count.result _ rs c.reserve.new.self.items _ (omega arith)
    (omega (arith, c.count_first-count.ensures, ap length none)) (omega arith) c.in_ok-make_first.ensures (made-begin c.args.modes.now rs c.reserve.new.self.items none)

pub returns-then-count-gt-MOST_COUNTED-clause-fault : goal.returns-then-count-gt-MOST_COUNTED-clause-fault
returns-then-count-gt-MOST_COUNTED-clause-fault c =
    λ kind e.
    let rs = rooms_in c.args.modes.now c.args.wanted.now in
    let same : kind ≡ fault.Cells = cc in
    let many : most_cells < 0 + length (all_inwards 0 rs) = omega (arith, c.count_first-count.ensures) in
    subst (IsTooMany c.args.modes.now rs) (sym same) (made-many c.args.modes.now 0 rs [] (omega arith) many (made-begin c.args.modes.now rs [] refl))

pub returns-in_err-make_first-clause-fault : goal.returns-in_err-make_first-clause-fault
returns-in_err-make_first-clause-fault c =
    let rs = rooms_in c.args.modes.now c.args.wanted.now in
    let p = err_from_is_err_and c.from_residual-in_err-make_first.result c.from_residual-in_err-make_first.ensures.1 in
    let none : c.reserve.new.self.items ≡ [] = c.reserve.ensures.items ∙ c.requires in
    λ kind e.
    let same : c.in_err-make_first.field-0.0 ≡ Fault kind = cc in
    made-far c.args.modes.now 0 c.count_first-count.result rs c.reserve.new.self.items _ _ c.in_err-make_first.field-0.0 kind (omega arith)
    (omega (arith, c.count_first-count.ensures, ap length none)) same c.in_err-make_first.ensures (made-begin c.args.modes.now rs c.reserve.new.self.items none)

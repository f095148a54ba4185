use Rattle.std.proofs.Common.{◌+◌, ◌-◌, arith, drop, get_or, length, length-drop, refl, take}
use Rattle.std.proofs.lemmas.List.{take_all}
use Rattle.a68_emit.proofs.Writing.{coerced_once}
use Rattle.a68_emit.proofs.coercions.coerce_along.Goals as goal
use Rattle.a68_modes.specs.declared.coercion.Coercion.TheVariants.{Deproc}

-- what is known of the whole path is known of its end
pub coerce_once-mode-requires : goal.coerce_once-mode-requires
coerce_once-mode-requires c =
    let path = c.args.path.now in
    let at = c.loop-at.at in
    rw (take_all (length path - (at + 1)) (drop (at + 1) path) (omega (arith, length-drop (at + 1) path))) (c.last_rowings-rowings.ensures.rows (at + 1))

pub loop-at-preserved : goal.loop-at-preserved
loop-at-preserved c =
    let path = c.args.path.now in
    let at = c.loop-at.at in
    λ s end w. c.loop-at.invariant s end
    (coerced_once c.args.modes.now c.args.place c.args.goal c.loop-at.mode at c.coerce_once-mode.result path (get_or path at Deproc) Deproc (take (length path - (at + 1)) (drop (at + 1) path))
    c.loop-at.out.stop c.coerce_once-mode.new.out.stop s c.loop-at.out.list c.coerce_once-mode.new.out.list end (omega arith) refl
    (take_all (length path - (at + 1)) (drop (at + 1) path) (omega (arith, length-drop (at + 1) path))) c.coerce_once-mode.ensures.writes c.coerce_once-mode.ensures.behind w)

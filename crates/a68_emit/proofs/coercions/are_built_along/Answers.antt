use Rattle.std.proofs.Common.{◌+◌, ◌-◌, arith, drop, length, length-drop}
use Rattle.std.proofs.lemmas.List.{take_all}
use Rattle.a68_emit.proofs.coercions.are_built_along.Goals as goal

-- what is known of the whole path is known of its end
pub is_built-requires : goal.is_built-requires
is_built-requires c =
    let path = c.args.path.now in
    let at = c.loop-at.at in
    rw (take_all (length path - (at + 1)) (drop (at + 1) path) (omega (arith, length-drop (at + 1) path))) (c.last_rowings-rowings.ensures.rows (at + 1))

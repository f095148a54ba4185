use Rattle.std.proofs.Common.{◌+◌, ◌-◌, arith, drop, length, length-drop}
use Rattle.std.proofs.lemmas.List.{take_all}
use Rattle.a68_runs.proofs.paths.leaves_along.Goals as goal

-- what is known of the whole path is known of its end
pub one_more-requires : goal.one_more-requires
one_more-requires c =
    let path = c.args.path.now in
    let at = c.loop-i.i in
    rw (take_all (length path - (at + 1)) (drop (at + 1) path) (omega (arith, length-drop (at + 1) path))) (c.last_rowings-rowings.ensures.rows (at + 1))

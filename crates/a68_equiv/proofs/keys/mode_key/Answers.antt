use Rattle.std.proofs.Common.{◌≡◌, ◌<◌, ◌*◌, ◌∙◌, ℕ, List, Bool, false, [], length, sym, ap, arith, subst}
use Rattle.std.specs.List.{All}
use Rattle.std.proofs.lemmas.List.{get_or_default}
use Rattle.a68_modes.specs.Nodes.{shape_at}
use Rattle.a68_partition.specs.Rows.{row_at}
use Rattle.a68_equiv.specs.Graph.{number_of}
use Rattle.a68_equiv.specs.declared.mode.Mode.{Mode}
use Rattle.a68_equiv.proofs.Graphing.{mode_there, row_below}
use Rattle.a68_equiv.proofs.Keeping.{mode_has_key}
use Rattle.a68_equiv.proofs.Numbers.{number_mode}
use Rattle.a68_equiv.proofs.keys.mode_key.Goals as goal

pub shape-shape-requires : goal.shape-shape-requires
shape-shape-requires c =
    let m = c.mode_at-mode.result.id in
    let there = mode_there c.args.modes.now c.args.i c.mode_at-mode.result c.mode_at-mode.ensures c.requires.there in
    let l = c.requires.behind.long in
    rw (c.index.ensures ∙ get_or_default c.args.graph.now.behind.items m c.index.result.now 0 (omega arith)) (c.requires.behind.there m there)

pub key_of-requires : goal.key_of-requires
key_of-requires c =
    let nodes = c.args.modes.now in
    let rows = c.args.graph.now.rows.items in
    let m = c.mode_at-mode.result in
    let there = mode_there nodes c.args.i m c.mode_at-mode.ensures c.requires.there in
    let l = c.requires.graph.rows_long in
    let r = c.requires.there in
    let row : row_at rows (number_of m) ≡ c.index-row.result.now =
    ap (λ (a : Mode). row_at rows (number_of a)) c.mode_at-mode.ensures ∙ ap (row_at rows) (number_mode c.args.i) ∙ sym (c.index-row.ensures ∙ get_or_default rows c.args.i c.index-row.result.now (false, []) (omega arith)) in
    rw c.requires.long (subst (λ (x : Bool × List ℕ). All (λ w. w < 2 * length nodes) x.1) row (row_below nodes m (row_at rows (number_of m)) (c.requires.graph.rows_are m there)))

pub returns : goal.returns
returns c =
    let nodes = c.args.modes.now in
    let rows = c.args.graph.now.rows.items in
    let m = c.mode_at-mode.result in
    let there = mode_there nodes c.args.i m c.mode_at-mode.ensures c.requires.there in
    let l = c.requires.graph.rows_long in
    let k = c.requires.behind.long in
    let r = c.requires.there in
    mode_has_key nodes c.args.graph.now.heads.items c.args.graph.now.behind.items c.args.classes.now rows c.requires.graph c.requires.behind c.args.i m c.shape-shape.result.now c.index-row.result.now c.in_ok-key.key.items
    c.mode_at-mode.ensures there (c.shape-shape.ensures.shape ∙ ap (shape_at nodes) (c.index.ensures ∙ get_or_default c.args.graph.now.behind.items m.id c.index.result.now 0 (omega arith)))
    (c.index-row.ensures ∙ get_or_default rows c.args.i c.index-row.result.now (false, []) (omega arith)) c.in_ok-key.ensures

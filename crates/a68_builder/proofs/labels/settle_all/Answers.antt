use Rattle.std.proofs.Common.{◌≡◌, ◌<◌, arith, ap, length, sym, ◌∙◌}
use Rattle.std.proofs.lemmas.List.Edits.{map_over_more}
use Rattle.a68_builder.specs.Labels.{settled, settled_does}
use Rattle.a68_code.specs.declared.code.Instr.{Instr}
use Rattle.a68_builder.proofs.labels.settle_all.Goals as goal

pub loop-i-preserved : goal.loop-i-preserved
loop-i-preserved c =
    let x = c.index-list-i.result in
    let place = ap (λ (i : Instr). i.place) (sym c.index-list-i.is) in
    let does = c.settle.ensures ∙ ap (λ (i : Instr). settled_does c.args.labels.now i.does) (sym c.index-list-i.is) in
    rw (place, does) (map_over_more (settled c.args.labels.now) c.args.list.now c.loop-i.list c.loop-i.i x c.loop-i-test.true c.loop-i.invariant c.index-list-i.is)

use Rattle.std.proofs.Common.{◌≡◌, ◌<◌, arith, ap, length, sym, ◌∙◌}
use Rattle.std.proofs.lemmas.List.Edits.{map_over_more}
use Rattle.a68_builder.specs.Linking.{linked, linked_does}
use Rattle.a68_code.specs.declared.code.Instr.{Instr}
use Rattle.a68_builder.proofs.builder.link_all.Goals as goal

pub loop-i-preserved : goal.loop-i-preserved
loop-i-preserved c =
    let x = c.index-list-i.result in
    let place = ap (λ (i : Instr). i.place) (sym c.index-list-i.is) in
    let does = c.link.ensures ∙ ap (λ (i : Instr). linked_does c.args.units.now i.does) (sym c.index-list-i.is) in
    rw (place, does) (map_over_more (linked c.args.units.now) c.args.list.now c.loop-i.list c.loop-i.i x c.loop-i-test.true c.loop-i.invariant c.index-list-i.is)

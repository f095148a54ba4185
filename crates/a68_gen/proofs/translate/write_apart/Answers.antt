use Rattle.std.proofs.Common.{◌+◌, List, ◌∷◌, length, drop, get_or, subst}
use Rattle.std.specs.Prelude.{map}
use Rattle.a68_elab.specs.Programs.{program_of}
use Rattle.a68_elab.specs.Trees.{Apart}
use Rattle.a68_gen.proofs.Generating.{ApartAhead, apart_on, entered_cons, entered_inside}
use Rattle.a68_gen.proofs.translate.write_apart.Goals as goal
use Rattle.a68_emit.specs.Texts.{apart_of}
use Rattle.a68_emit.specs.declared.entered.Entered.{Entered}
use Rattle.a68_emit.specs.declared.entered.Entered.TheVariants as entered

pub write_entered-requires : goal.write_entered-requires
write_entered-requires c =
    entered_inside (length c.args.program.now.tree.nodes) c.loop-entered.entered-index c.apart-all.result.now (entered.Text 0) c.loop-entered-test.true c.apart-all.ensures.inside

pub loop-entered-preserved : goal.loop-entered-preserved
loop-entered-preserved c =
    let a = c.args.program.now in
    let xs = c.apart-all.result.now in
    let i = c.loop-entered.entered-index in
    let one : Entered = get_or xs i (entered.Text 0) in
    let all = (program_of a).apart in
    let left = map (apart_of a) (drop (i + 1) xs) in
    let w0 = c.args.out.now in
    let w1 = c.loop-entered.out in
    let w2 = c.write_entered.new.out in
    let old = c.loop-entered.entrances in
    let new = c.write_entered.new.entrances in
    let before : ApartAhead all (apart_of a one ∷ left) w0.stop w1.stop w0.list w1.list old.texts.items old.units.items =
    subst (λ (l : List Apart). ApartAhead all l w0.stop w1.stop w0.list w1.list old.texts.items old.units.items) (entered_cons a i xs (entered.Text 0) c.loop-entered-test.true) c.loop-entered.invariant in
    apart_on all left (apart_of a one) w0.stop w1.stop w2.stop w0.list w1.list w2.list old.texts.items new.texts.items old.units.items new.units.items before
    c.write_entered.ensures.writes c.write_entered.ensures.texts c.write_entered.ensures.units

use Rattle.std.proofs.Common.{◌≡◌, ◌≤◌, length, ap, ◌∙◌, refl, List, ℕ, rules}
use Rattle.std.specs.Prelude.{map}
use Rattle.a68_annot.specs.declared.annotated.Annotated.{Annotated}
use Rattle.a68_builder.specs.Linking.{linked}
use Rattle.a68_code.specs.declared.code.Code.{Code}
use Rattle.a68_code.specs.declared.code.RoutineEntrance.{RoutineEntrance}
use Rattle.a68_elab.specs.Programs.{program_of}
use Rattle.a68_gen.proofs.Generating.{is_translated, is_valid, stops_listing, written_of}
use Rattle.a68_gen.proofs.translate.code_of.Goals as goal
use Rattle.a68_emit.specs.Listing.{texts_entered, units_entered}
use Rattle.a68_emit.specs.Writing.{most}

pub returns-in-Some-clause-too_long : goal.returns-in-Some-clause-too_long
returns-in-Some-clause-too_long c =
    let a = c.args.program.now in
    let w0 = c.in_ok-out.out in
    let w1 = c.write_all.new.out in
    let w = written_of a c.in_ok-numbered.numbered w0.stop w1.stop w0.list w1.list c.in_ok-numbered.ensures c.in_ok-out.ensures.stop c.in_ok-out.ensures.list c.write_all.ensures.writes in
    stops_listing (program_of a) c.in-Some.stop (rw c.in-Some.is at w)

pub returns-clause-translates : goal.returns-clause-translates
returns-clause-translates c =
    let a = c.args.program.now in
    let w0 = c.in_ok-out.out in
    let w1 = c.write_all.new.out in
    let w = written_of a c.in_ok-numbered.numbered w0.stop w1.stop w0.list w1.list c.in_ok-numbered.ensures c.in_ok-out.ensures.stop c.in_ok-out.ensures.list c.write_all.ensures.writes in
    let found : List RoutineEntrance = c.write_all.new.entrances.texts.items in
    let begun : List ℕ = c.write_all.new.entrances.units.items in
    let texts : found ≡ texts_entered (program_of a) =
    c.write_all.ensures.texts c.in_default.is ∙ ap (λ (x : Annotated). texts_entered (program_of x)) c.in_ok-numbered.ensures in
    let units : begun ≡ units_entered (program_of a) =
    c.write_all.ensures.units c.in_default.is ∙ ap (λ (x : Annotated). units_entered (program_of x)) c.in_ok-numbered.ensures in
    let made : Code = record { list = map (linked begun) w1.list; texts = found; units = begun; modes = c.lay_out.new.self } in
    let few : length w1.list ≤ most = search rules in
    rw c.finish-code.ensures (is_translated a made w1.list w1.stop c.in_default.is w refl few texts units (c.lay_out.ensures ∙ c.in_ok-modes.ensures) c.requires.fits c.requires.apart)

pub returns-clause-valid : goal.returns-clause-valid
returns-clause-valid c =
    let begun : List ℕ = c.write_all.new.entrances.units.items in
    let made : Code = record { list = map (linked begun) c.write_all.new.out.list; texts = c.write_all.new.entrances.texts.items; units = begun; modes = c.lay_out.new.self } in
    let t = rw c.finish-code.ensures at (returns-clause-translates c) in
    rw c.finish-code.ensures (is_valid c.args.program.now made t (c.lay_out.ensures ∙ c.in_ok-modes.ensures) c.requires.modes c.requires.apart_modes)

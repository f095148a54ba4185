use Rattle.std.proofs.Common.{ℕ, ap, ◌∙◌}
use Rattle.a68_elab.specs.Programs.{program_of}
use Rattle.a68_gen.proofs.Generating.{all_written, behind_program}
use Rattle.a68_emit.proofs.Writing.{had_not}
use Rattle.a68_gen.proofs.translate.write_all.Goals as goal
use Rattle.a68_emit.specs.Listing.{text_entrances, unit_entrances}

pub returns-clause-writes : goal.returns-clause-writes
returns-clause-writes c =
    let w0 = c.args.out.now in
    let w1 = c.write_program.new.out in
    let w2 = c.write_apart.new.out in
    all_written (program_of c.args.program.now) w0.stop w1.stop w2.stop w0.list w1.list w2.list c.requires.empty c.write_program.ensures c.write_apart.ensures.writes

pub returns-clause-texts : goal.returns-clause-texts
returns-clause-texts c = λ none.
    let p = program_of c.args.program.now in
    let w0 = c.args.out.now in
    let w1 = c.write_program.new.out in
    let w2 = c.write_apart.new.out in
    let before = had_not w1.stop w2.stop w1.list w2.list _ c.write_apart.ensures.writes none in
    c.write_apart.ensures.texts none
    ∙ ap (λ (n : ℕ). text_entrances p.apart n) (behind_program p w0.stop w1.stop w0.list w1.list c.requires.empty c.write_program.ensures before)

pub returns-clause-units : goal.returns-clause-units
returns-clause-units c = λ none.
    let p = program_of c.args.program.now in
    let w0 = c.args.out.now in
    let w1 = c.write_program.new.out in
    let w2 = c.write_apart.new.out in
    let before = had_not w1.stop w2.stop w1.list w2.list _ c.write_apart.ensures.writes none in
    c.write_apart.ensures.units none
    ∙ ap (λ (n : ℕ). unit_entrances p.apart n) (behind_program p w0.stop w1.stop w0.list w1.list c.requires.empty c.write_program.ensures before)

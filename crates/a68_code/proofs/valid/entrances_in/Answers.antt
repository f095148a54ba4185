use Rattle.std.proofs.Common.{◌<◌, length, arith}
use Rattle.a68_code.proofs.Entering.{entrances_on}
use Rattle.a68_code.proofs.valid.entrances_in.Goals as goal

pub loop-text-preserved : goal.loop-text-preserved
loop-text-preserved c =
    let less : c.loop-text.text-index < length c.args.texts.now = omega arith in
    entrances_on c.args.yields c.args.texts.now c.loop-text.text-index _ c.loop-text.places.items c.add_entrance.new.places.items less c.loop-text.invariant c.in_ok-add_entrance.ensures

use Rattle.std.proofs.Common.{◌<◌, ℕ, List, ◌++◌, None, length, ap, ◌∙◌, arith}
use Rattle.std.specs.Prelude.{slice_index_or}
use Rattle.std.specs.declared.option.Option.{Option}
use Rattle.a68_emit.proofs.Ordered.{numbers_more}
use Rattle.a68_emit.proofs.numbered.number_apart.Goals as goal
use Rattle.a68_emit.specs.Texts.{entered_text}
use Rattle.a68_emit.specs.declared.entered.Entered.{Entered}
use Rattle.a68_emit.specs.declared.entered.UnitNode.{UnitNode}

pub loop-byte-preserved : goal.loop-byte-preserved
loop-byte-preserved c =
    let a = c.args.program.now in
    let byte = c.loop-byte.byte in
    let firsts = c.requires.first_texts in
    let unit_firsts = c.requires.first_units in
    let t : Option ℕ = slice_index_or c.args.first_texts.now byte None in
    let u : Option UnitNode = slice_index_or c.args.first_units.now byte None in
    let less : byte < length c.args.first_texts.now = c.loop-byte-test.true in
    let unit_less : byte < length c.args.first_units.now = omega (arith, less, firsts.long, unit_firsts.long) in
    numbers_more a byte t u c.loop-byte.apart.items c.keep_text.new.apart.items c.loop-byte.texts.items c.push.new.self.items c.loop-byte.units.items c.push-in-loop-byte.new.self.items
    c.loop-byte.text_count c.in_ok-text_count.text_count c.loop-byte.unit_count c.in_ok-unit_count.unit_count
    c.loop-byte.invariant (firsts.each byte less) (unit_firsts.each byte unit_less) (unit_firsts.inside byte unit_less) (c.in_ok-text_count.ensures.kept ∙ ap (λ (l : List Entered). l ++ entered_text t) c.in_ok-unit_count.ensures.kept) c.in_ok-push.ensures.items c.in_ok-push-2.ensures.items
    c.in_ok-text_count.ensures.count c.in_ok-unit_count.ensures.count

use Rattle.std.proofs.Common.{[], ◌∙◌, ap, arith, drop, length, ◌-◌}
use Rattle.std.proofs.lemmas.List.{length-take}
use Rattle.a68_base.proofs.Slices.{slice_from}
use Rattle.a68_denote.specs.Strings.{nothing}
use Rattle.a68_symbols.specs.Runs.{item_width}
use Rattle.a68_symbols.proofs.Items.{items_go_on}
use Rattle.a68_symbols.proofs.strings.items_end.Goals as goal

pub loop-n-init : goal.loop-n-init
loop-n-init c = record { low = omega arith; high = omega (arith, c.requires); items = ([], nothing) }

pub loop-n-preserved : goal.loop-n-preserved
loop-n-preserved c =
    let text = c.args.text.now in
    let i = c.loop-n.invariant in
    let width = c.item_len-width.ensures.value ∙ ap item_width (slice_from c.loop-n.n text) in
    record {
      low = omega (arith, i.low);
      high = omega (arith, c.item_len-width.ensures.within, length-take (length text - c.loop-n.n) (drop c.loop-n.n text));
      items = rw width (items_go_on text c.loop-n.n i.low (λ e. c.if-width-eq0.false (width ∙ e)) i.items);
    }

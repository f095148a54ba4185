use Rattle.std.proofs.Common.{◌≡◌, Some, slice_get, arith}
use Rattle.std.proofs.lemmas.Grind.{elements}
use Rattle.a68_symbols.proofs.Reading.{sym_here}
use Rattle.a68_symbols.proofs.symbol.Symbols.sym_at.Goals as goal

pub returns : goal.returns
returns c =
    let s : slice_get c.self.inside.items.items c.args.i ≡ Some c.index-symbol.result.now = grind (arith, elements) in
    let y : slice_get c.self.inside.syms.items c.index-symbol.result.now.name ≡ Some c.index.result.now = grind (arith, elements) in
    rw (← c.self.view_is) (sym_here _ _ _ _ _ _ c.self.invariant s y)

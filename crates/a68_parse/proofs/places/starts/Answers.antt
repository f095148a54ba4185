use Rattle.std.proofs.Common.{◌≡◌, List, [], ◌∷◌, ◌++◌, ℕ, map, take, ap, sym, ◌∙◌, arith}
use Rattle.std.proofs.lemmas.List.{take_more, map-append}
use Rattle.a68_symbols.specs.declared.symbol.Symbol.{Symbol}
use Rattle.a68_parse.proofs.Turning.{map_more}
use Rattle.a68_parse.proofs.places.starts.Goals as goal

pub loop-i-preserved : goal.loop-i-preserved
loop-i-preserved c =
    c.in_ok-push.ensures.items ∙ ap (λ (ys : List ℕ). ys ++ c.at.result.span.from ∷ []) c.loop-i.invariant
    ∙ sym (map_more (λ (s : Symbol). s.span.from) c.args.symbols.now.symbols c.loop-i.i c.at.result c.at.ensures.symbol)

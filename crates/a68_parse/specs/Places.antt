-- Places in a text.
use Rattle.std.specs.Prelude.{◌≡◌, ◌⊎◌, ℕ, List, slice_get, Some}
use Rattle.std.specs.Option.{option_map_or}
use Rattle.a68_symbols.specs.declared.symbol.Symbol.{Symbol}
use Rattle.a68_tree.specs.Nodes.{symbol_at}

-- the first byte of a symbol, or the text's end
abbrev pub IsPlace : List Symbol → ℕ → ℕ → Type 0
IsPlace symbols end place = (place ≡ end) ⊎ ((i : ℕ) × (s : Symbol) × (slice_get symbols i ≡ Some s) × (place ≡ s.span.from))

-- the first byte of the symbol at which so many are left, or the text's end
abbrev pub place_of : List Symbol → (left end : ℕ) → ℕ
place_of symbols left end = option_map_or (λ (s : Symbol). s.span.from) (symbol_at symbols left) end

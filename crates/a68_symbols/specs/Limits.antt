-- The most that a text may have.
use Rattle.std.specs.Prelude.{ℕ}
use Rattle.a68_base.specs.declared.limits.TheConstants.{MOST_BYTES, MOST_SYMBOLS}

abbrev pub most_bytes : ℕ
most_bytes = MOST_BYTES

abbrev pub most_symbols : ℕ
most_symbols = MOST_SYMBOLS

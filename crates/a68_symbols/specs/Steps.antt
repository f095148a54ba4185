-- Inner: the headline does not rest on this file.
-- What one stretch does to the symbols so far.
use Rattle.std.specs.Prelude.{◌≡◌, ℕ, ◌<◌, ◌≤◌, Bool, List, length, Result, Ok, Err}
use Rattle.a68_base.specs.declared.refusal.Span.{Span}
use Rattle.a68_base.specs.declared.refusal.Rule.TheVariants.{L2}
use Rattle.a68_base.specs.declared.refusal.Stop.{Stop}
use Rattle.a68_base.specs.declared.refusal.Stop.TheVariants.{Refused, NoMemory}
use Rattle.a68_symbols.specs.declared.form.Given.{Given}
use Rattle.a68_symbols.specs.declared.form.Given.TheVariants.{Nothing, Symbol, Broken}
use Rattle.a68_symbols.specs.Names.{Named, Adds, spelling_of}
use Rattle.a68_symbols.specs.Limits.{most_symbols}
use Rattle.a68_symbols.specs.Words.{is_long}

-- nothing, or one symbol more, or the refusal at the stretch's first byte; and whether the last symbol is LONG, as it was
-- before or as the new one is
abbrev pub Keeps : Bool → Named → Named → Given → List ℕ → Span → Result Bool Stop → Type 0
Keeps long old new Nothing s span (Ok after) = (after ≡ long) × (new ≡ old)
Keeps long old new (Symbol kind) s span (Ok after) = (after ≡ is_long kind s) × (length old.symbols < most_symbols) × Adds old new kind span (record { kind = kind; bytes = spelling_of kind s })
Keeps long old new (Broken rule) s span (Ok after) = ⊥
Keeps long old new Nothing s span (Err (Refused refusal)) = ⊥
Keeps long old new (Symbol kind) s span (Err (Refused refusal)) = (most_symbols ≤ length old.symbols) × (refusal ≡ record { rule = L2; place = span.from })
Keeps long old new (Broken rule) s span (Err (Refused refusal)) = refusal ≡ record { rule = rule; place = span.from }
Keeps long old new given s span (Err NoMemory) = Unit {0}

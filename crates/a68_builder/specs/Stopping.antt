-- Inner: the headline does not rest on this file.
-- Why an instruction can not be written.
use Rattle.std.specs.Prelude.{◌≡◌, ◌<◌, ℕ}
use Rattle.a68_base.specs.declared.limits.TheConstants.{MOST_INSTRUCTIONS}
use Rattle.a68_builder.specs.declared.builder.BuildStop.{BuildStop}
use Rattle.a68_builder.specs.declared.builder.BuildStop.TheVariants.{Full, NoMemory}

-- there are as many instructions as there may be, or there was no memory for one more
abbrev pub BuildStops : BuildStop → (count : ℕ) → Type 0
BuildStops Full count = count ≡ MOST_INSTRUCTIONS
BuildStops NoMemory count = count < MOST_INSTRUCTIONS

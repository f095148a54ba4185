-- Inner: the headline does not rest on this file.
-- Bounds that are listed one after the other, up to as many as are looked for.
use Rattle.std.specs.Prelude.{◌≡◌, ℕ, List, ◌++◌, map, take}
use Rattle.std.specs.Option.{option_map_or}
use Rattle.std.specs.declared.option.Option.{Option}
use Rattle.a68_elab.specs.Made.{further, most_bounds}
use Rattle.a68_elab.specs.declared.bound.Bound.{Bound}
use Rattle.a68_elab.specs.declared.bound.Bound.TheVariants as bound

-- a bound of a declarer that stands here, or in the definition of a mode word so many frames further out
abbrev pub seen_from : (frames : Option ℕ) → Bound → Bound
seen_from frames (bound.Written id) = option_map_or (λ n. bound.Defined n id) frames (bound.Written id)
seen_from frames (bound.Meant n) = bound.Meant n
seen_from frames (bound.Defined hops id) = option_map_or (λ n. bound.Defined (further n hops) id) frames (bound.Defined hops id)

-- how far out the definition of a mode word stands, which itself stands here or so many frames further out
abbrev pub outwards : (frames : Option ℕ) → (hops : ℕ) → ℕ
outwards frames hops = option_map_or (λ n. further n hops) frames hops

-- these bounds are added; whatever is behind so many as are looked for may be left out
abbrev pub AreAdded : (frames : Option ℕ) → (old new more : List Bound) → Type 0
AreAdded frames old new more = take most_bounds new ≡ take most_bounds (old ++ map (seen_from frames) more)

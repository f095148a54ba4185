-- The members of unions.
use Rattle.std.specs.Prelude.{ℕ, suc, List, [], ◌∷◌, None, Some, Ok, Err, nat_eq, if◌then◌else◌}
use Rattle.std.specs.Option.{option_map, option_map_or}
use Rattle.std.specs.declared.option.Option.{Option}
use Rattle.std.specs.declared.result.Result.{Result}
use Rattle.a68_modes.specs.declared.shape.Shape.{Shape}
use Rattle.a68_modes.specs.declared.shape.Shape.TheVariants as shape
use Rattle.a68_values.specs.Content.{Content, plain, united}
use Rattle.a68_values.specs.declared.act.FaultKind.{FaultKind}
use Rattle.a68_values.specs.declared.act.FaultKind.TheVariants as fault
use Rattle.a68_values.specs.declared.plain.Plain.TheVariants as value

-- the number of a mode among others, from 0
abbrev pub number_among : (mode : ℕ) → List ℕ → Option ℕ
number_among m [] = None
number_among m (n ∷ ns) = if nat_eq m n then Some 0 else option_map (λ k. suc k) (number_among m ns)

abbrev pub members_of : Shape → List ℕ
members_of (shape.Union members) = members
members_of _ = []

-- which member of a union a value has, by its number among them (Report, 3.4.1.g)
unfoldable pub member_of : Shape → Content → Result ℕ FaultKind
member_of union (united m v) = option_map_or (λ k. Ok k) (number_among m (members_of union)) (Err fault.Kind)
member_of union (plain value.Unset) = Err fault.Unset
member_of union _ = Err fault.Kind

use Rattle.a68_coerce.proofs.Longer.{interning_paths, interning_balances, interning_forms, interning_sides, interning_members}
use Rattle.a68_coerce.proofs.laws.interning_keeps_paths.Goals as goal

pub returns : goal.returns
returns c = record { paths = interning_paths; balances = interning_balances; forms = interning_forms; sides = interning_sides; members = interning_members }

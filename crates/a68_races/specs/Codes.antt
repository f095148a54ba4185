-- Inner: the headline does not rest on this file.
-- How the logic tells races apart: a code for each, which is one to one.
use Rattle.std.specs.Prelude.{ℕ, List, refl}
use Rattle.std.specs.Coded.{Coded, code_by, coded×, coded_ℕ, coded_list}
use Rattle.a68_races.specs.Shown.{Shown}
use Rattle.a68_races.specs.contracts.race.Pair as pair
use Rattle.a68_races.specs.contracts.cells.Last as last
use Rattle.a68_races.specs.declared.cells.Last.{Last}
use Rattle.a68_races.specs.declared.race.Pair.{Pair}

abbrev pub shown_pair : Shown → ℕ × List Pair
shown_pair shown = (shown.count, shown.pairs)

abbrev pub shown_code : Coded Shown
shown_code = code_by (ℕ × List Pair) (coded× coded_ℕ (coded_list pair.the_row.coded)) shown_pair (λ p. record { count = p.0; pairs = p.1 }) (λ _. refl)

abbrev pub lasts_code : Coded (List Last)
lasts_code = coded_list last.the_row.coded

abbrev pub cells_code : Coded (List (List Last))
cells_code = coded_list lasts_code

-- Inner: the headline does not rest on this file.
-- What is found of the races of a run.
use Rattle.a68_races.specs.Races.{FirstBeyond}
use Rattle.a68_top.specs.Answer.{AreRaces}
use Rattle.a68_top.specs.declared.racing.Found.{Found}
use Rattle.a68_top.specs.declared.racing.Found.TheVariants.{Told, Beyond}
use Rattle.a68_values.specs.declared.kept.Kept.{Kept}

-- the text of the races, or the first entry of a strand that is not told apart
abbrev pub IsFound : Kept → Found → Type 0
IsFound kept (Told out) = AreRaces kept out
IsFound kept (Beyond place) = FirstBeyond kept.journal.entries place

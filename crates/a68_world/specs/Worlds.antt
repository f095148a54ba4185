-- Inner: the headline does not rest on this file.
-- The machine's world as a function of the journal.
use Rattle.std.specs.Prelude.{List, [], ◌∷◌, None, Some}
use Rattle.std.specs.declared.option.Option.{Option}
use Rattle.a68_code.specs.declared.code.Code.{Code}
use Rattle.a68_exec.specs.Runs.{World, Machine, opening, acted}
use Rattle.a68_values.specs.declared.act.Act.{Act}
use Rattle.a68_values.specs.declared.act.Entry.{Entry}

-- the world behind an act; where there is none it stays
abbrev pub behind : World → Option (Act × World) → World
behind w None = w
behind w (Some next) = next.1

-- the world behind these entries, from that one
abbrev pub goes : Code → World → List Entry → World
goes code w [] = w
goes code w (e ∷ es) = goes code (behind w (acted code w e.strand)) es

-- the machine's world after a journal
abbrev pub world_of : Code → List Entry → World
world_of code entries = goes code (opening code) entries

-- the machine has this journal
abbrev pub IsJournal : Code → List Entry → Type 0
IsJournal code entries = Machine code (opening code) entries (world_of code entries)

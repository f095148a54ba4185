-- Inner: the headline does not rest on this file.
-- The entries of a run in few bytes.
use Rattle.std.specs.Prelude.{◌<◌, ⊤, ℕ, List, map, refl, slice_index_or}
use Rattle.std.specs.Coded.{Coded, code_by, coded×, coded_ℕ, coded_list}
use Rattle.a68_values.specs.declared.act.Act.{Act}
use Rattle.a68_values.specs.declared.act.Act.TheVariants as act
use Rattle.a68_values.specs.contracts.act.Entry as entry
use Rattle.a68_values.specs.declared.act.Entry.{Entry}
use Rattle.a68_values.specs.declared.log.ActKind.{ActKind}
use Rattle.a68_values.specs.declared.log.ActKind.TheVariants as kind
use Rattle.a68_values.specs.declared.log.Brief.{Brief}
use Rattle.a68_values.specs.declared.log.Brief.TheVariants as brief
use Rattle.a68_values.specs.declared.log.Numbers.{Numbers}

-- the entries, and for how many of them memory is reserved
pub record Logged : Type 0 where
  pub items : List Entry
  pub room : ℕ

-- the act of a kind with these numbers
abbrev pub act_of : ActKind → Numbers → Act
act_of kind.Enter n = act.Enter n.first
act_of kind.Bind n = act.Bind n.first n.second
act_of kind.Look n = act.Look n.first n.second
act_of kind.Make n = act.Make n.first n.second
act_of kind.Fetch n = act.Fetch n.first
act_of kind.Assign n = act.Assign n.first
act_of kind.Up n = act.Up n.first
act_of kind.Down n = act.Down n.first
act_of kind.Print n = act.Print n.first n.second
act_of kind.Turn n = act.Turn
act_of kind.Fork n = act.Fork n.first n.second
act_of kind.Close n = act.Close

-- the entry that one in few bytes stands for
abbrev pub entry_of : (apart : List Numbers) → Brief → Entry
entry_of apart (brief.Enter frame) = record { strand = 0; act = act.Enter frame }
entry_of apart (brief.Bind slot frame) = record { strand = 0; act = act.Bind frame slot }
entry_of apart (brief.Look slot frame) = record { strand = 0; act = act.Look frame slot }
entry_of apart (brief.Make count base) = record { strand = 0; act = act.Make base count }
entry_of apart (brief.Fetch cell) = record { strand = 0; act = act.Fetch cell }
entry_of apart (brief.Assign cell) = record { strand = 0; act = act.Assign cell }
entry_of apart brief.Turn = record { strand = 0; act = act.Turn }
entry_of apart (brief.Wide k strand at) = record { strand = strand; act = act_of k (slice_index_or apart at (record { first = 0; second = 0 })) }

-- the place of numbers that stand apart is among so many
abbrev pub IsAmong : ℕ → Brief → Type 0
IsAmong count (brief.Wide k strand at) = at < count
IsAmong count _ = ⊤

abbrev pub entries_of : (apart : List Numbers) → List Brief → List Entry
entries_of apart briefs = map (entry_of apart) briefs

abbrev pub logged_pair : Logged → List Entry × ℕ
logged_pair log = (log.items, log.room)

abbrev pub logged_code : Coded Logged
logged_code = code_by (List Entry × ℕ) (coded× (coded_list entry.the_row.coded) coded_ℕ) logged_pair (λ p. record { items = p.0; room = p.1 }) (λ _. refl)

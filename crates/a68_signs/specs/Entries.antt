-- Inner: the headline does not rest on this file.
-- An entry of the code's table as one of the table of signs.
use Rattle.std.specs.Prelude.{map}
use Rattle.a68_signs.specs.Signs.{SignGroup, entry}
use Rattle.a68_signs.specs.declared.signs.SignGroup.{SignGroup as CodeEntry}

abbrev pub entry_value : CodeEntry → SignGroup
entry_value e = entry (map (λ sign. sign.now) e.signs.now) e.priority e.operators.now

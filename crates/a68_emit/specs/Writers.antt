-- Inner: the headline does not rest on this file.
-- Writers before and behind a call.
use Rattle.std.specs.Prelude.{List}
use Rattle.a68_code.specs.declared.code.Instr.{Instr}
use Rattle.a68_emit.specs.Writing.{Writes}
use Rattle.a68_emit.specs.declared.writer.Writer.{Writer}

abbrev pub Wrote : Writer → Writer → List Instr → Type 0
Wrote old new written = Writes old.stop new.stop old.list new.list written

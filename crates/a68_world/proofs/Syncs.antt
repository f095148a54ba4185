-- A code may be shared by threads.
use denote.Param.Send.{IsSync, sendable}
use Rattle.std.proofs.Crossing.{crosses}
use Rattle.a68_code.proofs.code.Routines.TheSendSync as routines
use Rattle.a68_code.proofs.places.Places.TheSendSync as places
use Rattle.a68_code.specs.contracts.code.Code as code
use Rattle.a68_code.specs.contracts.code.Instr as instr
use Rattle.a68_code.specs.contracts.code.Instrs as instrs
use Rattle.a68_code.specs.contracts.does.Does as does
use Rattle.a68_layout.proofs.types.TrimForms.TheSendSync as forms
use Rattle.a68_modes.proofs.modes.Modes.TheSendSync as modes
use Rattle.a68_world.proofs.ValueMarks.{value_sync}

-- ---- the code

does_sync : IsSync (does.the_field).row
does_sync = search (sendable, crosses, value_sync, places.the_sync, forms.the_sync) depth 80 fits 12000

instr_sync : IsSync instr.the_row
instr_sync = search (sendable, crosses, does_sync) depth 20

instrs_sync : IsSync instrs.the_row
instrs_sync = search (sendable, crosses, instr_sync) depth 20

pub code_sync : IsSync (code.the_field).row
code_sync = search (sendable, crosses, instrs_sync, routines.the_sync, modes.the_sync) depth 20

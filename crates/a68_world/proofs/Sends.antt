-- A run may go to another thread.
use denote.Param.Send.{IsSend, sendable}
use Rattle.std.proofs.Crossing.{crosses}
use Rattle.a68_acts.specs.contracts.operation.Next as next
use Rattle.a68_acts.specs.contracts.step.Left as left
use Rattle.a68_acts.specs.contracts.step.Step as step
use Rattle.a68_acts.specs.contracts.step.Steps as steps
use Rattle.a68_acts.specs.contracts.want.Want as want
use Rattle.a68_base.proofs.text.Text.TheSendSync as text
use Rattle.a68_code.proofs.code.Routines.TheSendSync as routines
use Rattle.a68_code.proofs.places.Places.TheSendSync as places
use Rattle.a68_code.specs.contracts.code.Code as code
use Rattle.a68_exec.proofs.rooms.Rooms.TheSendSync as rooms
use Rattle.a68_code.specs.contracts.code.Instr as instr
use Rattle.a68_code.specs.contracts.code.Instrs as instrs
use Rattle.a68_code.specs.contracts.does.Does as does
use Rattle.a68_joined.proofs.joined.JoinedCode.TheSendSync as joined
use Rattle.a68_marks.proofs.marks.Marks.TheSendSync as marks
use Rattle.a68_rests.proofs.rests.Rests.TheSendSync as resting
use Rattle.a68_layout.proofs.types.TrimForms.TheSendSync as forms
use Rattle.a68_layout.proofs.types.Plan.TheSendSync as plan
use Rattle.a68_layout.proofs.types.Trims.TheSendSync as trims
use Rattle.a68_modes.proofs.modes.Modes.TheSendSync as modes
use Rattle.a68_store.specs.contracts.frame.Frame as frame
use Rattle.a68_store.specs.contracts.slot.Slot as slot
use Rattle.a68_store.specs.contracts.store.Store as store
use Rattle.a68_instructions.specs.contracts.ask.Ask as ask
use Rattle.a68_instructions.specs.contracts.ask.Parameters as parameters
use Rattle.a68_instructions.specs.contracts.ask.Waiting as waiting
use Rattle.a68_instructions.specs.contracts.body.About as about
use Rattle.a68_instructions.specs.contracts.body.Body as body
use Rattle.a68_stack.specs.contracts.packed.Form as form
use Rattle.a68_stack.specs.contracts.packed.Packed as kept
use Rattle.a68_stack.specs.contracts.stack.Stack as stack
use Rattle.a68_strand.specs.contracts.strand.Strand as strand
use Rattle.a68_world.specs.contracts.seat.Seat as seat
use Rattle.a68_values.proofs.chain.Chain.TheSendSync as chain
use Rattle.a68_values.proofs.chain.Entrances.TheSendSync as entrances
use Rattle.a68_values.proofs.held.Held.TheSendSync as held
use Rattle.a68_values.proofs.kept.End.TheSendSync as end
use Rattle.a68_values.proofs.log.Log.TheSendSync as log
use Rattle.a68_values.proofs.plain.Name.TheSendSync as name
use Rattle.a68_values.proofs.plain.Plain.TheSendSync as plain
use Rattle.a68_values.proofs.plain.Routine.TheSendSync as routine
use Rattle.a68_values.proofs.bounds.Bounds.TheSendSync as bounds
use Rattle.a68_world.proofs.ValueMarks.{elements_send, parts_send, value_send}
use Rattle.a68_world.specs.contracts.world.World as world

-- ---- the code

does_send : IsSend (does.the_field).row
does_send = search (sendable, crosses, value_send, places.the_send, forms.the_send) depth 80 fits 12000

instr_send : IsSend instr.the_row
instr_send = search (sendable, crosses, does_send) depth 20

instrs_send : IsSend instrs.the_row
instrs_send = search (sendable, crosses, instr_send) depth 20

code_send : IsSend (code.the_field).row
code_send = search (sendable, crosses, instrs_send, routines.the_send, modes.the_send) depth 20

-- ---- the store

frame_send : IsSend frame.the_row
frame_send = search (sendable, crosses) depth 20

slot_send : IsSend slot.the_row
slot_send = search (sendable, crosses, value_send, name.the_field_send, routine.the_field_send) depth 60

store_send : IsSend store.the_row
store_send = search (sendable, crosses, frame_send, slot_send, value_send, held.the_send) depth 20

-- ---- the strand

form_send : IsSend (form.the_field).row
form_send = search (sendable, crosses, plain.the_field_send, value_send) depth 40

kept_send : IsSend kept.the_row
kept_send = search (sendable, crosses, form_send) depth 20

stack_send : IsSend stack.the_row
stack_send = search (sendable, crosses, kept_send) depth 20

body_send : IsSend (body.the_field).row
body_send = search (sendable, crosses, stack_send, chain.the_send) depth 20

want_send : IsSend (want.the_field).row
want_send = search (sendable, crosses, value_send, plan.the_field_send, held.the_field_send, text.the_send, entrances.the_send) depth 60

ask_send : IsSend (ask.the_field).row
ask_send = search (sendable, crosses, want_send) depth 20

step_row_send : IsSend step.the_row
step_row_send = search (sendable, crosses, value_send, held.the_field_send, elements_send, bounds.the_send) depth 60 fits 8000

steps_send : IsSend steps.the_row
steps_send = search (sendable, crosses, step_row_send) depth 20

left_send : IsSend left.the_row
left_send = search (sendable, crosses, value_send) depth 20

next_send : IsSend (next.the_field).row
next_send = search (sendable, crosses, value_send, parts_send, steps_send, left_send, trims.the_send) depth 60 fits 8000

parameters_send : IsSend parameters.the_row
parameters_send = search (sendable, crosses, parts_send) depth 20

waiting_send : IsSend (waiting.the_field).row
waiting_send = search (sendable, crosses, next_send, parameters_send) depth 20

about_send : IsSend (about.the_field).row
about_send = search (sendable, crosses, ask_send, waiting_send) depth 20

strand_send : IsSend (strand.the_field).row
strand_send = search (sendable, crosses, rooms.the_send, body_send, about_send) depth 20

-- ---- the run

seat_send : IsSend (seat.the_field).row
seat_send = search (sendable, crosses, strand_send) depth 20

pub world_send : IsSend world.the_row
world_send = search (sendable, crosses, code_send, rooms.the_send, store_send, seat_send, log.the_send, marks.the_send, resting.the_send, joined.the_field_send, end.the_send) depth 20

-- the same, as what holds a run has it
pub world_field_send : IsSend (world.the_field).row
world_field_send = search (sendable, crosses, world_send) depth 20

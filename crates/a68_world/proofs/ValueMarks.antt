-- A value may go to another thread and be shared by threads.
use denote.Param.Send.{IsSend, IsSync, sendable}
use denote.Model.Local.{Parts, rows}
use denote.Model.Marks.{both_send, both_sync}
use denote.Model.Goals.{send, sync, has_of, part_has}
use Rattle.std.proofs.Crossing.{crosses}
use Rattle.a68_values.proofs.bounds.Bounds.TheSendSync as bounds
use Rattle.a68_values.proofs.plain.Layout.TheSendSync as layout
use Rattle.a68_values.proofs.plain.Plain.TheSendSync as plain
use Rattle.a68_values.specs.contracts.value.Elements.TheKnot as knot
use Rattle.a68_values.specs.contracts.value.Value as value
use Rattle.a68_values.specs.contracts.value.Values as parts
use Rattle.a68_values.specs.contracts.value.Elements as elements
use Rattle.a68_values.specs.declared.value.Elements.TheDeep.{the_members, member-Elements, member-Values, member-Value}

-- what goes to other threads, from what is within it
values_send : (p : Parts knot.frame) → IsSend (rows knot.frame p member-Value) → IsSend (knot.view-Values p)
values_send p v = search (sendable, crosses) depth 20

elements_send_in : (p : Parts knot.frame) → IsSend (rows knot.frame p member-Values) → IsSync (rows knot.frame p member-Values) → IsSend (knot.view-Elements p)
elements_send_in p s y = search (sendable, crosses) depth 20

node_send : (p : Parts knot.frame) → IsSend (rows knot.frame p member-Values) → IsSend (rows knot.frame p member-Elements) → IsSend (rows knot.frame p member-Value) → IsSend (knot.at-ValueNode p)
node_send p ps es v = search (sendable, crosses, plain.the_field_send, layout.the_field_send, bounds.the_send) depth 30

fields_send : (p : Parts knot.frame) → IsSend (rows knot.frame p member-Values) → IsSend (rows knot.frame p member-Elements) → IsSend (rows knot.frame p member-Value) → IsSend (knot.at-Value p)
fields_send p ps es v = let n = node_send p ps es v in search sendable depth 20

value_send_in : (p : Parts knot.frame) → IsSend (rows knot.frame p member-Values) → IsSend (rows knot.frame p member-Elements) → IsSend (rows knot.frame p member-Value) → IsSend (knot.view-Value p)
value_send_in p ps es v = let f = fields_send p ps es v in search sendable depth 20

-- what threads share, from what is within it
values_sync : (p : Parts knot.frame) → IsSync (rows knot.frame p member-Value) → IsSync (knot.view-Values p)
values_sync p v = search (sendable, crosses) depth 20

elements_sync : (p : Parts knot.frame) → IsSend (rows knot.frame p member-Values) → IsSync (rows knot.frame p member-Values) → IsSync (knot.view-Elements p)
elements_sync p s y = search (sendable, crosses) depth 20

node_sync : (p : Parts knot.frame) → IsSync (rows knot.frame p member-Values) → IsSync (rows knot.frame p member-Elements) → IsSync (rows knot.frame p member-Value) → IsSync (knot.at-ValueNode p)
node_sync p ps es v = search (sendable, crosses, plain.the_field_sync, layout.the_field_sync, bounds.the_sync) depth 30

fields_sync : (p : Parts knot.frame) → IsSync (rows knot.frame p member-Values) → IsSync (rows knot.frame p member-Elements) → IsSync (rows knot.frame p member-Value) → IsSync (knot.at-Value p)
fields_sync p ps es v = let n = node_sync p ps es v in search sendable depth 20

value_sync_in : (p : Parts knot.frame) → IsSync (rows knot.frame p member-Values) → IsSync (rows knot.frame p member-Elements) → IsSync (rows knot.frame p member-Value) → IsSync (knot.view-Value p)
value_sync_in p ps es v = let f = fields_sync p ps es v in search sendable depth 20

-- all of them at once, since elements that copies share ask both of what is within them
module _ (p : Parts knot.frame) (sends : (j : the_members) → IsSend (rows knot.frame p j)) (syncs : (j : the_members) → IsSync (rows knot.frame p j)) where
  step_send : (i : the_members) → IsSend (rows knot.frame (knot.step p) i)
  step_send member-Elements = has_of knot.frame send (knot.step p) member-Elements (part_has send (knot.view-Elements p) (elements_send_in p (sends member-Values) (syncs member-Values)))
  step_send member-Values = has_of knot.frame send (knot.step p) member-Values (part_has send (knot.view-Values p) (values_send p (sends member-Value)))
  step_send member-Value = has_of knot.frame send (knot.step p) member-Value (part_has send (knot.view-Value p) (value_send_in p (sends member-Values) (sends member-Elements) (sends member-Value)))

  step_sync : (i : the_members) → IsSync (rows knot.frame (knot.step p) i)
  step_sync member-Elements = has_of knot.frame sync (knot.step p) member-Elements (part_has sync (knot.view-Elements p) (elements_sync p (sends member-Values) (syncs member-Values)))
  step_sync member-Values = has_of knot.frame sync (knot.step p) member-Values (part_has sync (knot.view-Values p) (values_sync p (syncs member-Value)))
  step_sync member-Value = has_of knot.frame sync (knot.step p) member-Value (part_has sync (knot.view-Value p) (value_sync_in p (syncs member-Values) (syncs member-Elements) (syncs member-Value)))

holes_send : (i : the_members) → IsSend (rows knot.frame knot.tied i)
holes_send = both_send knot.frame knot.step knot.sizes step_send step_sync

holes_sync : (i : the_members) → IsSync (rows knot.frame knot.tied i)
holes_sync = both_sync knot.frame knot.step knot.sizes step_send step_sync

pub value_send : IsSend value.the_row
value_send = let v = holes_send member-Value in let p = holes_send member-Values in let e = holes_send member-Elements in search (sendable, crosses) depth 20

pub value_sync : IsSync value.the_row
value_sync = let v = holes_sync member-Value in let p = holes_sync member-Values in let e = holes_sync member-Elements in search (sendable, crosses) depth 20

pub parts_send : IsSend parts.the_row
parts_send = let v = holes_send member-Value in let p = holes_send member-Values in let e = holes_send member-Elements in search (sendable, crosses) depth 20

pub elements_send : IsSend elements.the_row
elements_send = let v = holes_send member-Value in let p = holes_send member-Values in let e = holes_send member-Elements in search (sendable, crosses) depth 20

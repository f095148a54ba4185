-- Inner: the headline does not rest on this file.
-- A slot as contracts see it.
use Rattle.std.specs.Prelude.{None, Some}
use Rattle.std.specs.declared.option.Option.{Option}
use Rattle.a68_values.specs.Content.{Content, plain}
use Rattle.a68_values.specs.declared.plain.Plain.TheVariants as value
use Rattle.a68_store.specs.declared.slot.SlotNode.{SlotNode}
use Rattle.a68_store.specs.declared.slot.SlotNode.TheVariants as slot

abbrev pub bound_of : SlotNode → Option Content
bound_of slot.Unbound = None
bound_of slot.Unset = Some (plain value.Unset)
bound_of (slot.Int z) = Some (plain (value.Int z))
bound_of (slot.Long l) = Some (plain (value.Long l))
bound_of (slot.Bool b) = Some (plain (value.Bool b))
bound_of (slot.Char c) = Some (plain (value.Char c))
bound_of (slot.Bits b) = Some (plain (value.Bits b))
bound_of slot.Nil = Some (plain value.Nil)
bound_of (slot.Name n) = Some (plain (value.Name n))
bound_of (slot.Routine r) = Some (plain (value.Routine r))
bound_of (slot.Sema c) = Some (plain (value.Sema c))
bound_of (slot.Other boxed) = Some boxed.value

use Rattle.std.proofs.Common.{sym, arith}
use Rattle.a68_store.proofs.Binding.{stands, slot-none, slot-some}
use Rattle.a68_store.proofs.store.Store.slot.Goals as goal

pub returns-in_err-place : goal.returns-in_err-place
returns-in_err-place c = rw c.from_residual.ensures (sym (slot-none c.self.inside c.args.self.now c.args.frame c.args.slot _ c.self.view_is c.deref.ensures.value c.in_err-place.ensures))

pub index-requires : goal.index-requires
index-requires c =
    let at = stands c.self.inside c.args.frame c.args.slot c.in_ok-place.place _ c.self.invariant c.deref.ensures.value c.in_ok-place.ensures in
    omega (arith, at.there, c.self.inside.slots.ok)

pub returns : goal.returns
returns c = sym (slot-some c.self.inside c.args.self.now c.args.frame c.args.slot c.in_ok-place.place _ c.index.result.now c.self.view_is c.self.invariant c.deref.ensures.value c.in_ok-place.ensures c.index.ensures)

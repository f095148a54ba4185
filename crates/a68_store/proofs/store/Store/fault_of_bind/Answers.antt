use Rattle.std.proofs.Common.{◌≡◌, ◌∙◌, ap, sym, arith}
use Rattle.a68_acts.specs.Does.{refused}
use Rattle.a68_acts.specs.Store.{counted}
use Rattle.a68_store.proofs.FramesLemmas.{slot-le-counted}
use Rattle.a68_store.proofs.Rows.{slot-found, bind-did}
use Rattle.a68_store.proofs.store.Store.fault_of_bind.Goals as goal

pub returns : goal.returns
returns c =
    let store = c.args.self.now in
    let found = slot-found store c.args.frame c.args.slot c.in-Some.old.now (sym c.in-Some.ensures) in
    let small = slot-le-counted store.frames c.args.frame c.args.slot found.0 c.in-Some.old.now found.1 found.2 in
    let counts : counted store ≡ c.self.inside.counted = ap counted (sym c.self.view_is) ∙ sym c.self.invariant.counted_is in
    sym (ap refused (bind-did store c.args.frame c.args.slot c.args.value.now found.0 c.in-Some.old.now found.1 found.2
    (omega (arith, counts, small, c.self.invariant.few, c.if-saturating_sub-from.false, c.weight-2.ensures, c.from.ensures, c.weight.ensures, c.saturating_add-added.ensures, c.saturating_sub.ensures))))

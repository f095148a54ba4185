use Rattle.std.proofs.Common.{◌∙◌, min, sym, ap, refl, arith}
use Rattle.a68_world.specs.Kin.{pending_at}
use Rattle.a68_world.proofs.Releasing.{due_left, due_many}
use Rattle.a68_world.proofs.waking.due_by.Goals as goal

pub returns-then-count-seats-clause-due : goal.returns-then-count-seats-clause-due
returns-then-count-seats-clause-due c =
    due_many c.args.kin.now.items c.args.seats.now c.args.n c.in-Some.first c.in-Some.count (sym c.awaited_at.ensures ∙ c.in-Some.is) (omega (arith, c.if-count-seats.true))

pub returns-clause-due : goal.returns-clause-due
returns-clause-due c =
    due_left c.args.kin.now.items c.set_pending.new.kin.items c.args.seats.now c.args.n c.in-Some.first c.in-Some.count c.min-pending.result c.still_pending-left.result _ (record {
      waits = sym c.awaited_at.ensures ∙ c.in-Some.is;
      pending_is = c.min-pending.ensures ∙ ap (λ k. min k c.in-Some.count) (c.pending_of.ensures ∙ ap (λ l. pending_at l c.args.n) c.deref.ensures.value);
      less = c.still_pending-left.ensures.less;
      closed = c.still_pending-left.ensures.closed;
      last = c.still_pending-left.ensures.last;
    }) c.set_pending.ensures refl

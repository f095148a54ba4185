use Rattle.a68_code.proofs.order.is_in_order.Goals as goal

pub returns-in-Member : goal.returns-in-Member
returns-in-Member c = rw (c.in-Member.is, c.are_behind-in-Member.ensures) (λ e. e, λ e. e)

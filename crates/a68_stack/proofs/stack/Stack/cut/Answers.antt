use Rattle.std.proofs.Common.{◌≡◌, ◌-◌, ◌∙◌, ap, sym, refl, drop, arith}
use Rattle.std.specs.Prelude.{Some}
use Rattle.a68_stack.proofs.Cutting.{is_cut, not_cut, one_off}
use Rattle.a68_stack.specs.Values.{height}
use Rattle.a68_stack.proofs.stack.Stack.cut.Goals as goal

pub returns-then-there-kept-clause-left : goal.returns-then-there-kept-clause-left
returns-then-there-kept-clause-left c = (not_cut c.args.kept c.args.self.now.items (omega arith), refl)

pub loop-preserved : goal.loop-preserved
loop-preserved c =
    (one_off c.loop.counter c.args.self.now.items c.loop.self.items c.drop_top.new.self.items c.loop.invariant.0 c.drop_top.ensures.items, c.drop_top.ensures.room ∙ c.loop.invariant.1)

pub returns-clause-left : goal.returns-clause-left
returns-clause-left c =
    let all : c.loop.counter ≡ height c.args.self.now.items - c.args.kept = omega arith in
    is_cut c.args.kept c.args.self.now.items (omega arith) ∙ ap (λ l. Some l) (sym (c.loop.invariant.0 ∙ ap (λ k. drop k c.args.self.now.items) all))

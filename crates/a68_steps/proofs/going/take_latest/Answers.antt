use Rattle.std.proofs.Common.{◌≡◌, ◌∷◌, [], ◌++◌, drop, ap, sym, ◌∙◌}
use Rattle.a68_steps.proofs.Taking.{taken-one, left-one}
use Rattle.a68_steps.proofs.going.take_latest.Goals as goal

pub loop-preserved : goal.loop-preserved
loop-preserved c =
    let e : drop c.loop.counter c.args.left.now ≡ c.in-Some.value ∷ c.pop.new.self = sym c.loop.invariant.rest ∙ c.in-Some.ensures in
    record {
      taken = c.in_ok-push-in-Some.ensures.items ∙ ap (λ l. l ++ c.in-Some.value ∷ []) c.loop.invariant.taken
          ∙ sym (taken-one c.args.left.now c.pop.new.self c.in-Some.value c.loop.counter e);
      rest = left-one c.args.left.now c.pop.new.self c.in-Some.value c.loop.counter e;
    }

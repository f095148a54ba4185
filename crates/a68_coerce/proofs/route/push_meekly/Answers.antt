use Rattle.std.proofs.Common.{◌≡◌, ◌∙◌, ◌+◌, ◌-◌, ◌++◌, ◌∷◌, [], List, ℕ, suc, sym, ap, arith}
use Rattle.std.proofs.lemmas.List.{append-nil, append_assoc}
use Rattle.a68_modes.specs.declared.coercion.Coercion.{Coercion}
use Rattle.a68_coerce.specs.Routes.{meek_way, coercion_of}
use Rattle.a68_coerce.proofs.Going.{one_step, no_step}
use Rattle.a68_coerce.proofs.route.push_meekly.Goals as goal

pub returns-in_default : goal.returns-in_default
returns-in_default c =
    let none = no_step c.args.modes.now c.loop.at c.in_default.ensures.step (c.args.count - c.loop.counter) in
    sym (ap (λ (p : List Coercion). c.loop.items.items ++ p) none ∙ append-nil c.loop.items.items) ∙ c.loop.invariant.same

pub loop-preserved : goal.loop-preserved
loop-preserved c =
    let nodes = c.args.modes.now in
    let left : c.args.count - c.loop.counter ≡ suc (c.args.count - (c.loop.counter + 1)) = omega arith in
    let way : meek_way nodes (c.args.count - c.loop.counter) c.loop.at ≡ coercion_of c.in-Some.next.dereferences ∷ meek_way nodes (c.args.count - (c.loop.counter + 1)) c.in-Some.next.to =
    ap (λ (n : ℕ). meek_way nodes n c.loop.at) left ∙ one_step c.in-Some.ensures.step (c.args.count - (c.loop.counter + 1)) in
    let pushed : c.push.new.self.items ≡ c.loop.items.items ++ coercion_of c.in-Some.next.dereferences ∷ [] =
    c.in_ok-push.ensures.items ∙ ap (λ (x : Coercion). c.loop.items.items ++ x ∷ []) c.coercion.ensures in
    record {
      there = c.in-Some.ensures.there;
      same = ap (λ (xs : List Coercion). xs ++ meek_way nodes (c.args.count - (c.loop.counter + 1)) c.in-Some.next.to) pushed
          ∙ append_assoc c.loop.items.items (coercion_of c.in-Some.next.dereferences ∷ []) (meek_way nodes (c.args.count - (c.loop.counter + 1)) c.in-Some.next.to)
          ∙ ap (λ (xs : List Coercion). c.loop.items.items ++ xs) (sym way) ∙ c.loop.invariant.same;
    }

use Rattle.std.proofs.Common.{◌≡◌, ◌<◌, ◌-◌, ◌∙◌, ◌/◌, ◌^◌, ap, suc, subst, sym, arith, List, ◌++◌, ◌∷◌, []}
use Rattle.a68_maps.proofs.Forks.{half_below, part_is, put_last, put_more}
use Rattle.a68_maps.specs.Found.{branch, fork_of, with_branch, is_even, IsMap, Puts}
use Rattle.a68_maps.specs.declared.maps.Fork.{Fork}
use Rattle.a68_maps.proofs.maps.+put.Goals as goal

pub returns-then-bits-eq0 : goal.returns-then-bits-eq0
returns-then-bits-eq0 t c = put_last c.args.forks.now.items c.args.bits c.args.map c.args.key c.args.value c.if-bits-eq0.true c.requires.key

pub put-requires : goal.put-requires
put-requires t c =
    let forks = c.args.forks.now.items in
    let one : c.args.bits ≡ suc (c.args.bits - 1) = omega (arith, c.if-bits-eq0.false) in
    let fork : c.fork_of-fork.result ≡ fork_of forks c.args.map = c.fork_of-fork.ensures ∙ ap (λ (fs : List Fork). fork_of fs c.args.map) c.deref.ensures.value in
    let branch_is : c.branch_of.result ≡ branch (fork_of forks c.args.map) (is_even c.args.key) = c.branch_of.ensures ∙ ap (λ (f : Fork). branch f (is_even c.args.key)) fork in (
      omega (arith, c.decreases, c.if-bits-eq0.false),
      (
        subst (λ m. IsMap forks (c.args.bits - 1) m) (sym branch_is) (part_is forks (c.args.bits - 1) c.args.map (is_even c.args.key) (subst (λ b. IsMap forks b c.args.map) one c.requires.map)),
        half_below (c.args.bits - 1) c.args.key (subst (λ b. c.args.key < 2 ^ b) one c.requires.key),
      ),
    )

pub returns : goal.returns
returns t c =
    let forks = c.args.forks.now.items in
    let one : c.args.bits ≡ suc (c.args.bits - 1) = omega (arith, c.if-bits-eq0.false) in
    let fork : c.fork_of-fork.result ≡ fork_of forks c.args.map = c.fork_of-fork.ensures ∙ ap (λ (fs : List Fork). fork_of fs c.args.map) c.deref.ensures.value in
    let branch_is : c.branch_of.result ≡ branch (fork_of forks c.args.map) (is_even c.args.key) = c.branch_of.ensures ∙ ap (λ (f : Fork). branch f (is_even c.args.key)) fork in
    let fork_is = c.with_branch.ensures ∙ ap (λ (f : Fork). with_branch f (is_even c.args.key) c.in_ok-part.part) fork in
    put_more forks c.put.new.forks.items c.add.new.forks.items c.args.bits (c.args.bits - 1) c.args.map c.args.key c.args.value c.in_ok-part.part c.in_ok-made.made one c.requires.key c.requires.map
    (subst (λ m. Puts forks c.put.new.forks.items (c.args.bits - 1) m (c.args.key / 2) c.args.value c.in_ok-part.part) branch_is c.in_ok-part.ensures)
    (subst (λ (f : Fork). c.add.new.forks.items ≡ c.put.new.forks.items ++ f ∷ []) fork_is (c.in_ok-made.ensures.0))
    c.in_ok-made.ensures.1

use Rattle.std.proofs.Common.{◌≡◌, ◌-◌, suc, arith, ap, ◌∙◌, List}
use Rattle.a68_maps.proofs.Forks.{look_start, look_step, look_end}
use Rattle.a68_maps.specs.Found.{branch, fork_of, is_even, found}
use Rattle.a68_maps.specs.declared.maps.Fork.{Fork}
use Rattle.a68_maps.proofs.maps.Maps.get.Goals as goal

pub bits-init : goal.bits-init
bits-init c = look_start c.args.self.now c.args.map c.args.key

pub bits-preserved : goal.bits-preserved
bits-preserved c =
    let one : c.bits.bits ≡ suc (c.bits.bits - 1) = omega arith in
    let forks_are : c.deref.result.now ≡ c.args.self.now = c.deref.ensures.value ∙ c.self.view_is in
    let branch_is : c.branch_of-at.result ≡ branch (fork_of c.args.self.now c.bits.at) (is_even c.bits.left) =
    c.branch_of-at.ensures ∙ ap (λ (f : Fork). branch f (is_even c.bits.left)) (c.fork_of.ensures ∙ ap (λ (fs : List Fork). fork_of fs c.bits.at) forks_are) in
    look_step c.args.self.now c.bits.bits (c.bits.bits - 1) c.bits.at c.branch_of-at.result c.bits.left (found c.args.self.now c.args.map c.args.key) one branch_is c.bits.invariant

pub returns : goal.returns
returns c = look_end c.args.self.now c.bits.bits c.bits.at c.bits.left (found c.args.self.now c.args.map c.args.key) (omega arith) c.bits.invariant

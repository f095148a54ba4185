use Rattle.std.proofs.Common.{◌≡◌, ◌∙◌, ℕ, length, arith, ap}
use Rattle.a68_declare.specs.Numbering.{number_in}
use Rattle.a68_declarers.specs.Numbers.{number_at}
use Rattle.a68_equiv.proofs.Pushing.{each_more, long_more}
use Rattle.a68_declare.proofs.modes.numbers_of_nodes.Goals as goal

pub loop-id-preserved : goal.loop-id-preserved
loop-id-preserved c =
    let i = c.loop-id.id in
    let is = c.number.ensures ∙ ap (number_in c.args.to.now) c.of.ensures in
    rw c.in_ok-push.ensures.items (record {
      long = long_more c.loop-id.found.items i _ c.loop-id.invariant.long;
      each = each_more (λ (d m : ℕ). m ≡ number_in c.args.to.now (number_at c.args.numbers.now d c.args.fixed)) c.loop-id.found.items i _ c.loop-id.invariant.long c.loop-id.invariant.each is;
    })

pub returns : goal.returns
returns c =
    let all : c.loop-id.id ≡ length c.args.tree.now.nodes = omega arith in
    record { long = c.loop-id.invariant.long ∙ all; each = λ d h. c.loop-id.invariant.each d (omega arith) }

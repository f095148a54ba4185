use Rattle.std.proofs.Common.{◌≡◌, ◌+◌, [], drop, sym, ◌∙◌, ap, arith, List}
use Rattle.std.proofs.lemmas.List.{drop_all}
use Rattle.a68_code.specs.declared.code.Instr.{Instr}
use Rattle.a68_emit.specs.Writing.{aim_all}
use Rattle.a68_emit.proofs.Writing.{aim_more}
use Rattle.a68_emit.proofs.writer.Writer.patch_all.Goals as goal

pub returns-clause-list : goal.returns-clause-list
returns-clause-list c =
    let end : drop c.loop-at.at-index c.args.places.now ≡ [] = drop_all c.loop-at.at-index c.args.places.now (omega arith) in
    rw end at c.loop-at.invariant.0

pub returns-clause-stop : goal.returns-clause-stop
returns-clause-stop c = c.loop-at.invariant.1

pub loop-at-preserved : goal.loop-at-preserved
loop-at-preserved c =
    let rest = drop (c.loop-at.at-index + 1) c.args.places.now in (
      ap (λ (l : List Instr). aim_all l rest c.args.to) c.patch.ensures.list
          ∙ sym (aim_more c.loop-at.self.list c.args.places.now c.loop-at.at-index c.args.to c.loop-at-test.true) ∙ c.loop-at.invariant.0,
      c.patch.ensures.stop ∙ c.loop-at.invariant.1,
    )

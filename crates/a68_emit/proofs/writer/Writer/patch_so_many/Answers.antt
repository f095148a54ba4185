use Rattle.std.proofs.Common.{◌≡◌, ◌+◌, [], drop, sym, ◌∙◌, ap, arith, List}
use Rattle.std.proofs.lemmas.List.{drop_all}
use Rattle.a68_code.specs.declared.code.Instr.{Instr}
use Rattle.a68_emit.specs.Numbers.{put_all}
use Rattle.a68_emit.proofs.Writing.{put_more}
use Rattle.a68_emit.proofs.writer.Writer.patch_so_many.Goals as goal

pub returns-clause-list : goal.returns-clause-list
returns-clause-list c =
    let end : drop c.loop-which.which c.args.places.now ≡ [] = drop_all c.loop-which.which c.args.places.now (omega arith) in
    rw end at c.loop-which.invariant.0

pub returns-clause-stop : goal.returns-clause-stop
returns-clause-stop c = c.loop-which.invariant.1

pub loop-which-preserved : goal.loop-which-preserved
loop-which-preserved c =
    let i = c.loop-which.which in
    let rest = drop (i + 1) c.args.places.now in (
      ap (λ (l : List Instr). put_all l c.args.at (i + 1) rest) c.patch_one.ensures.list ∙ sym (put_more c.loop-which.self.list c.args.at i c.args.places.now (omega arith))
          ∙ c.loop-which.invariant.0,
      c.patch_one.ensures.stop ∙ c.loop-which.invariant.1,
    )

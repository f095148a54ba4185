use Rattle.std.proofs.Common.{◌≡◌, ◌-◌, [], ap, arith}
use Rattle.a68_layout.specs.Rooms.{copies}
use Rattle.std.proofs.lemmas.List.{nil_from_length}
use Rattle.a68_layout.proofs.Founds.{among-append, copies-more, found-copies_none, left-on, left-end}
use Rattle.a68_layout.proofs.finding.repeat.Goals as goal

pub returns-then-one-eq0 : goal.returns-then-one-eq0
returns-then-one-eq0 c =
    λ modes r is.
    let none : c.args.one.now ≡ [] = nil_from_length c.args.one.now (omega arith) in
    found-copies_none modes c.args.one.now c.args.rows.now.items c.args.count r none is

pub loop-left-preserved : goal.loop-left-preserved
loop-left-preserved c = record {
  within = omega arith;
  left = λ modes r is.
      left-on modes c.loop-left.rows.items c.extend_from_slice.new.self.items (copies c.loop-left.left r) r (copies (c.loop-left.left - 1) r) c.args.rows.now.items (copies c.args.count r)
      (copies-more c.loop-left.left r (omega arith)) (among-append modes c.args.one.now c.loop-left.rows.items c.extend_from_slice.new.self.items r c.in_ok-extend_from_slice.ensures.items is)
      (c.loop-left.invariant.left modes r is);
}

pub returns : goal.returns
returns c =
    λ modes r is.
    let over : c.loop-left.left ≡ 0 = omega arith in
    left-end modes c.loop-left.rows.items (copies c.loop-left.left r) c.args.rows.now.items (copies c.args.count r) (ap (λ n. copies n r) over) (c.loop-left.invariant.left modes r is)

use Rattle.std.proofs.Common.{◌≡◌, ◌∙◌, ap, refl, arith}
use Rattle.a68_fields.proofs.Adding.{added_more, added_all}
use Rattle.a68_fields.specs.Fields.{at_key, first_field, or_else}
use Rattle.a68_fields.proofs.table.add_all.Goals as goal

pub loop-place-init : goal.loop-place-init
loop-place-init c = record {
  own = λ tag. ap (λ found. or_else found (first_field 0 tag c.args.added.now)) (c.requires tag);
  others = λ other tag apart. refl;
}

pub loop-place-preserved : goal.loop-place-preserved
loop-place-preserved c =
    let step = added_more c.args.node c.args.added.now c.loop-place.place (omega arith) c.loop-place.fields.entries c.add.new.fields.entries c.in_ok-add.field-0 c.in_ok-add.ensures in
    record {
      own = λ tag. step.own tag ∙ c.loop-place.invariant.own tag;
      others = λ other tag apart. step.others other tag apart ∙ c.loop-place.invariant.others other tag apart;
    }

pub returns-clause-own : goal.returns-clause-own
returns-clause-own c = λ tag. added_all c.args.added.now c.loop-place.place (omega arith) tag (at_key c.loop-place.fields.entries c.args.node tag) ∙ c.loop-place.invariant.own tag

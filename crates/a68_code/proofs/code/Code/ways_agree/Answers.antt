use Rattle.std.proofs.Common.{true, false}
use Rattle.a68_code.proofs.Ways.{agree_where_valid, valid_from}
use Rattle.a68_code.specs.Walk.{AreHeights}
use Rattle.a68_code.specs.declared.owner.Owner.TheVariants as owner
use Rattle.a68_code.proofs.code.Code.ways_agree.Goals as goal

pub returns : goal.returns
returns c =
    let known : AreHeights c.args.self.now owner.Program c.in-Some.program.items = rw c.in-Some.is at c.in_ok-program.ensures in
    let yielding : AreHeights c.args.self.now (owner.Texts true) c.in-Some-2.yielding.items = rw c.in-Some-2.is at c.in_ok-yielding.ensures in
    let others : AreHeights c.args.self.now (owner.Texts false) c.in-Some-3.others.items = rw c.in-Some-3.is at c.in_ok-others.ensures in
    let units : AreHeights c.args.self.now owner.Units c.in-Some-4.units.items = rw c.in-Some-4.is at c.in_ok-units.ensures in
    let all = rw (c.deref.ensures.value, c.deref-2.ensures.value, c.deref-3.ensures.value, c.deref-4.ensures.value) at c.all_agree.ensures in (
      λ e. valid_from c.args.self.now _ _ _ _ c.requires.first c.requires.fits (record { of_program = known; of_yielding = yielding; of_others = others; of_units = units }) (all.0 e),
      λ valid. all.1 (
        agree_where_valid c.args.self.now _ _ _ _ known yielding valid,
        agree_where_valid c.args.self.now _ _ _ _ known others valid,
        agree_where_valid c.args.self.now _ _ _ _ known units valid,
        agree_where_valid c.args.self.now _ _ _ _ yielding others valid,
        agree_where_valid c.args.self.now _ _ _ _ yielding units valid,
        agree_where_valid c.args.self.now _ _ _ _ others units valid,
      ),
    )

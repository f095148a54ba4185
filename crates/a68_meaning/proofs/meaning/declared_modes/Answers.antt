use Rattle.std.proofs.Common.{refl, subst}
use Rattle.a68_identify.specs.Operators.{IsRelatedPair}
use Rattle.a68_meaning.specs.Meaning.{related}
use Rattle.a68_mode_table.proofs.Whole.{all_sound}
use Rattle.a68_ranges.specs.Indexed.{IsLeast}
use Rattle.a68_meaning.proofs.meaning.declared_modes.Goals as goal

pub new-requires-clause-sound : goal.new-requires-clause-sound
new-requires-clause-sound c =
    let d = c.in_ok-declared.declared in
    let e = c.in_ok-declared.ensures in
    all_sound d.modes d.fixed.items e.modes.cleans.clean e.formed e.rows e.members (e.fixed c.requires.once)

pub returns-in-None-clause-modes : goal.returns-in-None-clause-modes
returns-in-None-clause-modes c =
    let d = c.in_ok-declared.declared in
    let e = c.in_ok-declared.ensures in
    rw c.new.ensures (record {
      are = e.modes;
      sound = all_sound d.modes d.fixed.items e.modes.cleans.clean e.formed e.rows e.members (e.fixed c.requires.once);
      unrelated = subst (λ found. IsLeast c.args.tree.now (IsRelatedPair c.args.tree.now d.modes d.of) found) c.in-None.is c.in_ok-related.ensures;
    })

pub returns-in-Some-clause-refused : goal.returns-in-Some-clause-refused
returns-in-Some-clause-refused c =
    let d = c.in_ok-declared.declared in
    let tree = c.args.tree.now in
    related d.modes d.of c.in-Some.later c.in_ok-declared.ensures.modes
    (subst (λ found. IsLeast tree (IsRelatedPair tree d.modes d.of) found) c.in-Some.is c.in_ok-related.ensures) refl c.place_of.ensures

use Rattle.std.proofs.Common.{refl, subst}
use Rattle.a68_meaning.specs.Meaning.{node}
use Rattle.a68_refusals.specs.First.{Asked, IsFirstRefused}
use Rattle.a68_meaning.proofs.meaning.find_meaning.Goals as goal

pub first_broken-requires-clause-defined : goal.first_broken-requires-clause-defined
first_broken-requires-clause-defined c = rw c.deref.ensures.value c.in_ok-meaning.ensures.below

pub first_broken-requires-clause-tables : goal.first_broken-requires-clause-tables
first_broken-requires-clause-tables c = rw c.deref-2.ensures.value (rw c.deref-3.ensures.value c.in_ok-meaning.ensures.tables)

pub first_broken-requires-clause-positions : goal.first_broken-requires-clause-positions
first_broken-requires-clause-positions c = rw c.deref-4.ensures.value c.in_ok-meaning.ensures.positions

pub returns-in-None-clause-ok : goal.returns-in-None-clause-ok
returns-in-None-clause-ok c =
    let m = c.in_ok-meaning.meaning in
    let a : Asked = record { tree = c.args.tree.now; tags = m.tags; defined = m.defined.items; nodes = m.modes; ys = m.yields.yields.items; fs = m.yields.findings.items; ps = m.positions.items } in
    let first : IsFirstRefused a c.in_ok-first.first = rw c.deref-4.ensures.value at (rw c.deref-3.ensures.value at (rw c.deref-2.ensures.value at (rw c.deref.ensures.value at c.in_ok-first.ensures))) in
    record { is = c.in_ok-meaning.ensures.is; none = subst (IsFirstRefused a) c.in-None.is first }

pub returns-in-Some-clause-refused : goal.returns-in-Some-clause-refused
returns-in-Some-clause-refused c =
    let m = c.in_ok-meaning.meaning in
    let a : Asked = record { tree = c.args.tree.now; tags = m.tags; defined = m.defined.items; nodes = m.modes; ys = m.yields.yields.items; fs = m.yields.findings.items; ps = m.positions.items } in
    let first : IsFirstRefused a c.in_ok-first.first = rw c.deref-4.ensures.value at (rw c.deref-3.ensures.value at (rw c.deref-2.ensures.value at (rw c.deref.ensures.value at c.in_ok-first.ensures))) in
    node m.of a c.in-Some.broken refl c.in_ok-meaning.ensures.is (subst (IsFirstRefused a) c.in-Some.is first) c.rule_of.ensures refl

use Rattle.std.proofs.Common.{refl}
use Rattle.std.proofs.lemmas.Result.{err_from_is_err_and}
use Rattle.a68_top.proofs.Refusing.{unsorted, unparsed}
use Rattle.a68_top.proofs.reading.read_tree.Goals as goal

pub returns-in_err-classes-clause-refused : goal.returns-in_err-classes-clause-refused
returns-in_err-classes-clause-refused c =
    let p = err_from_is_err_and c.from_residual-in_err-classes.result c.from_residual-in_err-classes.ensures.1 in rw (p.1, p.2)
    (unsorted c.args.text.now c.in_ok-found.found c.in_ok-found.ensures.answer c.in_ok-found.ensures.names c.in_err-classes.field-0.0 c.in_err-classes.ensures)

pub returns-in_err-tree-clause-refused : goal.returns-in_err-tree-clause-refused
returns-in_err-tree-clause-refused c =
    let p = err_from_is_err_and c.from_residual-in_err-tree.result c.from_residual-in_err-tree.ensures.1 in rw (p.1, p.2)
    (unparsed c.args.text.now c.in_ok-found.found c.in_ok-classes.classes _ refl c.in_ok-found.ensures.answer c.in_ok-found.ensures.names c.in_ok-classes.ensures c.in_err-tree.field-0.0 c.in_err-tree.ensures.parses)

pub returns-clause-ok : goal.returns-clause-ok
returns-clause-ok c = record {
  is = record {
    found = c.in_ok-found.found;
    symbols = c.in_ok-found.ensures.answer;
    named = c.in_ok-found.ensures.names;
    classes = c.in_ok-classes.classes;
    classed = c.in_ok-classes.ensures;
    derived = c.in_ok-tree.ensures.parses.0;
    only = c.in_ok-tree.ensures.parses.1;
    spelled = c.in_ok-tree.ensures.spellings;
    begun = c.in_ok-tree.ensures.starts;
  };
  same = refl;
}

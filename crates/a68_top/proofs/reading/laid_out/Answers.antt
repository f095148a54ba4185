use Rattle.std.proofs.Common.{◌∙◌, ap, sym}
use Rattle.a68_lister.specs.Layout.{listed, spellings_in}
use Rattle.a68_symbols.specs.Names.{Named}
use Rattle.a68_top.proofs.reading.laid_out.Goals as goal

pub returns-clause-ok : goal.returns-clause-ok
returns-clause-ok c = record {
  tree = c.in_ok-found.tree;
  is = c.in_ok-found.ensures.ok.is;
  laid_out = c.in_ok-out.ensures ∙ ap (λ (f : Named). listed (spellings_in f)) (sym c.in_ok-found.ensures.ok.same);
}

use Rattle.a68_lister.proofs.Treed.{relisting}
use Rattle.a68_lister.proofs.laws.listings_keep_the_symbols.Goals as goal

pub returns : goal.returns
returns c = relisting

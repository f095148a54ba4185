use Rattle.a68_symbols.proofs.collector.spell.Goals as goal

pub returns-in_ok-from_slice-in-Quoted : goal.returns-in_ok-from_slice-in-Quoted
returns-in_ok-from_slice-in-Quoted c = rw c.in-Quoted.is c.in_ok-from_slice-in-Quoted.ensures.items

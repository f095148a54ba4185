use Rattle.std.proofs.Common.{◌≡◌, ◌<◌, ◌∷◌, ◌++◌, length}
use Rattle.a68_acts.specs.Store.{chain_of}
use Rattle.a68_store.specs.Frames.{links_of}
use Rattle.a68_store.proofs.chains.chain_behind.Given as goal

abbrev pub invariant-loop-items : goal.invariant-loop-items
invariant-loop-items l = record {
  there : l.at < length l.frames;
  whole : l.items.items ++ chain_of (links_of l.frames) l.at ≡ l.fn.new ∷ chain_of (links_of l.frames) l.outer;
}

abbrev pub decreases-loop-items : goal.decreases-loop-items
decreases-loop-items l = l.at

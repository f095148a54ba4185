use Rattle.std.proofs.Common.{length}
use Rattle.a68_nodes.proofs.Seen.{new_seen}
use Rattle.a68_nodes.proofs.drafting.Drafting.new.Goals as goal

pub invariant_of-result : goal.invariant_of-result
invariant_of-result c = c.open.ensures.within (length c.new-3.result.items) (rw c.new-frames.ensures.items tt)

pub returns : goal.returns
returns c = record {
  built = new_seen c.new.result.items c.new-frames.result.items c.open.new.frames.items c.new-2.result.items c.new-3.result.items c.args.text.now
      c.new.ensures.items c.new-frames.ensures.items c.new-2.ensures.items c.in_ok-open.ensures.is;
}

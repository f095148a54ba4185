use Rattle.std.proofs.Common.{◌≡◌, ◌++◌, length, map}
use Rattle.a68_tree.specs.Nodes.{node_of, turned}
use Rattle.a68_nodes.specs.Views.{views}
use Rattle.a68_parse.proofs.Turning.{back}
use Rattle.a68_parse.proofs.nodes.turned.Given as goal

abbrev pub invariant-loop-draft : goal.invariant-loop-draft
invariant-loop-draft l = l.list.items ++ back l.symbols.symbols l.last (views l.drafts.items) ≡ map (node_of l.symbols.symbols) (turned (views l.fn.drafts.items))

abbrev pub decreases-loop-draft : goal.decreases-loop-draft
decreases-loop-draft l = length l.drafts.items

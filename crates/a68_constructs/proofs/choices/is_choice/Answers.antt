use Rattle.std.proofs.Common.{◌∙◌, ◌<◌, length, subst, sym, arith}
use Rattle.a68_constructs.proofs.Awaiting.{node_parts}
use Rattle.a68_constructs.proofs.choices.is_choice.Goals as goal

pub returns : goal.returns
returns c = λ is. record {
  node = c.node-node.result.now;
  note = c.note-note.result.now;
  is = c.node-node.ensures.is;
  noted = c.note-note.ensures;
  choice = c.is_bare_choice.ensures.kind c.if-not-is_bare_choice.false;
  bare = c.is_bare_choice.ensures.path c.if-not-is_bare_choice.false;
  run = c.surely_runs.ensures c.if-not-surely_runs.false;
  some = subst (λ ids. 0 < length ids) (sym (node_parts c.args.program.now.of.now c.args.id c.node-node.result.now c.parts.result.now c.node-node.ensures.is c.parts.ensures.is)) (omega arith);
}

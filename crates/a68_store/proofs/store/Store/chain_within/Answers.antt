use Rattle.std.proofs.Common.{◌≡◌, ◌∙◌, ◌∷◌, ap}
use Rattle.a68_acts.specs.Store.{chain_of}
use Rattle.a68_store.specs.Frames.{links_of}
use Rattle.a68_store.proofs.Binding.{links-chain, links-linked}
use Rattle.a68_store.proofs.store.Store.chain_within.Goals as goal

pub chain_behind-requires-clause-linked : goal.chain_behind-requires-clause-linked
chain_behind-requires-clause-linked c = rw c.deref.ensures.value (links-linked c.self.inside c.self.invariant)

pub returns : goal.returns
returns c =
    let chains : chain_of (links_of c.deref.result.now) c.args.outer ≡ chain_of c.args.self.now.frames c.args.outer =
    ap (λ fs. chain_of (links_of fs) c.args.outer) c.deref.ensures.value ∙ links-chain c.self.inside c.args.self.now c.args.outer c.self.view_is in
    c.in_ok-chain.ensures ∙ ap (λ l. c.args.new ∷ l) chains

use Rattle.std.proofs.Common.{◌≡◌, ◌∙◌, ◌+◌, ℕ, false, true, sym, arith, ap, refl, subst, vec_len}
use Rattle.std.proofs.lemmas.Option.{slice_get_read, slice_get_within}
use Rattle.a68_op_ident.proofs.Going.{pass, pass_late, left, left_late, lacking, lacking_late, shaped_formula, shaped_late}
use Rattle.a68_op_ident.proofs.Parts.{alternates, ends}
use Rattle.a68_op_ident.proofs.Late.{ranked}
use Rattle.a68_op_ident.specs.Formulas.{is_formula, Placed}
use Rattle.a68_op_ident.specs.Inner.{Going, IsLeastNumber, IsLatePlace}
use Rattle.std.specs.Prelude.{None}
use Rattle.a68_tree.specs.declared.node.Node.{Node}
use Rattle.a68_op_ident.proofs.trees.shape_at.Goals as goal

pub returns-then-not-is_formula-clause-going : goal.returns-then-not-is_formula-clause-going
returns-then-not-is_formula-clause-going c =
    let nodes = c.args.nodes.now.items in
    let n = c.index-node.result.now in
    let there = slice_get_read nodes (vec_len c.args.nodes.now) c.args.id n (omega (arith, c.args.nodes.now.ok)) c.requires.there c.index-node.ensures in
    let kind : is_formula n.kind ≡ false = sym (ap (λ (x : Node). is_formula x.kind) c.node.view_is) ∙ sym c.if-not-is_formula.ensures in
    λ flat are going. pass flat nodes c.args.id n going there kind

pub returns-then-not-is_formula-clause-late : goal.returns-then-not-is_formula-clause-late
returns-then-not-is_formula-clause-late c =
    let nodes = c.args.nodes.now.items in
    let n = c.index-node.result.now in
    let there = slice_get_read nodes (vec_len c.args.nodes.now) c.args.id n (omega (arith, c.args.nodes.now.ok)) c.requires.there c.index-node.ensures in
    let kind : is_formula n.kind ≡ false = sym (ap (λ (x : Node). is_formula x.kind) c.node.view_is) ∙ sym c.if-not-is_formula.ensures in
    λ flat are going. pass_late flat nodes c.args.id n going there kind

pub returns-in_default : goal.returns-in_default
returns-in_default c =
    let nodes = c.args.nodes.now.items in
    let n = c.index-node.result.now in
    let there = slice_get_read nodes (vec_len c.args.nodes.now) c.args.id n (omega (arith, c.args.nodes.now.ok)) c.requires.there c.index-node.ensures in
    let parts : c.deref-2.result.now ≡ n.parts = c.deref-2.ensures.value ∙ ap (λ (x : Node). x.parts) c.node.view_is in
    let none = rw (c.deref.ensures.value, parts) at (rw c.in_default.is at c.in_ok-tokens.ensures.none) in
    record {
      going = λ flat are going. left flat nodes c.args.id n going there none;
      late = λ flat are going. left_late flat nodes c.args.id n going there none;
      onward = (omega arith, omega (arith, c.requires.there), refl);
    }

pub returns-in-Some-first_late-clause-going : goal.returns-in-Some-first_late-clause-going
returns-in-Some-first_late-clause-going c =
    let nodes = c.args.nodes.now.items in
    let n = c.index-node.result.now in
    let there = slice_get_read nodes (vec_len c.args.nodes.now) c.args.id n (omega (arith, c.args.nodes.now.ok)) c.requires.there c.index-node.ensures in
    let kind : is_formula n.kind ≡ true = sym (ap (λ (x : Node). is_formula x.kind) c.node.view_is) ∙ sym c.if-not-is_formula.ensures in
    let parts : c.deref-2.result.now ≡ n.parts = c.deref-2.ensures.value ∙ ap (λ (x : Node). x.parts) c.node.view_is in
    let ts = c.in-Some.tokens.items in
    let reads = rw (c.deref.ensures.value, parts) at (rw c.in-Some.is at c.in_ok-tokens.ensures.reads) in
    let priorities = rw c.in-Some.is at c.in_ok-tokens.ensures.ranked in
    let least = rw c.deref-3.ensures.value at c.in-Some-first_late.ensures in
    λ flat are going. lacking flat nodes c.args.id n going there ts kind reads (priorities flat are) c.in-Some-first_late.place least

pub returns-in-Some-first_late-clause-late : goal.returns-in-Some-first_late-clause-late
returns-in-Some-first_late-clause-late c =
    let nodes = c.args.nodes.now.items in
    let n = c.index-node.result.now in
    let there = slice_get_read nodes (vec_len c.args.nodes.now) c.args.id n (omega (arith, c.args.nodes.now.ok)) c.requires.there c.index-node.ensures in
    let kind : is_formula n.kind ≡ true = sym (ap (λ (x : Node). is_formula x.kind) c.node.view_is) ∙ sym c.if-not-is_formula.ensures in
    let parts : c.deref-2.result.now ≡ n.parts = c.deref-2.ensures.value ∙ ap (λ (x : Node). x.parts) c.node.view_is in
    let ts = c.in-Some.tokens.items in
    let reads = rw (c.deref.ensures.value, parts) at (rw c.in-Some.is at c.in_ok-tokens.ensures.reads) in
    let priorities = rw c.in-Some.is at c.in_ok-tokens.ensures.ranked in
    let least = rw c.deref-3.ensures.value at c.in-Some-first_late.ensures in
    λ flat are going. lacking_late flat nodes c.args.id n going there ts kind reads (priorities flat are) c.in-Some-first_late.place least

pub place-requires-clause-order : goal.place-requires-clause-order
place-requires-clause-order c =
    let nodes = c.args.nodes.now.items in
    let n = c.index-node.result.now in
    let there = slice_get_read nodes (vec_len c.args.nodes.now) c.args.id n (omega (arith, c.args.nodes.now.ok)) c.requires.there c.index-node.ensures in
    let parts : c.deref-2.result.now ≡ n.parts = c.deref-2.ensures.value ∙ ap (λ (x : Node). x.parts) c.node.view_is in
    let ts = c.in-Some.tokens.items in
    let reads = rw (c.deref.ensures.value, parts) at (rw c.in-Some.is at c.in_ok-tokens.ensures.reads) in
    rw c.deref-in-None.ensures.value (alternates nodes (c.args.id + 1) false n.parts ts reads)

pub place-requires-clause-ranked : goal.place-requires-clause-ranked
place-requires-clause-ranked c =
    let ts = c.in-Some.tokens.items in
    let all = ranked ts (rw c.deref-3.ensures.value at c.in-None.ensures) in
    rw c.deref-in-None.ensures.value all

pub place-requires-clause-room : goal.place-requires-clause-room
place-requires-clause-room c =
    let nodes = c.args.nodes.now.items in
    let n = c.index-node.result.now in
    let there = slice_get_read nodes (vec_len c.args.nodes.now) c.args.id n (omega (arith, c.args.nodes.now.ok)) c.requires.there c.index-node.ensures in
    let parts : c.deref-2.result.now ≡ n.parts = c.deref-2.ensures.value ∙ ap (λ (x : Node). x.parts) c.node.view_is in
    let ts = c.in-Some.tokens.items in
    let reads = rw (c.deref.ensures.value, parts) at (rw c.in-Some.is at c.in_ok-tokens.ensures.reads) in
    let within = slice_get_within nodes c.args.id n there in
    let low = ends nodes (c.args.id + 1) false n.parts ts reads (omega (arith, within)) in
    rw c.deref-in-None.ensures.value (omega (arith, low, c.args.nodes.now.ok))

pub overflow_add-result-in-None : goal.overflow_add-result-in-None
overflow_add-result-in-None c =
    let nodes = c.args.nodes.now.items in
    let n = c.index-node.result.now in
    let there = slice_get_read nodes (vec_len c.args.nodes.now) c.args.id n (omega (arith, c.args.nodes.now.ok)) c.requires.there c.index-node.ensures in
    let parts : c.deref-2.result.now ≡ n.parts = c.deref-2.ensures.value ∙ ap (λ (x : Node). x.parts) c.node.view_is in
    let ts = c.in-Some.tokens.items in
    let reads = rw (c.deref.ensures.value, parts) at (rw c.in-Some.is at c.in_ok-tokens.ensures.reads) in
    let within = slice_get_within nodes c.args.id n there in
    let low = ends nodes (c.args.id + 1) false n.parts ts reads (omega (arith, within)) in
    let next = rw c.deref-in-None.ensures.value at c.in_ok-placed-in-None.ensures.next in
    omega (arith, low, next, c.requires.ordered.few)

pub returns-clause-going : goal.returns-clause-going
returns-clause-going c =
    let nodes = c.args.nodes.now.items in
    let n = c.index-node.result.now in
    let there = slice_get_read nodes (vec_len c.args.nodes.now) c.args.id n (omega (arith, c.args.nodes.now.ok)) c.requires.there c.index-node.ensures in
    let kind : is_formula n.kind ≡ true = sym (ap (λ (x : Node). is_formula x.kind) c.node.view_is) ∙ sym c.if-not-is_formula.ensures in
    let parts : c.deref-2.result.now ≡ n.parts = c.deref-2.ensures.value ∙ ap (λ (x : Node). x.parts) c.node.view_is in
    let ts = c.in-Some.tokens.items in
    let reads = rw (c.deref.ensures.value, parts) at (rw c.in-Some.is at c.in_ok-tokens.ensures.reads) in
    let priorities = rw c.in-Some.is at c.in_ok-tokens.ensures.ranked in
    let all = ranked ts (rw c.deref-3.ensures.value at c.in-None.ensures) in
    let placed = rw c.deref-in-None.ensures.value at c.in_ok-placed-in-None.ensures.placed in
    let next = rw c.deref-in-None.ensures.value at c.in_ok-placed-in-None.ensures.next in
    let same = rw c.deref-in-None.ensures.value at c.in_ok-placed-in-None.ensures.same in
    let put = subst (λ (z : ℕ). Placed c.place.new.nodes.items ts c.args.id z c.in_ok-placed-in-None.placed.top) next placed in
    λ flat are going. subst (λ (z : ℕ). Going flat c.place.new.nodes.items (z + 1)) (sym next)
    (shaped_formula flat nodes c.args.id n going there ts kind reads (priorities flat are) c.place.new.nodes.items c.in_ok-placed-in-None.placed.top all put same)

pub returns-clause-late : goal.returns-clause-late
returns-clause-late c =
    let nodes = c.args.nodes.now.items in
    let n = c.index-node.result.now in
    let there = slice_get_read nodes (vec_len c.args.nodes.now) c.args.id n (omega (arith, c.args.nodes.now.ok)) c.requires.there c.index-node.ensures in
    let kind : is_formula n.kind ≡ true = sym (ap (λ (x : Node). is_formula x.kind) c.node.view_is) ∙ sym c.if-not-is_formula.ensures in
    let parts : c.deref-2.result.now ≡ n.parts = c.deref-2.ensures.value ∙ ap (λ (x : Node). x.parts) c.node.view_is in
    let ts = c.in-Some.tokens.items in
    let reads = rw (c.deref.ensures.value, parts) at (rw c.in-Some.is at c.in_ok-tokens.ensures.reads) in
    let priorities = rw c.in-Some.is at c.in_ok-tokens.ensures.ranked in
    let all = ranked ts (rw c.deref-3.ensures.value at c.in-None.ensures) in
    let placed = rw c.deref-in-None.ensures.value at c.in_ok-placed-in-None.ensures.placed in
    let next = rw c.deref-in-None.ensures.value at c.in_ok-placed-in-None.ensures.next in
    let same = rw c.deref-in-None.ensures.value at c.in_ok-placed-in-None.ensures.same in
    let put = subst (λ (z : ℕ). Placed c.place.new.nodes.items ts c.args.id z c.in_ok-placed-in-None.placed.top) next placed in
    λ flat are going. subst (λ (z : ℕ). IsLeastNumber (IsLatePlace flat c.args.id (z + 1)) None) (sym next)
    (shaped_late flat nodes c.args.id n going there ts kind reads (priorities flat are) c.place.new.nodes.items c.in_ok-placed-in-None.placed.top all put same)

pub returns-clause-onward : goal.returns-clause-onward
returns-clause-onward c =
    let nodes = c.args.nodes.now.items in
    let n = c.index-node.result.now in
    let there = slice_get_read nodes (vec_len c.args.nodes.now) c.args.id n (omega (arith, c.args.nodes.now.ok)) c.requires.there c.index-node.ensures in
    let parts : c.deref-2.result.now ≡ n.parts = c.deref-2.ensures.value ∙ ap (λ (x : Node). x.parts) c.node.view_is in
    let ts = c.in-Some.tokens.items in
    let reads = rw (c.deref.ensures.value, parts) at (rw c.in-Some.is at c.in_ok-tokens.ensures.reads) in
    let within = slice_get_within nodes c.args.id n there in
    let low = ends nodes (c.args.id + 1) false n.parts ts reads (omega (arith, within)) in
    let placed = rw c.deref-in-None.ensures.value at c.in_ok-placed-in-None.ensures.placed in
    let next = rw c.deref-in-None.ensures.value at c.in_ok-placed-in-None.ensures.next in
    let same = rw c.deref-in-None.ensures.value at c.in_ok-placed-in-None.ensures.same in
    let put = subst (λ (z : ℕ). Placed c.place.new.nodes.items ts c.args.id z c.in_ok-placed-in-None.placed.top) next placed in
    let long = same.long in
    (omega (arith, next), omega (arith, low, next, long, c.place.new.nodes.ok), omega (arith, long, c.place.new.nodes.ok, c.args.nodes.now.ok))

-- Where all nodes of a tree begin by a byte, so do those of its shaped tree; so the tree is refused at a place of its own.
use Rattle.std.proofs.Common.{◌≡◌, ℕ, ◌≤◌, List, arith, refl, sym, subst, Some, None, slice_get}
use Rattle.std.specs.Option.{option_map_or}
use Rattle.std.specs.declared.option.Option.{Option}
use Rattle.a68_annot.specs.declared.annotated.Annotated.{Annotated}
use Rattle.a68_base.specs.declared.refusal.Refusal.{Refusal}
use Rattle.a68_check.specs.Annotates.{Annotates, Refuses, declared_twice, misused, unshaped}
use Rattle.a68_meaning.specs.Meaning.{IsMisused}
use Rattle.a68_op_ident.specs.Shapes.{Shaped, IsBegun}
use Rattle.a68_ranges.specs.Nodes.{place_at}
use Rattle.a68_tree.specs.Trees.{Built}
use Rattle.a68_tree.specs.declared.node.Node.{Node}

-- all nodes of a list begin by a byte
abbrev BeginBy : List Node → (end : ℕ) → Type 0
BeginBy nodes end = (id : ℕ) (n : Node) → slice_get nodes id ≡ Some n → n.span.from ≤ end

begins_at : (end : ℕ) (o : Option Node) → ((n : Node) → o ≡ Some n → n.span.from ≤ end) → option_map_or (λ (n : Node). n.span.from) o 0 ≤ end
begins_at end None h = omega arith
begins_at end (Some n) h = h n refl

place_by : (tree : Built) (end : ℕ) → BeginBy tree.nodes end → (id : ℕ) → place_at tree id ≤ end
place_by tree end by id = begins_at end (slice_get tree.nodes id) (λ n at. by id n at)

-- all symbols of a text do
abbrev StartBy : List ℕ → (end : ℕ) → Type 0
StartBy starts end = (i s : ℕ) → slice_get starts i ≡ Some s → s ≤ end

module _ (misuse : (tree : Built) (end : ℕ) (r : Refusal) → BeginBy tree.nodes end → StartBy tree.starts end → IsMisused tree r → r.place ≤ end) (begun : (flat shaped : Built) → Shaped flat shaped → (id : ℕ) (n : Node) → slice_get shaped.nodes id ≡ Some n → IsBegun flat.nodes n.span.from) where
  shaped_by : (flat shaped : Built) (end : ℕ) → BeginBy flat.nodes end → Shaped flat shaped → BeginBy shaped.nodes end
  shaped_by flat shaped end by s id n at =
      let b = begun flat shaped s id n at in
      let e = b.here in
      let w = by b.id b.node b.there in
      omega arith

  pub refused_by : (flat : Built) (end : ℕ) (r : Refusal) → BeginBy flat.nodes end → StartBy flat.starts end → Refuses flat r → r.place ≤ end
  refused_by flat end r by starts (declared_twice t) = let e = t.place_is in let w = place_by flat end by t.id in omega arith
  refused_by flat end r by starts (unshaped once t) = let e = t.place_is in let w = place_by flat end by t.id in omega arith
  refused_by flat end r by starts (misused shaped once is b) =
      misuse shaped end r (shaped_by flat shaped end by is) (subst (λ x. StartBy x end) (sym is.starts) starts) b

  pub annotated_by : (flat : Built) (end : ℕ) (program : Annotated) → BeginBy flat.nodes end → Annotates flat program → BeginBy program.tree.nodes end
  annotated_by flat end program by a = shaped_by flat program.tree end by a.shaped

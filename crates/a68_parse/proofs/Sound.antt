-- What a tree keeps holds of the drafts of a derivation.
use Rattle.std.proofs.Common.{◌≡◌, ℕ, ◌-◌, ◌<◌, ◌^◌, List, [], ◌∷◌, length, map, slice_get, Option, None, Some, Bool, true, false, nat_eq, if◌then◌else◌, refl, sym, ap, ◌∙◌, arith, length-append}
use Rattle.std.specs.Option.{option_map}
use Rattle.std.proofs.lemmas.List.{length-map, length-reverse}
use Rattle.std.proofs.lemmas.Option.{slice_get-map}
use Rattle.a68_symbols.specs.declared.symbol.Symbol.{Symbol}
use Rattle.a68_symbols.specs.Names.{HaveNames}
use Rattle.a68_tree.specs.declared.kind.NodeKind.{NodeKind}
use Rattle.a68_tree.specs.declared.node.Node.{Node}
use Rattle.a68_tree.specs.Forest.{Forest}
use Rattle.a68_tree.specs.Nodes.{Entry, turned, turned_entry, with_under, entry_of, with_node, symbol_at, name_of, node_of}
use Rattle.a68_tree.specs.Trees.{IsSound, entries}
use Rattle.a68_tree.proofs.Order.{listed_behind}
use Rattle.a68_nodes.specs.declared.draft.Draft.{Draft}
use Rattle.a68_nodes.specs.Views.{view, views}
use Rattle.a68_parse.specs.Drafted.{AreDrafted}

first_name : (symbols : List Symbol) (count : ℕ) → HaveNames symbols count → 0 < length symbols → 0 < count
first_name [] count named h = absurd (omega (arith, h))
first_name (s ∷ more) count named h = let n = named 0 s refl in omega (arith, n)

name_below : (count : ℕ) (o : Option Symbol) → 0 < count → ((s : Symbol) → o ≡ Some s → s.name < count) → name_of o < count
name_below count None some h = some
name_below count (Some s) some h = h s refl

either_below : (count : ℕ) (c : Bool) (n : ℕ) → 0 < count → n < count → (if c then 0 else n) < count
either_below count true n some h = some
either_below count false n some h = h

node_below : (symbols : List Symbol) (count : ℕ) → HaveNames symbols count → 0 < count → (e : Entry) → (node_of symbols e).name < count
node_below symbols count named some e =
    either_below count (nat_eq e.before e.after) (name_of (symbol_at symbols e.named)) some
    (name_below count (symbol_at symbols e.named) some (λ s f. named (length symbols - e.named) s f))

opened : (symbols : List Symbol) (count : ℕ) → HaveNames symbols count → 0 < count → (o : Option Entry) (n : Node) → option_map (node_of symbols) o ≡ Some n → n.name < count
opened symbols count named some None n e = cc
opened symbols count named some (Some x) n e = let same : node_of symbols x ≡ n = cc in rw (← same) (node_below symbols count named some x)

some_nodes : (new : List Entry) (h : NodeKind) (u : Forest) → new ≡ with_node [] [] h u [] → 0 < length new
some_nodes new h u e =
    let a = length-append (with_under [] [] u []) (entry_of [] [] h u [] ∷ []) in
    let c = ap length e in omega (arith, a, c)

module _ (symbols : List Symbol) (new : List Entry) (d : AreDrafted new) (list : List Node) (e : list ≡ map (node_of symbols) (turned new)) where
  pub listed : list ≡ map (node_of symbols) (entries d.kind d.under)
  listed = e ∙ ap (λ (x : List Entry). map (node_of symbols) (turned x)) d.added

  pub tree_sound : length new < 2 ^ 32 → 0 < length symbols → (count : ℕ) → HaveNames symbols count → IsSound list count
  tree_sound few filled count named =
      let size : length list ≡ length new =
      ap length e ∙ length-map (turned new) (node_of symbols) ∙ length-reverse (map (turned_entry (length new - 1)) new) ∙ length-map new (turned_entry (length new - 1)) in
      let some : 0 < count = first_name symbols count named filled in
      record {
        some = let x = some_nodes new d.kind d.under d.added in omega (arith, x, size);
        few = omega (arith, size, few);
        behind = listed_behind symbols d.kind d.under list listed;
        named = λ i x f. opened symbols count named some (slice_get (turned new) i) x (sym (slice_get-map (node_of symbols) (turned new) i) ∙ ap (λ (l : List Node). slice_get l i) (sym e) ∙ f);
      }

pub draft_count : (ds : List Draft) → length (views ds) ≡ length ds
draft_count ds = length-map ds view

-- A text is refused at a place within it.
use Rattle.std.proofs.Common.{◌≡◌, ℕ, ◌≤◌, List, length, map, refl, inl, inr, arith, Some, None, slice_get, sym, ◌∙◌, ap}
use Rattle.std.proofs.lemmas.Option.{same_Some, slice_get-map}
use Rattle.std.specs.Option.{option_map}
use Rattle.std.specs.declared.option.Option.{Option}
use Rattle.a68_annot.specs.declared.annotated.Annotated.{Annotated}
use Rattle.a68_base.specs.declared.refusal.Refusal.{Refusal}
use Rattle.a68_base.specs.declared.refusal.Rule.{Rule}
use Rattle.a68_check.specs.Annotates.{Annotates, Refuses}
use Rattle.a68_gen.specs.Refusals.{IsNotGenerated}
use Rattle.a68_parse.specs.Parses.{IsTree}
use Rattle.a68_symbols.specs.Names.{Named}
use Rattle.a68_symbols.specs.Symbols.{SymbolsAre, piece_of, IsRefused as IsBroken}
use Rattle.a68_symbols.specs.declared.symbol.Symbol.{Symbol}
use Rattle.a68_top.specs.Compiles.{IsTreeOf, RefusedAs, untreed, unlike_symbols, unclassed, no_tree, no_meaning, not_generated}
use Rattle.a68_tree.specs.Trees.{Built}
use Rattle.a68_tree.specs.declared.node.Node.{Node}
use Rattle.a68_parse.specs.Places.{IsPlace}
use Rattle.a68_words.specs.declared.class.Class.{Class}

-- what the laws of the lower crates say of places, as these give it
pub record Bounds : Type 0 where
  pub broken : (text : List ℕ) (rule : Rule) (place : ℕ) → IsBroken text rule place → place ≤ length text
  pub symbols : (text : List ℕ) (found : Named) → SymbolsAre text (map piece_of found.symbols) → (i : ℕ) (s : Symbol) → slice_get found.symbols i ≡ Some s → s.span.from ≤ length text
  pub nodes : (text : List ℕ) (found : Named) (classes : List (Option Class)) (list : List Node) → SymbolsAre text (map piece_of found.symbols) → IsTree found classes list
      → (id : ℕ) (n : Node) → slice_get list id ≡ Some n → n.span.from ≤ length text
  pub refused : (flat : Built) (end : ℕ) (r : Refusal) → ((id : ℕ) (n : Node) → slice_get flat.nodes id ≡ Some n → n.span.from ≤ end)
      → ((i s : ℕ) → slice_get flat.starts i ≡ Some s → s ≤ end) → Refuses flat r → r.place ≤ end
  pub annotated : (flat : Built) (end : ℕ) (program : Annotated) → ((id : ℕ) (n : Node) → slice_get flat.nodes id ≡ Some n → n.span.from ≤ end)
      → Annotates flat program → (id : ℕ) (n : Node) → slice_get program.tree.nodes id ≡ Some n → n.span.from ≤ end
  pub ungenerated : (program : Annotated) (end : ℕ) (r : Refusal) → ((id : ℕ) (n : Node) → slice_get program.tree.nodes id ≡ Some n → n.span.from ≤ end)
      → IsNotGenerated program r → r.place ≤ end

at_place : (symbols : List Symbol) (end place : ℕ) → ((i : ℕ) (s : Symbol) → slice_get symbols i ≡ Some s → s.span.from ≤ end) → IsPlace symbols end place → place ≤ end
at_place symbols end place h (inl e) = omega arith
at_place symbols end place h (inr p) = let e = p.3 in let w = h p.0 p.1 p.2 in omega arith

symbol_of : (o : Option Symbol) (s end : ℕ) → ((x : Symbol) → o ≡ Some x → x.span.from ≤ end) → option_map (λ (x : Symbol). x.span.from) o ≡ Some s → s ≤ end
symbol_of None s end h e = absurd (cc)
symbol_of (Some x) s end h e = let same = same_Some x.span.from s e in let le = h x refl in omega arith

start_of : (symbols : List Symbol) (i s end : ℕ) → ((k : ℕ) (x : Symbol) → slice_get symbols k ≡ Some x → x.span.from ≤ end)
    → slice_get (map (λ (x : Symbol). x.span.from) symbols) i ≡ Some s → s ≤ end
start_of symbols i s end h at = symbol_of (slice_get symbols i) s end (h i) (sym (slice_get-map (λ (x : Symbol). x.span.from) symbols i) ∙ at)

module _ (laws : Bounds) (text : List ℕ) where
  -- a node of the tree of a text begins within it
  tree_within : (tree : Built) → IsTreeOf text tree → (id : ℕ) (n : Node) → slice_get tree.nodes id ≡ Some n → n.span.from ≤ length text
  tree_within tree is = laws.nodes text is.found is.classes tree.nodes is.symbols is.derived

  -- so does a symbol
  starts_within : (tree : Built) → IsTreeOf text tree → (i s : ℕ) → slice_get tree.starts i ≡ Some s → s ≤ length text
  starts_within tree is i s at =
      start_of is.found.symbols i s (length text) (laws.symbols text is.found is.symbols) (sym (ap (λ l. slice_get l i) is.begun) ∙ at)

  pub place_within : (r : Refusal) → RefusedAs text r → r.place ≤ length text
  place_within r (untreed (unlike_symbols v)) = laws.broken text r.rule r.place v.refused
  place_within r (untreed (unclassed found symbols named v)) = let e = v.here in let w = laws.symbols text found symbols v.at v.symbol v.is in omega arith
  place_within r (untreed (no_tree found classes symbols named classed v)) = at_place found.symbols (length text) r.place (laws.symbols text found symbols) v.1
  place_within r (no_meaning tree is v) = laws.refused tree (length text) r (tree_within tree is) (starts_within tree is) v
  place_within r (not_generated program is v) =
      laws.ungenerated program (length text) r (laws.annotated is.tree (length text) program (tree_within is.tree is.is) is.annotates) v

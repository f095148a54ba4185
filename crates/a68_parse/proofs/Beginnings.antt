-- The nodes of a tree begin within its text.
use Rattle.std.proofs.Common.{◌≡◌, ℕ, zero, suc, ◌≤◌, ◌-◌, List, [], ◌∷◌, length, map, slice_get, Option, Some, None, refl, subst, arith}
use Rattle.std.proofs.lemmas.Option.{same_Some}
use Rattle.a68_symbols.specs.declared.symbol.Symbol.{Symbol}
use Rattle.a68_symbols.specs.Names.{Named}
use Rattle.a68_symbols.specs.Symbols.{SymbolsAre, piece_of}
use Rattle.a68_tree.specs.declared.node.Node.{Node}
use Rattle.a68_tree.specs.Nodes.{Entry, node_of, first_byte, symbol_at}
use Rattle.a68_tree.specs.Trees.{entries}
use Rattle.a68_words.specs.declared.class.Class.{Class}
use Rattle.a68_parse.proofs.Bounds.{symbols_within}
use Rattle.a68_parse.specs.Parses.{IsTree}

first_within : (end : ℕ) (o : Option Symbol) → ((s : Symbol) → o ≡ Some s → s.span.from ≤ end) → first_byte o ≤ end
first_within end None h = omega arith
first_within end (Some s) h = h s refl

entry_within : (symbols : List Symbol) (end : ℕ) (es : List Entry) → ((i : ℕ) (s : Symbol) → slice_get symbols i ≡ Some s → s.span.from ≤ end)
    → (id : ℕ) (n : Node) → slice_get (map (node_of symbols) es) id ≡ Some n → n.span.from ≤ end
entry_within symbols end [] h id n e = absurd (cc)
entry_within symbols end (x ∷ es) h zero n e =
    subst (λ (m : Node). m.span.from ≤ end) (same_Some (node_of symbols x) n e) (first_within end (symbol_at symbols x.before) (λ s is. h (length symbols - x.before) s is))
entry_within symbols end (x ∷ es) h (suc id) n e = entry_within symbols end es h id n e

pub nodes_within : (text : List ℕ) (found : Named) (classes : List (Option Class)) (list : List Node) → SymbolsAre text (map piece_of found.symbols) → IsTree found classes list
    → (id : ℕ) (n : Node) → slice_get list id ≡ Some n → n.span.from ≤ length text
nodes_within text found classes list are t id n e =
    entry_within found.symbols (length text) (entries t.kind t.under) (symbols_within text found are) id n (subst (λ (l : List Node). slice_get l id ≡ Some n) t.listed e)

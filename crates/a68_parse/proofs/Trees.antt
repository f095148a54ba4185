-- From the one derivation of the symbols to the tree.
use Rattle.std.proofs.Common.{◌≡◌, ◌<◌, ◌≤◌, ◌^◌, List, [], ◌∷◌, length, map, Option, sym, ap, ◌∙◌, arith}
use Rattle.std.proofs.lemmas.List.{length-map}
use Rattle.a68_symbols.specs.Limits.{most_symbols}
use Rattle.a68_symbols.specs.Names.{Named}
use Rattle.a68_tree.specs.declared.kind.NodeKind.{NodeKind}
use Rattle.a68_tree.specs.declared.node.Node.{Node}
use Rattle.a68_symbols.specs.declared.sym.Sym.{Sym}
use Rattle.a68_tree.specs.Forest.{Forest, spells}
use Rattle.a68_tree.specs.Grammar.{IsEnclosed}
use Rattle.a68_tree.specs.Nodes.{Entry, node_of}
use Rattle.a68_symbols.specs.Spellings.{syms_of, sym_in}
use Rattle.a68_tree.specs.Trees.{entries}
use Rattle.a68_tree.proofs.Three.{entries_few}
use Rattle.a68_lookahead.proofs.Firsts.{first_enclosed}
use Rattle.a68_read.specs.Readings.{HasNoTree, ReadProgram}
use Rattle.a68_parse.specs.Drafted.{AreDrafted}
use Rattle.a68_words.specs.declared.class.Class.{Class}
use Rattle.a68_parse.specs.Texts.{text_of, classed}
use Rattle.a68_parse.specs.Parses.{IsTree}

classed_few : (ss : List Sym) (cs : List (Option Class)) → length (classed ss cs) ≤ length ss
classed_few [] cs = omega (arith)
classed_few (s ∷ ss) [] = omega (arith)
classed_few (s ∷ ss) (c ∷ cs) = let h = classed_few ss cs in omega (arith, h)

text_few : (found : Named) (classes : List (Option Class)) → length (text_of found classes) ≤ length found.symbols
text_few found classes =
    let b = classed_few (syms_of found) classes in
    let c = length-map found.symbols (sym_in found) in omega (arith, b, c)

-- a text that has a derivation has a symbol
some_symbols : (text : List Sym) (kind : NodeKind) (under : Forest) → IsEnclosed kind under → text ≡ spells under [] → 0 < length text
some_symbols text kind under p e = let b = first_enclosed p [] in let h = ap length (e ∙ b.is) in omega (arith, h)

pub tree_filled : (found : Named) (classes : List (Option Class)) (list : List Node) → IsTree found classes list → 0 < length found.symbols
tree_filled found classes list t = let a = some_symbols (text_of found classes) t.kind t.under t.is t.spelled in let b = text_few found classes in omega (arith, a, b)

module _ (found : Named) (classes : List (Option Class)) (text : List Sym) (new : List Entry) (same : text ≡ text_of found classes) (p : ReadProgram text new) where
  abbrev pub drafted : AreDrafted new
  drafted = record { kind = p.kind; under = p.under; added = p.added }

  pub filled : 0 < length found.symbols
  filled = let a = some_symbols text p.kind p.under p.is p.spelled in let b = text_few found classes in let c = ap length same in omega (arith, a, b, c)

  pub few : length found.symbols ≤ most_symbols → length new < 2 ^ 32
  few h =
      let a = entries_few text p.kind p.under p.is p.spelled in
      let b = text_few found classes in
      let c = ap length same in
      let d = ap length p.added in omega (arith, a, b, c, d, h)

  pub derived : (list : List Node) → list ≡ map (node_of found.symbols) (entries p.kind p.under) → IsTree found classes list
  derived list e = record { kind = p.kind; under = p.under; is = p.is; spelled = sym same ∙ p.spelled; listed = e }

  pub only : (list : List Node) → list ≡ map (node_of found.symbols) (entries p.kind p.under) → (others : List Node) → IsTree found classes others → others ≡ list
  only list e others o =
      let q = p.only o.kind o.under o.is (same ∙ o.spelled) in
      o.listed ∙ ap (λ (k : NodeKind). map (node_of found.symbols) (entries k o.under)) q.0 ∙ ap (λ (u : Forest). map (node_of found.symbols) (entries p.kind u)) q.1 ∙ sym e

pub no_tree : (found : Named) (classes : List (Option Class)) (text : List Sym) → text ≡ text_of found classes → HasNoTree text → (list : List Node) → IsTree found classes list → ⊥
no_tree found classes text same none list o = none o.kind o.under o.is (same ∙ o.spelled)

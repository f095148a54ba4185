-- What a text is made into, and why another one is refused.
use Rattle.std.specs.Prelude.{◌≡◌, ◌≤◌, ℕ, List, length, map, Err}
use Rattle.a68_annot.specs.declared.annotated.Annotated.{Annotated}
use Rattle.a68_base.specs.declared.refusal.Refusal.{Refusal}
use Rattle.a68_base.specs.declared.refusal.Stop.TheVariants.{Refused}
use Rattle.a68_check.specs.Annotates.{Annotates, Refuses}
use Rattle.a68_elab.specs.Programs.{program_of}
use Rattle.a68_gen.specs.Refusals.{IsNotGenerated}
use Rattle.a68_emit.specs.Stretches.{Translates}
use Rattle.a68_emit.specs.Writing.{most}
use Rattle.a68_parse.specs.Parses.{IsTree, Parses}
use Rattle.a68_symbols.specs.Names.{Named, AreNamed}
use Rattle.a68_symbols.specs.Symbols.{SymbolsAre, RefusalIs, piece_of}
use Rattle.a68_top.specs.declared.finish.Made.{Made}
use Rattle.a68_words.specs.Classes.{IsClassed, IsRefusedAt}
use Rattle.a68_words.specs.declared.class.Class.{Class}
use Rattle.std.specs.declared.option.Option.{Option}
use Rattle.a68_tree.specs.Trees.{Built}
use Rattle.a68_tree.specs.declared.node.Node.{Node}
use Rattle.a68_parse.specs.Drafted.{SpellsAlike, AreStarts}

-- the tree of the text's symbols, by the grammar, with their spellings and where they begin; each bold word has its class
pub record IsTreeOf (text : List ℕ) (tree : Built) : Type 0 where
  pub found : Named
  pub symbols : SymbolsAre text (map piece_of found.symbols)
  pub named : AreNamed text found
  pub classes : List (Option Class)
  pub classed : IsClassed found classes
  pub derived : IsTree found classes tree.nodes
  pub only : (others : List Node) → IsTree found classes others → others ≡ tree.nodes
  pub spelled : SpellsAlike found tree.spellings
  pub begun : AreStarts found tree.starts

-- these are the symbols of the text, and this is its tree
pub record IsReadAs (text : List ℕ) (found : Named) (tree : Built) : Type 0 where
  pub is : IsTreeOf text tree
  pub same : is.found ≡ found

-- The tree of the text with its formulas shaped by the priorities of their signs, and what is known of each node.
pub record IsProgramOf (text : List ℕ) (program : Annotated) : Type 0 where
  pub tree : Built
  pub is : IsTreeOf text tree
  pub annotates : Annotates tree program

-- the program of the text, and its code, which has no more instructions than a program may have
pub record Compiles (text : List ℕ) (made : Made) : Type 0 where
  pub program : IsProgramOf text made.program
  pub translated : Translates (program_of made.program) made.code
  pub short : length made.code.list ≤ most

-- The rule that a text breaks before it has a tree: of symbols; of words and nesting; of the grammar.
pub data RefusedBefore (text : List ℕ) (refusal : Refusal) : Type 0 where
  unlike_symbols : RefusalIs text refusal.rule refusal.place → RefusedBefore text refusal
  unclassed : (found : Named) → SymbolsAre text (map piece_of found.symbols) → AreNamed text found → IsRefusedAt found refusal.rule refusal.place → RefusedBefore text refusal
  no_tree : (found : Named) (classes : List (Option Class)) → SymbolsAre text (map piece_of found.symbols) → AreNamed text found → IsClassed found classes → Parses found classes (length text) (Err (Refused refusal)) → RefusedBefore text refusal

-- The rule that a text breaks: one on the way to its tree; of the meaning; or, once it is annotated, the limit of code.
pub data RefusedAs (text : List ℕ) (refusal : Refusal) : Type 0 where
  untreed : RefusedBefore text refusal → RefusedAs text refusal
  no_meaning : (tree : Built) → IsTreeOf text tree → Refuses tree refusal → RefusedAs text refusal
  not_generated : (program : Annotated) → IsProgramOf text program → IsNotGenerated program refusal → RefusedAs text refusal

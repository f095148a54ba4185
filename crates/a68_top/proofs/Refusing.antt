-- Why a text is refused, by the phase that refuses it.
use Rattle.std.specs.Prelude.{◌≡◌, ℕ, List, length, map, Ok, Err, IfOk}
use Rattle.std.proofs.Common.{subst}
use Rattle.std.specs.declared.result.Result.{Result}
use Rattle.a68_annot.specs.declared.annotated.Annotated.{Annotated}
use Rattle.a68_base.specs.declared.refusal.Stop.{Stop}
use Rattle.a68_base.specs.declared.refusal.Stop.TheVariants.{Refused, NoMemory}
use Rattle.a68_check.specs.Annotates.{Refuses}
use Rattle.a68_ranges.specs.Twice.{StopsBy}
use Rattle.a68_gen.specs.Refusals.{IsNotGenerated}
use Rattle.a68_parse.specs.Parses.{Parses}
use Rattle.a68_symbols.specs.Names.{Named, AreNamed}
use Rattle.a68_symbols.specs.Symbols.{SymbolsAre, piece_of}
use Rattle.a68_top.specs.Compiles.{IsTreeOf, IsProgramOf, RefusedBefore, RefusedAs, untreed, unclassed, no_tree, no_meaning, not_generated}
use Rattle.a68_words.specs.Classes.{AnswersWords, IsClassed}
use Rattle.a68_words.specs.declared.class.Class.{Class}
use Rattle.std.specs.declared.option.Option.{Option}
use Rattle.a68_tree.specs.Trees.{Built}

pub unparsed : (text : List ℕ) (found : Named) (classes : List (Option Class)) (end : ℕ) → end ≡ length text → SymbolsAre text (map piece_of found.symbols) → AreNamed text found → IsClassed found classes
    → (s : Stop) → Parses found classes end (Err s) → StopsBy (RefusedBefore text) s
unparsed text found classes end e symbols named classed NoMemory p = tt
unparsed text found classes end e symbols named classed (Refused f) p = no_tree found classes symbols named classed (subst (λ x. Parses found classes x (Err (Refused f))) e p)

pub unsorted : (text : List ℕ) (found : Named) → SymbolsAre text (map piece_of found.symbols) → AreNamed text found → (s : Stop) → AnswersWords found (Err s) → StopsBy (RefusedBefore text) s
unsorted text found symbols named NoMemory p = tt
unsorted text found symbols named (Refused f) p = unclassed found symbols named p

pub before : (text : List ℕ) (s : Stop) → StopsBy (RefusedBefore text) s → StopsBy (RefusedAs text) s
before text NoMemory p = tt
before text (Refused f) p = untreed p

pub stopped : (text : List ℕ) (tree : Built) → IsTreeOf text tree → (s : Stop) → StopsBy (Refuses tree) s → StopsBy (RefusedAs text) s
stopped text tree is NoMemory p = tt
stopped text tree is (Refused f) p = no_meaning tree is p

pub ungenerated : (text : List ℕ) (program : Annotated) → IsProgramOf text program → (s : Stop) → StopsBy (IsNotGenerated program) s → StopsBy (RefusedAs text) s
ungenerated text program is NoMemory p = tt
ungenerated text program is (Refused f) p = not_generated program is p

pub if_ok : {A B : Type 0} {P Q : A → Type 0} (r : Result A B) → ((a : A) → P a → Q a) → IfOk r P → IfOk r Q
if_ok (Ok a) f p = f a p
if_ok (Err b) f p = tt

-- Inner: the headline does not rest on this file.
-- What is known while a text is read.
use Rattle.std.specs.Prelude.{◌≡◌, List, [], ◌∷◌, Option, Some, None, Result, Ok, Err}
use Rattle.a68_tree.specs.declared.kind.NodeKind.{NodeKind}
use Rattle.a68_symbols.specs.declared.sym.Sym.{Sym}
use Rattle.a68_symbols.specs.declared.sym.Sym.TheVariants.{Is}
use Rattle.a68_symbols.specs.declared.sym.Token.{Token}
use Rattle.a68_tree.specs.Forest.{Forest, end, part, spells}
use Rattle.a68_tree.specs.Grammar.{IsEnclosed}
use Rattle.a68_tree.specs.Nodes.{Entry, with_node}
use Rattle.a68_nodes.specs.Stack.{Layer, node}
use Rattle.a68_nodes.specs.Views.{DraftState}
use Rattle.a68_nodes.specs.Built.{IsDraftOf}
use Rattle.a68_unit_productions.specs.declared.goal.Goal.{Goal}
use Rattle.a68_read.specs.Fits.{all_fit}
use Rattle.a68_read.specs.Awaits.{all_await}
use Rattle.a68_read.specs.declared.unread.Unread.{Unread}
use Rattle.a68_read.specs.declared.unread.Unread.TheVariants.{Memory, NoTree}

-- a program has been read, and nothing is open
pub data IsWhole : List Layer → Type 0 where
  is_whole : {j : NodeKind} {u : Forest} → IsEnclosed j u → IsWhole (node (part j u end) ∷ [])

-- this program has been read, and no text is left
abbrev pub IsEnd : NodeKind → Forest → List Layer → List Sym → Type 0
IsEnd j u S text = (S ≡ node (part j u end) ∷ []) × (text ≡ [])

-- Where such a text is left of a whole one, with these goals: what has been read, what the goals lead to, and how each
-- derivation of the whole text goes on.
pub record Reading (whole : List Sym) (goals : List Goal) (rest : List Sym) (s : DraftState) : Type 0 where
  pub stack : List Layer
  pub built : IsDraftOf whole stack rest s
  pub fits : all_fit goals IsWhole stack
  pub awaits : (j : NodeKind) (u : Forest) → IsEnclosed j u → whole ≡ spells u [] → all_await goals (IsEnd j u) stack rest

-- the text has no derivation
abbrev pub HasNoTree : List Sym → Type 0
HasNoTree whole = (j : NodeKind) (u : Forest) → IsEnclosed j u → whole ≡ spells u [] → ⊥

-- the first goal is done
abbrev pub IsDone : Goal → List Sym → List Sym → DraftState → DraftState → Type 0
IsDone goal rest after old new = (whole : List Sym) (goals : List Goal) → Reading whole (goal ∷ goals) rest old → Reading whole goals after new

-- the first goal cannot be done
abbrev pub Fails : Goal → List Sym → DraftState → Type 0
Fails goal rest old = (whole : List Sym) (goals : List Goal) → Reading whole (goal ∷ goals) rest old → HasNoTree whole

-- where memory was there
abbrev pub OnFault : Unread → Type 0 → Type 0
OnFault Memory P = Unit {0}
OnFault (NoTree left) P = P

-- a symbol is taken, or it does not stand there
abbrev pub Takes : {X : Type 0} → (X → List Sym) → Goal → List Sym → DraftState → DraftState → Result X Unread → Type 0
Takes view goal rest old new (Ok x) = IsDone goal rest (view x) old new
Takes view goal rest old new (Err e) = OnFault e (Fails goal rest old)

-- the text does not begin with that symbol
abbrev pub Lacks : Sym → List Sym → Type 0
Lacks s text = (x : List Sym) → text ≡ s ∷ x → ⊥

-- nor with any such
abbrev pub LacksAny : (Token → Type 0) → List Sym → Type 0
LacksAny Such text = (s : Token) (x : List Sym) → Such s → text ≡ Is s ∷ x → ⊥

-- the text is such a symbol and then the rest
pub record FirstOf (Such : Token → Type 0) (text rest : List Sym) : Type 0 where
  pub token : Token
  pub such : Such token
  pub first : text ≡ Is token ∷ rest

-- a goal that is to take a symbol, if any is left
abbrev pub TakesFirst : List Sym → List Sym → DraftState → List Goal → Option Goal → Type 0
TakesFirst whole rest s goals None = Reading whole [] rest s
TakesFirst whole rest s goals (Some goal) = Reading whole (goal ∷ goals) rest s

-- the one derivation of all the symbols, and its nodes
pub record ReadProgram (text : List Sym) (new : List Entry) : Type 0 where
  pub kind : NodeKind
  pub under : Forest
  pub is : IsEnclosed kind under
  pub spelled : text ≡ spells under []
  pub only : (j : NodeKind) (g : Forest) → IsEnclosed j g → text ≡ spells g [] → (j ≡ kind) × (g ≡ under)
  pub added : new ≡ with_node [] [] kind under []

abbrev pub ReadsProgram : {X : Type 0} → (X → List Entry) → List Sym → Result X Unread → Type 0
ReadsProgram view text (Ok x) = ReadProgram text (view x)
ReadsProgram view text (Err e) = OnFault e (HasNoTree text)

-- Whole texts that are read.
use Rattle.std.proofs.Common.{◌≡◌, Bool, true, false, nat_eq, length, Option, None, Some, List, [], ◌∷◌, refl, sym, ap, subst, ◌∙◌}
use Rattle.std.proofs.lemmas.List.{nil_from_length}
use Rattle.std.proofs.lemmas.Bool.{eqb-true}
use Rattle.a68_unit_productions.specs.declared.goal.Goal.{Goal}
use Rattle.a68_read.specs.declared.unread.Unread.{Unread}
use Rattle.a68_read.specs.declared.unread.Unread.TheVariants.{Memory, NoTree}
use Rattle.a68_tree.specs.declared.kind.NodeKind.{NodeKind}
use Rattle.a68_symbols.specs.declared.sym.Sym.{Sym}
use Rattle.a68_tree.specs.Forest.{Forest, end, part, spells}
use Rattle.a68_tree.specs.Grammar.{IsEnclosed}
use Rattle.a68_tree.specs.Nodes.{Entry, with_node}
use Rattle.a68_nodes.specs.Stack.{Layer, node}
use Rattle.a68_nodes.specs.Views.{DraftState}
use Rattle.a68_nodes.specs.Built.{IsDraftOf}
use Rattle.a68_unit_productions.specs.declared.goal.Goal.TheVariants as g
use Rattle.a68_read.specs.Fits as f
use Rattle.a68_read.specs.Awaits as a
use Rattle.a68_read.specs.Readings.{IsWhole, is_whole, IsEnd, Reading, HasNoTree, TakesFirst, OnFault, Fails, ReadProgram}

-- before the first symbol
pub begun : (text : List Sym) (s : DraftState) → IsDraftOf text (node end ∷ []) text s → Reading text (g.Enclosed ∷ []) text s
begun text s b = record {
  stack = node end ∷ [];
  built = b;
  fits = f.fresh (λ j u p. is_whole p);
  awaits = λ j u p e. goes text j u p e;
}
  where
    goes : (x : List Sym) (j : NodeKind) (u : Forest) → IsEnclosed j u → x ≡ spells u [] → a.TurnsFree IsEnclosed (IsEnd j u) (node end ∷ []) x
    goes x j u p e = subst (a.TurnsFree IsEnclosed (IsEnd j u) (node end ∷ [])) (sym e) (a.turns_free p (refl, refl))

same_node : {i j : NodeKind} {u v : Forest} {S : List Layer} → S ≡ node (part i u end) ∷ [] → S ≡ node (part j v end) ∷ [] → (i ≡ j) × (u ≡ v)
same_node {i = i} {j = j} {u = u} {v = v} e h =
    let q : node (part i u end) ∷ [] ≡ node (part j v end) ∷ [] = sym e ∙ h in
    let p = heads q in (kind_of (ap (λ (l : Layer). l.forest) p), under_of (ap (λ (l : Layer). l.forest) p))
  where
    heads : {x y : Layer} → x ∷ [] ≡ y ∷ [] → x ≡ y
    heads w = cc

    kind_of : {i j : NodeKind} {u v : Forest} → part i u end ≡ part j v end → i ≡ j
    kind_of w = cc

    under_of : {i j : NodeKind} {u v : Forest} → part i u end ≡ part j v end → u ≡ v
    under_of w = cc

-- behind the last one
ended_at : (text rest : List Sym) (s : DraftState) (new : List Entry) (S : List Layer) → rest ≡ [] → IsWhole S → IsDraftOf text S rest s
    → ((j : NodeKind) (u : Forest) → IsEnclosed j u → text ≡ spells u [] → IsEnd j u S rest)
    → ((whole : List Sym) (kind : NodeKind) (under : Forest) → IsDraftOf whole (node (part kind under end) ∷ []) [] s → new ≡ with_node [] [] kind under [])
    → ((whole : List Sym) (kind : NodeKind) (under : Forest) → IsDraftOf whole (node (part kind under end) ∷ []) [] s → whole ≡ spells under []) → ReadProgram text new
ended_at text rest s new S e (is_whole {j = i} {u = v} p) b w nodes spelled =
    let c = subst (λ (x : List Sym). IsDraftOf text (node (part i v end) ∷ []) x s) e b in
    record {
      kind = i;
      under = v;
      is = p;
      spelled = spelled text i v c;
      only = λ j u q h. same_node {i = j} {j = i} {u = u} {v = v} (w j u q h).0 refl;
      added = nodes text i v c;
    }

pub ended : (text rest : List Sym) (s : DraftState) (new : List Entry) → rest ≡ [] → Reading text [] rest s
    → ((whole : List Sym) (kind : NodeKind) (under : Forest) → IsDraftOf whole (node (part kind under end) ∷ []) [] s → new ≡ with_node [] [] kind under [])
    → ((whole : List Sym) (kind : NodeKind) (under : Forest) → IsDraftOf whole (node (part kind under end) ∷ []) [] s → whole ≡ spells under []) → ReadProgram text new
ended text rest s new e r nodes spelled = ended_at text rest s new r.stack e r.fits r.built r.awaits nodes spelled

pub not_ended : (text rest : List Sym) (s : DraftState) → (rest ≡ [] → ⊥) → Reading text [] rest s → HasNoTree text
not_ended text rest s more r j u p e = more (r.awaits j u p e).1

pub some_rest : (rest : List Sym) (r : Bool) → r ≡ nat_eq (length rest) 0 → r ≡ false → rest ≡ [] → ⊥
some_rest rest r e f g = let same : r ≡ true = e ∙ ap (λ (x : List Sym). nat_eq (length x) 0) g in cc

pub empty_rest : (rest : List Sym) (r : Bool) → r ≡ nat_eq (length rest) 0 → r ≡ true → rest ≡ []
empty_rest rest r e f = nil_from_length rest (eqb-true (length rest) 0 (sym e ∙ f))

-- where no goal is left, and where one is
pub none_left : (text rest : List Sym) (s : DraftState) (goals : List Goal) (next : Option Goal) → next ≡ None → TakesFirst text rest s goals next → Reading text [] rest s
none_left text rest s goals next e r = subst (TakesFirst text rest s goals) e r

pub one_left : (text rest : List Sym) (s : DraftState) (goals : List Goal) (next : Option Goal) (goal : Goal) → next ≡ Some goal → TakesFirst text rest s goals next → Reading text (goal ∷ goals) rest s
one_left text rest s goals next goal e r = subst (TakesFirst text rest s goals) e r

-- a symbol that cannot be taken
pub failed : (goal : Goal) (text rest : List Sym) (old : DraftState) (goals : List Goal) (e : Unread) → OnFault e (Fails goal rest old) → Reading text (goal ∷ goals) rest old → OnFault e (HasNoTree text)
failed goal text rest old goals Memory t r = tt
failed goal text rest old goals (NoTree left) t r = t text goals r

-- What is done with what was read.
use Rattle.std.proofs.Common.{◌≡◌, true, Option, None, List, [], ◌∷◌, ap, subst}
use Rattle.a68_tree.specs.declared.kind.NodeKind.{NodeKind}
use Rattle.a68_tree.specs.declared.kind.NodeKind.TheVariants as k
use Rattle.a68_symbols.specs.declared.sym.Bracket.{Bracket}
use Rattle.a68_symbols.specs.declared.sym.Sym.{Sym}
use Rattle.a68_symbols.specs.declared.sym.Token.{Token}
use Rattle.a68_tree.specs.Forest.{Forest, end, mark, part, aside, shared, forget, spells}
use Rattle.a68_tree.specs.Grammar.{IsEnclosed}
use Rattle.a68_nodes.specs.Closing.{names_first}
use Rattle.a68_nodes.specs.Stack.{Layer, node, put}
use Rattle.a68_nodes.specs.Views.{DraftState}
use Rattle.a68_nodes.specs.Built.{IsDraftOf}
use Rattle.a68_unit_productions.specs.declared.goal.Goal.{Goal}
use Rattle.a68_unit_productions.specs.declared.goal.Goal.TheVariants as g
use Rattle.a68_read.specs.Fits as f
use Rattle.a68_read.specs.Fits.{Shape, all_fit}
use Rattle.a68_read.specs.Awaits as a
use Rattle.a68_read.specs.Awaits.{Awaited, all_await}
use Rattle.a68_read.specs.Readings.{IsWhole, IsEnd, Reading, IsDone}

as_node : (x : Layer) → x.bracket ≡ None → x ≡ node x.forest
as_node x e = ap (λ (b : Option Bracket). let y : Layer = record { bracket = b; forest = x.forest } in y) e

abbrev pub Goes : (NodeKind → Forest → Awaited) → List Sym → List Layer → List Sym → Type 0
Goes K whole S rest = (j : NodeKind) (u : Forest) → IsEnclosed j u → whole ≡ spells u [] → K j u S rest

module _ (rest : List Sym) (old new : DraftState) where
  pub begin_does : ((whole : List Sym) (ls : List Layer) → IsDraftOf whole ls rest old → IsDraftOf whole (node end ∷ ls) rest new) → IsDone g.Begin rest rest old new
  begin_does built whole goals r = record { stack = node end ∷ r.stack; built = built whole r.stack r.built; fits = r.fits; awaits = r.awaits }

  -- the layers that are left
  abbrev pub Leaves : Type 0
  Leaves = (whole rest : List Sym) (l : Layer) (ls : List Layer) (f : Forest) → IsDraftOf whole (node f ∷ l ∷ ls) rest old → IsDraftOf whole (put l f ∷ ls) rest new

  leave_at : Leaves → (whole : List Sym) (goals : List Goal) (S : List Layer) → IsDraftOf whole S rest old → f.fits_leave (all_fit goals IsWhole) S
      → Goes (λ j u. a.awaits_leave (all_await goals (IsEnd j u))) whole S rest → Reading whole goals rest new
  leave_at built whole goals [] b h w = absurd h
  leave_at built whole goals (x ∷ []) b h w = absurd h
  leave_at built whole goals (x ∷ l ∷ S) b (i, h) w = record {
    stack = put l x.forest ∷ S;
    built = built whole rest l S x.forest (subst (λ (y : Layer). IsDraftOf whole (y ∷ l ∷ S) rest old) (as_node x i) b);
    fits = h;
    awaits = w;
  }

  pub leave_does : Leaves → IsDone g.Leave rest rest old new
  leave_does built whole goals r = leave_at built whole goals r.stack r.built r.fits r.awaits

  abbrev pub Wraps : NodeKind → Type 0
  Wraps j = (whole : List Sym) (ls : List Layer) (f : Forest) → names_first j ≡ true → IsDraftOf whole (node f ∷ ls) rest old → IsDraftOf whole (node (part j f end) ∷ ls) rest new

  wrap_at : (j : NodeKind) → Wraps j → (whole : List Sym) (goals : List Goal) (S : List Layer) → IsDraftOf whole S rest old → f.fits_wrap j (all_fit goals IsWhole) S
      → Goes (λ i u. a.awaits_wrap j (all_await goals (IsEnd i u))) whole S rest → Reading whole goals rest new
  wrap_at j built whole goals [] b h w = absurd h
  wrap_at j built whole goals (x ∷ S) b (i, e, h) w = record {
    stack = node (part j x.forest end) ∷ S;
    built = built whole S x.forest e (subst (λ (y : Layer). IsDraftOf whole (y ∷ S) rest old) (as_node x i) b);
    fits = h;
    awaits = w;
  }

  pub wrap_does : (j : NodeKind) → Wraps j → IsDone (g.Wrap j) rest rest old new
  wrap_does j built whole goals r = wrap_at j built whole goals r.stack r.built r.fits r.awaits

  abbrev pub Relates : Type 0
  Relates = (whole : List Sym) (ls : List Layer) (kind : NodeKind) (under f : Forest) → IsDraftOf whole (node (part kind under f) ∷ ls) rest old → IsDraftOf whole (node (part k.Identity (part kind under f) end) ∷ ls) rest new

  related : Relates → (whole : List Sym) (S : List Layer) (x : Forest) → f.HasFirst x → IsDraftOf whole (node x ∷ S) rest old → IsDraftOf whole (node (part k.Identity x end) ∷ S) rest new
  related built whole S x (f.has_first {j = j} {u = u} {f = y}) b = built whole S j u y b

  relate_at : Relates → (whole : List Sym) (goals : List Goal) (S : List Layer) → IsDraftOf whole S rest old → f.fits_relate (all_fit goals IsWhole) S
      → Goes (λ i u. a.awaits_wrap k.Identity (all_await goals (IsEnd i u))) whole S rest → Reading whole goals rest new
  relate_at built whole goals [] b h w = absurd h
  relate_at built whole goals (x ∷ S) b (i, e, h) w = record {
    stack = node (part k.Identity x.forest end) ∷ S;
    built = related built whole S x.forest e (subst (λ (y : Layer). IsDraftOf whole (y ∷ S) rest old) (as_node x i) b);
    fits = h;
    awaits = w;
  }

  pub relate_does : Relates → IsDone g.Relate rest rest old new
  relate_does built whole goals r = relate_at built whole goals r.stack r.built r.fits r.awaits

  abbrev pub Lengthens : Type 0
  Lengthens = (whole : List Sym) (ls : List Layer) (t : Token) (f : Forest) → IsDraftOf whole (node (mark t f) ∷ ls) rest old → IsDraftOf whole (node (part k.LongDenotation (mark t f) end) ∷ ls) rest new

  lengthened : Lengthens → (whole : List Sym) (S : List Layer) (x : Forest) → f.HasMark x → IsDraftOf whole (node x ∷ S) rest old → IsDraftOf whole (node (part k.LongDenotation x end) ∷ S) rest new
  lengthened built whole S x (f.has_mark {s = s} {f = y}) b = built whole S s y b

  long_at : Lengthens → (whole : List Sym) (goals : List Goal) (S : List Layer) → IsDraftOf whole S rest old → f.fits_long (all_fit goals IsWhole) S
      → Goes (λ i u. a.awaits_wrap k.LongDenotation (all_await goals (IsEnd i u))) whole S rest → Reading whole goals rest new
  long_at built whole goals [] b h w = absurd h
  long_at built whole goals (x ∷ S) b (i, e, h) w = record {
    stack = node (part k.LongDenotation x.forest end) ∷ S;
    built = lengthened built whole S x.forest e (subst (λ (y : Layer). IsDraftOf whole (y ∷ S) rest old) (as_node x i) b);
    fits = h;
    awaits = w;
  }

  pub long_does : Lengthens → IsDone g.WrapLong rest rest old new
  long_does built whole goals r = long_at built whole goals r.stack r.built r.fits r.awaits

  abbrev pub Leaps : Type 0
  Leaps = (whole : List Sym) (ls : List Layer) (f : Forest) → IsDraftOf whole (node f ∷ ls) rest old → IsDraftOf whole (node (part k.GoTo f end) ∷ ls) rest new

  abbrev pub Asides : NodeKind → Type 0
  Asides j = (whole : List Sym) (l : Layer) (ls : List Layer) (f : Forest) → names_first j ≡ true → IsDraftOf whole (node f ∷ l ∷ ls) rest old → IsDraftOf whole (put l (aside j f end) ∷ ls) rest new

  aside_at : (j : NodeKind) → Asides j → (whole : List Sym) (goals : List Goal) (S : List Layer) → IsDraftOf whole S rest old → f.fits_aside j (all_fit goals IsWhole) S
      → Goes (λ i u. a.awaits_aside j (all_await goals (IsEnd i u))) whole S rest → Reading whole goals rest new
  aside_at j built whole goals [] b h w = absurd h
  aside_at j built whole goals (x ∷ []) b h w = absurd h
  aside_at j built whole goals (x ∷ l ∷ S) b (i, e, h) w = record {
    stack = put l (aside j x.forest end) ∷ S;
    built = built whole l S x.forest e (subst (λ (y : Layer). IsDraftOf whole (y ∷ l ∷ S) rest old) (as_node x i) b);
    fits = h;
    awaits = w;
  }

  pub aside_does : (j : NodeKind) → Asides j → IsDone (g.SetAside j) rest rest old new
  aside_does j built whole goals r = aside_at j built whole goals r.stack r.built r.fits r.awaits

  put_at : (z : Forest) → ((whole rest : List Sym) (l : Layer) (ls : List Layer) → IsDraftOf whole (l ∷ ls) rest old → IsDraftOf whole (put l z ∷ ls) rest new)
      → (whole : List Sym) (goals : List Goal) (S : List Layer) → IsDraftOf whole S rest old → f.fits_put z (all_fit goals IsWhole) S
      → Goes (λ i u. a.awaits_put z (all_await goals (IsEnd i u))) whole S rest → Reading whole goals rest new
  put_at z built whole goals [] b h w = absurd h
  put_at z built whole goals (l ∷ S) b h w = record { stack = put l z ∷ S; built = built whole rest l S b; fits = h; awaits = w }

  pub share_does : ((whole rest : List Sym) (l : Layer) (ls : List Layer) → IsDraftOf whole (l ∷ ls) rest old → IsDraftOf whole (put l (shared end) ∷ ls) rest new) → IsDone g.Share rest rest old new
  share_does built whole goals r = put_at (shared end) built whole goals r.stack r.built r.fits r.awaits

  pub forget_does : ((whole rest : List Sym) (l : Layer) (ls : List Layer) → IsDraftOf whole (l ∷ ls) rest old → IsDraftOf whole (put l (forget end) ∷ ls) rest new) → IsDone g.Forget rest rest old new
  forget_does built whole goals r = put_at (forget end) built whole goals r.stack r.built r.fits r.awaits

-- a node, or a jump, is closed by two calls
module _ (rest : List Sym) (old middle new : DraftState) where
  close_at : (j : NodeKind) → Wraps rest old middle j → Leaves rest middle new → (whole : List Sym) (goals : List Goal) (S : List Layer) → IsDraftOf whole S rest old
      → f.fits_close j (all_fit goals IsWhole) S → Goes (λ i u. a.awaits_close j (all_await goals (IsEnd i u))) whole S rest → Reading whole goals rest new
  close_at j wraps leaves whole goals [] b h w = absurd h
  close_at j wraps leaves whole goals (x ∷ []) b h w = absurd h
  close_at j wraps leaves whole goals (x ∷ l ∷ S) b (i, e, h) w = record {
    stack = put l (part j x.forest end) ∷ S;
    built = leaves whole rest l S (part j x.forest end) (wraps whole (l ∷ S) x.forest e (subst (λ (y : Layer). IsDraftOf whole (y ∷ l ∷ S) rest old) (as_node x i) b));
    fits = h;
    awaits = w;
  }

  pub close_does : (j : NodeKind) → Wraps rest old middle j → Leaves rest middle new → IsDone (g.Close j) rest rest old new
  close_does j wraps leaves whole goals r = close_at j wraps leaves whole goals r.stack r.built r.fits r.awaits

  leap_at : Leaps rest old middle → Leaves rest middle new → (whole : List Sym) (goals : List Goal) (S : List Layer) → IsDraftOf whole S rest old
      → f.fits_leap (all_fit goals IsWhole) S → Goes (λ i u. a.awaits_close k.GoTo (all_await goals (IsEnd i u))) whole S rest → Reading whole goals rest new
  leap_at leaps leaves whole goals [] b h w = absurd h
  leap_at leaps leaves whole goals (x ∷ []) b h w = absurd h
  leap_at leaps leaves whole goals (x ∷ l ∷ S) b (i, h) w = record {
    stack = put l (part k.GoTo x.forest end) ∷ S;
    built = leaves whole rest l S (part k.GoTo x.forest end) (leaps whole (l ∷ S) x.forest (subst (λ (y : Layer). IsDraftOf whole (y ∷ l ∷ S) rest old) (as_node x i) b));
    fits = h;
    awaits = w;
  }

  pub leap_does : Leaps rest old middle → Leaves rest middle new → IsDone g.Leap rest rest old new
  leap_does leaps leaves whole goals r = leap_at leaps leaves whole goals r.stack r.built r.fits r.awaits

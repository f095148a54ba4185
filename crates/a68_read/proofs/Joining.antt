-- Definitions that become a node, or a single one that does not.
use Rattle.std.proofs.Common.{◌≡◌, Bool, true, false, List, ◌∷◌, ◌⊎◌, inl, inr, refl, sym, ap, subst, ◌∙◌}
use Rattle.std.proofs.lemmas.Bool.{false≢true}
use Rattle.a68_tree.specs.declared.kind.NodeKind.TheVariants as k
use Rattle.a68_symbols.specs.declared.sym.Sym.{Sym}
use Rattle.a68_tree.specs.Forest.{Forest, end, part, forget, Single, Several}
use Rattle.a68_tree.proofs.Phrases as phrases
use Rattle.a68_nodes.specs.Stack.{Layer, node, put}
use Rattle.a68_nodes.specs.Views.{DraftState}
use Rattle.a68_nodes.specs.Built.{IsDraftOf}
use Rattle.a68_unit_productions.specs.declared.goal.Goal.{Goal}
use Rattle.a68_unit_productions.specs.declared.goal.Goal.TheVariants as g
use Rattle.a68_read.specs.Fits as f
use Rattle.a68_read.specs.Fits.{all_fit}
use Rattle.a68_read.specs.Awaits as a
use Rattle.a68_read.specs.Awaits.{Awaited, all_await}
use Rattle.a68_read.specs.Readings.{IsWhole, IsEnd, Reading, IsDone}
use Rattle.a68_read.proofs.Acting.{Leaves, Wraps, Goes}

none : (b : Bool) → b ≡ true → b ≡ false → ⊥
none b e f = false≢true (sym f ∙ e)

unforget : {v x : Forest} → forget v ≡ forget x → v ≡ x
unforget e = cc

one_awaits : (K : Awaited) (x : Forest) (l : Layer) (S : List Layer) (rest : List Sym) → (Several x → ⊥) → (y z : Layer) → y ≡ node (forget x) → z ≡ l → a.AwaitsJoin K (y ∷ z ∷ S) rest → K (put l (forget x) ∷ S) rest
one_awaits K x l S rest no_ y z e i (a.joins_one {f = v} s h) = let q = unforget (ap (λ (w : Layer). w.forest) e) in rw (← q, ← i) h
one_awaits K x l S rest no_ y z e i (a.joins_more {f = v} s h) = let q = unforget (ap (λ (w : Layer). w.forest) e) in absurd (no_ (subst Several q s))

more_awaits : (K : Awaited) (x : Forest) (l : Layer) (S : List Layer) (rest : List Sym) → (Single x → ⊥) → (y z : Layer) → y ≡ node (forget x) → z ≡ l → a.AwaitsJoin K (y ∷ z ∷ S) rest → K (put l (part k.Joined (forget x) end) ∷ S) rest
more_awaits K x l S rest no_ y z e i (a.joins_more {f = v} s h) = let q = unforget (ap (λ (w : Layer). w.forest) e) in rw (← q, ← i) h
more_awaits K x l S rest no_ y z e i (a.joins_one {f = v} s h) = let q = unforget (ap (λ (w : Layer). w.forest) e) in absurd (no_ (subst Single q s))

module _ (rest : List Sym) (old : DraftState) (single : Bool) where
  one_at : (new : DraftState) → single ≡ true → ((whole rest : List Sym) (ls : List Layer) (f : Forest) → Several f → IsDraftOf whole (node (forget f) ∷ ls) rest old → single ≡ false)
      → Leaves rest old new → (whole : List Sym) (goals : List Goal) (S : List Layer) → IsDraftOf whole S rest old → f.FitsJoin (all_fit goals IsWhole) S
      → Goes (λ i u. a.AwaitsJoin (all_await goals (IsEnd i u))) whole S rest → Reading whole goals rest new
  one_at new e several leaves whole goals S b (f.fits_join {f = x} {l = l} {S = T} p one_ more_) w =
      let no_ : Several x → ⊥ = λ s. none single e (several whole rest (l ∷ T) x s b) in
      let s : Single x = chosen x (phrases.one_or_several p) no_ in
      record {
        stack = put l (forget x) ∷ T;
        built = leaves whole rest l T (forget x) b;
        fits = one_ s;
        awaits = λ j u q h. one_awaits (all_await goals (IsEnd j u)) x l T rest no_ (node (forget x)) l refl refl (w j u q h);
      }
    where
      chosen : (x : Forest) → (Single x ⊎ Several x) → (Several x → ⊥) → Single x
      chosen x (inl s) n = s
      chosen x (inr s) n = absurd (n s)

  pub join_one : (new : DraftState) → single ≡ true → ((whole rest : List Sym) (ls : List Layer) (f : Forest) → Several f → IsDraftOf whole (node (forget f) ∷ ls) rest old → single ≡ false)
      → Leaves rest old new → IsDone g.Join rest rest old new
  join_one new e several leaves whole goals r = one_at new e several leaves whole goals r.stack r.built r.fits r.awaits

  more_at : (middle new : DraftState) → single ≡ false → ((whole rest : List Sym) (ls : List Layer) (f : Forest) → Single f → IsDraftOf whole (node (forget f) ∷ ls) rest old → single ≡ true)
      → Wraps rest old middle k.Joined → Leaves rest middle new → (whole : List Sym) (goals : List Goal) (S : List Layer) → IsDraftOf whole S rest old → f.FitsJoin (all_fit goals IsWhole) S
      → Goes (λ i u. a.AwaitsJoin (all_await goals (IsEnd i u))) whole S rest → Reading whole goals rest new
  more_at middle new e single_ wraps leaves whole goals S b (f.fits_join {f = x} {l = l} {S = T} p one_ more_) w =
      let no_ : Single x → ⊥ = λ s. none single (single_ whole rest (l ∷ T) x s b) e in
      let s : Several x = chosen x (phrases.one_or_several p) no_ in
      record {
        stack = put l (part k.Joined (forget x) end) ∷ T;
        built = leaves whole rest l T (part k.Joined (forget x) end) (wraps whole (l ∷ T) (forget x) refl b);
        fits = more_ s;
        awaits = λ j u q h. more_awaits (all_await goals (IsEnd j u)) x l T rest no_ (node (forget x)) l refl refl (w j u q h);
      }
    where
      chosen : (x : Forest) → (Single x ⊎ Several x) → (Single x → ⊥) → Several x
      chosen x (inl s) n = absurd (n s)
      chosen x (inr s) n = s

  pub join_more : (middle new : DraftState) → single ≡ false → ((whole rest : List Sym) (ls : List Layer) (f : Forest) → Single f → IsDraftOf whole (node (forget f) ∷ ls) rest old → single ≡ true)
      → Wraps rest old middle k.Joined → Leaves rest middle new → IsDone g.Join rest rest old new
  join_more middle new e single_ wraps leaves whole goals r = more_at middle new e single_ wraps leaves whole goals r.stack r.built r.fits r.awaits

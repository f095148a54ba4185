-- What a symbol that is taken does, and where none stands.
use Rattle.std.proofs.Common.{◌≡◌, List, [], ◌∷◌, None, Some, refl, sym, ap, subst}
use Rattle.a68_tree.specs.declared.kind.NodeKind.{NodeKind}
use Rattle.a68_symbols.specs.declared.sym.Bracket.{Bracket}
use Rattle.a68_symbols.specs.declared.sym.Token.{Token}
use Rattle.a68_symbols.specs.declared.sym.Sym.{Sym}
use Rattle.a68_symbols.specs.declared.sym.Sym.TheVariants.{Opens, Closes, Is}
use Rattle.a68_tree.specs.Forest.{Forest, end, mark, group, sign, spells}
use Rattle.a68_tree.specs.Grammar.{IsEnclosed, IsMonadic, IsSign, IsDenotation, IsPlain}
use Rattle.a68_nodes.specs.Stack.{Layer, inside, put}
use Rattle.a68_nodes.specs.Views.{DraftState}
use Rattle.a68_nodes.specs.Built.{IsDraftOf}
use Rattle.a68_nodes.proofs.Steps.{mark_built}
use Rattle.a68_unit_productions.specs.declared.goal.Goal.{Goal}
use Rattle.a68_unit_productions.specs.declared.goal.Goal.TheVariants as g
use Rattle.a68_read.specs.Fits as f
use Rattle.a68_read.specs.Fits.{Shape, all_fit}
use Rattle.a68_read.specs.Awaits as a
use Rattle.a68_read.specs.Awaits.{Awaited, all_await}
use Rattle.a68_read.specs.Readings.{IsWhole, IsEnd, Reading, IsDone, Fails, Lacks, LacksAny, FirstOf}

abbrev pub Goes : List Sym → List Goal → List Layer → List Sym → Type 0
Goes whole goals S rest = (j : NodeKind) (u : Forest) → IsEnclosed j u → whole ≡ spells u [] → all_await goals (IsEnd j u) S rest

-- ---- a token

behind_it : {x y : Sym} {r after : List Sym} → x ∷ r ≡ y ∷ after → r ≡ after
behind_it e = cc

token_awaits : (s : Token) (K : Awaited) (l : Layer) (S : List Layer) (x after : List Sym) → a.TakesSymbol s K (l ∷ S) x → x ≡ Is s ∷ after → K (put l (mark s end) ∷ S) after
token_awaits s K l S x after (a.takes h) e = subst (K (put l (mark s end) ∷ S)) (behind_it e) h

module _ (whole : List Sym) (goals : List Goal) (s : Token) (after : List Sym) (d : DraftState) where
  token_at : (S : List Layer) → IsDraftOf whole S (Is s ∷ after) d → f.fits_mark s (all_fit goals IsWhole) S → Goes whole (g.Take s ∷ goals) S (Is s ∷ after) → Reading whole goals after d
  token_at [] b h w = absurd h
  token_at (l ∷ S) b h w = record {
    stack = put l (mark s end) ∷ S;
    built = mark_built whole l S s after d b;
    fits = h;
    awaits = λ j u p e. token_awaits s (all_await goals (IsEnd j u)) l S (Is s ∷ after) after (w j u p e) refl;
  }

  mark_awaits : (P : Token → Type 0) (K : Awaited) (l : Layer) (S : List Layer) → a.TakesMark P K (l ∷ S) (Is s ∷ after) → K (put l (mark s end) ∷ S) after
  mark_awaits P K l S (a.takes_mark p h) = h

  marks_at : (P : Token → Type 0) → P s → (S : List Layer) → IsDraftOf whole S (Is s ∷ after) d → f.fits_marks P (all_fit goals IsWhole) S
      → ((j : NodeKind) (u : Forest) → IsEnclosed j u → whole ≡ spells u [] → a.TakesMark P (all_await goals (IsEnd j u)) S (Is s ∷ after)) → Reading whole goals after d
  marks_at P p [] b h w = absurd h
  marks_at P p (l ∷ S) b h w = record {
    stack = put l (mark s end) ∷ S;
    built = mark_built whole l S s after d b;
    fits = h s p;
    awaits = λ j u q e. mark_awaits P (all_await goals (IsEnd j u)) l S (w j u q e);
  }

pub token_does : (s : Token) (rest after : List Sym) (d : DraftState) → rest ≡ Is s ∷ after → IsDone (g.Take s) rest after d d
token_does s rest after d e whole goals r =
    token_at whole goals s after d r.stack (subst (λ (x : List Sym). IsDraftOf whole r.stack x d) e r.built) r.fits
    (λ j u p q. subst (λ (x : List Sym). all_await (g.Take s ∷ goals) (IsEnd j u) r.stack x) e (r.awaits j u p q))

no_token : (s : Token) (K : Awaited) (S : List Layer) (rest : List Sym) → Lacks (Is s) rest → a.TakesSymbol s K S rest → ⊥
no_token s K S rest no_ (a.takes {r = r} h) = no_ r refl

pub token_fails : (s : Token) (rest : List Sym) (d : DraftState) → Lacks (Is s) rest → Fails (g.Take s) rest d
token_fails s rest d no_ whole goals r j u p e = no_token s (all_await goals (IsEnd j u)) r.stack rest no_ (r.awaits j u p e)

no_mark : (P : Token → Type 0) (K : Awaited) (S : List Layer) (rest : List Sym) → LacksAny P rest → a.TakesMark P K S rest → ⊥
no_mark P K S rest no_ (a.takes_mark {s = s} {r = r} p h) = no_ s r p refl

pub operator_does : (rest after : List Sym) (d : DraftState) → FirstOf IsSign rest after → IsDone g.Operator rest after d d
operator_does rest after d o whole goals r =
    marks_at whole goals o.token after d IsSign o.such r.stack (subst (λ (x : List Sym). IsDraftOf whole r.stack x d) o.first r.built) r.fits
    (λ j u p q. subst (λ (x : List Sym). a.TakesMark IsSign (all_await goals (IsEnd j u)) r.stack x) o.first (r.awaits j u p q))

pub operator_fails : (rest : List Sym) (d : DraftState) → LacksAny IsSign rest → Fails g.Operator rest d
operator_fails rest d no_ whole goals r j u p e = no_mark IsSign (all_await goals (IsEnd j u)) r.stack rest no_ (r.awaits j u p e)

pub denotation_does : (rest after : List Sym) (d : DraftState) → FirstOf IsDenotation rest after → IsDone g.Denotation rest after d d
denotation_does rest after d o whole goals r =
    marks_at whole goals o.token after d IsDenotation o.such r.stack (subst (λ (x : List Sym). IsDraftOf whole r.stack x d) o.first r.built) r.fits
    (λ j u p q. subst (λ (x : List Sym). a.TakesMark IsDenotation (all_await goals (IsEnd j u)) r.stack x) o.first (r.awaits j u p q))

pub denotation_fails : (rest : List Sym) (d : DraftState) → LacksAny IsDenotation rest → Fails g.Denotation rest d
denotation_fails rest d no_ whole goals r j u p e = no_mark IsDenotation (all_await goals (IsEnd j u)) r.stack rest no_ (r.awaits j u p e)

pub plain_does : (rest after : List Sym) (d : DraftState) → FirstOf IsPlain rest after → IsDone g.Plain rest after d d
plain_does rest after d o whole goals r =
    marks_at whole goals o.token after d IsPlain o.such r.stack (subst (λ (x : List Sym). IsDraftOf whole r.stack x d) o.first r.built) r.fits
    (λ j u p q. subst (λ (x : List Sym). a.TakesMark IsPlain (all_await goals (IsEnd j u)) r.stack x) o.first (r.awaits j u p q))

pub plain_fails : (rest : List Sym) (d : DraftState) → LacksAny IsPlain rest → Fails g.Plain rest d
plain_fails rest d no_ whole goals r j u p e = no_mark IsPlain (all_await goals (IsEnd j u)) r.stack rest no_ (r.awaits j u p e)

-- ---- a bracket

opening_awaits : (c : Bracket) (K : Awaited) (S : List Layer) (x after : List Sym) → a.IsOpened c K S x → x ≡ Opens c ∷ after → K (inside c end ∷ S) after
opening_awaits c K S x after (a.opened h) e = subst (K (inside c end ∷ S)) (behind_it e) h

no_opening : (c : Bracket) (K : Awaited) (S : List Layer) (rest : List Sym) → Lacks (Opens c) rest → a.IsOpened c K S rest → ⊥
no_opening c K S rest no_ (a.opened {r = r} h) = no_ r refl

closing_awaits : (c : Bracket) (K : Awaited) (x l : Layer) (S : List Layer) (y after : List Sym) → a.IsClosed c K (x ∷ l ∷ S) y → y ≡ Closes c ∷ after → K (put l (group c x.forest end) ∷ S) after
closing_awaits c K x l S y after (a.closed h) e = subst (K (put l (group c x.forest end) ∷ S)) (behind_it e) h

no_closing : (c : Bracket) (K : Awaited) (S : List Layer) (rest : List Sym) → Lacks (Closes c) rest → a.IsClosed c K S rest → ⊥
no_closing c K S rest no_ (a.closed {r = r} h) = no_ r refl

module _ (c : Bracket) (rest after : List Sym) (old new : DraftState) where
  pub opening_does : rest ≡ Opens c ∷ after → ((whole : List Sym) (ls : List Layer) (b : Bracket) → IsDraftOf whole ls (Opens b ∷ after) old → IsDraftOf whole (inside b end ∷ ls) after new)
      → IsDone (g.Opens c) rest after old new
  opening_does e built whole goals r = record {
    stack = inside c end ∷ r.stack;
    built = built whole r.stack c (subst (λ (x : List Sym). IsDraftOf whole r.stack x old) e r.built);
    fits = r.fits;
    awaits = λ j u p q. opening_awaits c (all_await goals (IsEnd j u)) r.stack rest after (r.awaits j u p q) e;
  }

  pub opening_fails : Lacks (Opens c) rest → Fails (g.Opens c) rest old
  opening_fails no_ whole goals r j u p e = no_opening c (all_await goals (IsEnd j u)) r.stack rest no_ (r.awaits j u p e)

  as_inside : (x : Layer) → x.bracket ≡ Some c → x ≡ inside c x.forest
  as_inside x e = ap (λ (b : Rattle.std.proofs.Common.Option Bracket). let y : Layer = record { bracket = b; forest = x.forest } in y) e

  closing_at : ((whole rest : List Sym) (b : Bracket) (l : Layer) (ls : List Layer) (f : Forest) → IsDraftOf whole (inside b f ∷ l ∷ ls) (Closes b ∷ rest) old → IsDraftOf whole (put l (group b f end) ∷ ls) rest new)
      → (whole : List Sym) (goals : List Goal) (S : List Layer) → IsDraftOf whole S (Closes c ∷ after) old → f.fits_closes c (all_fit goals IsWhole) S
      → ((j : NodeKind) (u : Forest) → IsEnclosed j u → whole ≡ spells u [] → a.IsClosed c (all_await goals (IsEnd j u)) S (Closes c ∷ after)) → Reading whole goals after new
  closing_at built whole goals [] b h w = absurd h
  closing_at built whole goals (x ∷ []) b h w = absurd h
  closing_at built whole goals (x ∷ l ∷ S) b (i, h) w = record {
    stack = put l (group c x.forest end) ∷ S;
    built = built whole after c l S x.forest (subst (λ (y : Layer). IsDraftOf whole (y ∷ l ∷ S) (Closes c ∷ after) old) (as_inside x i) b);
    fits = h;
    awaits = λ j u p q. closing_awaits c (all_await goals (IsEnd j u)) x l S (Closes c ∷ after) after (w j u p q) refl;
  }

  pub closing_does : rest ≡ Closes c ∷ after → ((whole rest : List Sym) (b : Bracket) (l : Layer) (ls : List Layer) (f : Forest) → IsDraftOf whole (inside b f ∷ l ∷ ls) (Closes b ∷ rest) old → IsDraftOf whole (put l (group b f end) ∷ ls) rest new)
      → IsDone (g.Closes c) rest after old new
  closing_does e built whole goals r =
      closing_at built whole goals r.stack (subst (λ (x : List Sym). IsDraftOf whole r.stack x old) e r.built) r.fits
      (λ j u p q. subst (λ (x : List Sym). a.IsClosed c (all_await goals (IsEnd j u)) r.stack x) e (r.awaits j u p q))

  pub closing_fails : Lacks (Closes c) rest → Fails (g.Closes c) rest old
  closing_fails no_ whole goals r j u p e = no_closing c (all_await goals (IsEnd j u)) r.stack rest no_ (r.awaits j u p e)

-- ---- a sign

sign_awaits : (P : Token → Type 0) (s : Token) (after : List Sym) (K : Awaited) (l : Layer) (S : List Layer) → a.TakesSign P K (l ∷ S) (Is s ∷ after) → K (put l (sign s end) ∷ S) after
sign_awaits P s after K l S (a.takes_sign p h) = h

sign_at : (P : Token → Type 0) (whole : List Sym) (goals : List Goal) (s : Token) (after : List Sym) (old new : DraftState)
    → ((whole : List Sym) (l : Layer) (ls : List Layer) (t : Token) → IsDraftOf whole (l ∷ ls) (Is t ∷ after) old → IsDraftOf whole (put l (sign t end) ∷ ls) after new)
    → P s → (S : List Layer) → IsDraftOf whole S (Is s ∷ after) old → f.fits_signs P (all_fit goals IsWhole) S
    → ((j : NodeKind) (u : Forest) → IsEnclosed j u → whole ≡ spells u [] → a.TakesSign P (all_await goals (IsEnd j u)) S (Is s ∷ after)) → Reading whole goals after new
sign_at P whole goals s after old new built p [] b h w = absurd h
sign_at P whole goals s after old new built p (l ∷ S) b h w = record {
  stack = put l (sign s end) ∷ S;
  built = built whole l S s b;
  fits = h s p;
  awaits = λ j u q e. sign_awaits P s after (all_await goals (IsEnd j u)) l S (w j u q e);
}

no_sign : (P : Token → Type 0) (K : Awaited) (S : List Layer) (rest : List Sym) → LacksAny P rest → a.TakesSign P K S rest → ⊥
no_sign P K S rest no_ (a.takes_sign {s = s} {r = r} p h) = no_ s r p refl

module _ (rest after : List Sym) (old new : DraftState) (built : (whole : List Sym) (l : Layer) (ls : List Layer) (t : Token) → IsDraftOf whole (l ∷ ls) (Is t ∷ after) old → IsDraftOf whole (put l (sign t end) ∷ ls) after new) where
  pub monadic_does : FirstOf IsMonadic rest after → IsDone g.Monadic rest after old new
  monadic_does o whole goals r =
      sign_at IsMonadic whole goals o.token after old new built o.such r.stack (subst (λ (x : List Sym). IsDraftOf whole r.stack x old) o.first r.built) r.fits
      (λ j u p q. subst (λ (x : List Sym). a.TakesSign IsMonadic (all_await goals (IsEnd j u)) r.stack x) o.first (r.awaits j u p q))

  pub dyadic_does : FirstOf IsSign rest after → IsDone g.Dyadic rest after old new
  dyadic_does o whole goals r =
      sign_at IsSign whole goals o.token after old new built o.such r.stack (subst (λ (x : List Sym). IsDraftOf whole r.stack x old) o.first r.built) r.fits
      (λ j u p q. subst (λ (x : List Sym). a.TakesSign IsSign (all_await goals (IsEnd j u)) r.stack x) o.first (r.awaits j u p q))

pub monadic_fails : (rest : List Sym) (d : DraftState) → LacksAny IsMonadic rest → Fails g.Monadic rest d
monadic_fails rest d no_ whole goals r j u p e = no_sign IsMonadic (all_await goals (IsEnd j u)) r.stack rest no_ (r.awaits j u p e)

pub dyadic_fails : (rest : List Sym) (d : DraftState) → LacksAny IsSign rest → Fails g.Dyadic rest d
dyadic_fails rest d no_ whole goals r j u p e = no_sign IsSign (all_await goals (IsEnd j u)) r.stack rest no_ (r.awaits j u p e)

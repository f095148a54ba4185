-- Frames, the last of which is the innermost layer.
use Rattle.std.proofs.Common.{◌≡◌, ℕ, ◌+◌, ◌<◌, List, [], ◌∷◌, ◌++◌, length, map, reverse, take, get_or, slice_get, Some, suc, zero, sym, ap, subst, ◌∙◌, arith}
use Rattle.std.proofs.Math.ListN.{set}
use Rattle.std.proofs.lemmas.List.{map_push, reverse-append, take_more, take_all, take_more_set, length-set}
use Rattle.a68_nodes.specs.declared.draft.OpenLayer.{OpenLayer}
use Rattle.a68_nodes.specs.Views.{Opened, opened, all_opened, stretch, IsWithin, AllWithin}

pub opened_push : (asides : List ℕ) (fs : List OpenLayer) (f : OpenLayer) → all_opened asides (fs ++ f ∷ []) ≡ opened asides f ∷ all_opened asides fs
opened_push asides fs f = ap reverse (map_push (opened asides) fs f) ∙ reverse-append (map (opened asides) fs) (opened asides f ∷ [])

pub within_push : (n : ℕ) (fs : List OpenLayer) (f : OpenLayer) → AllWithin n fs → IsWithin n f.kept → AllWithin n (fs ++ f ∷ [])
within_push n [] f a h = (h, tt)
within_push n (g ∷ fs) f a h = (a.0, within_push n fs f a.1 h)

pub within_front : (n : ℕ) (fs : List OpenLayer) (f : OpenLayer) → AllWithin n (fs ++ f ∷ []) → AllWithin n fs
within_front n [] f a = tt
within_front n (g ∷ fs) f a = (a.0, within_front n fs f a.1)

pub within_last : (n : ℕ) (fs : List OpenLayer) (f : OpenLayer) → AllWithin n (fs ++ f ∷ []) → IsWithin n f.kept
within_last n [] f a = a.0
within_last n (g ∷ fs) f a = within_last n fs f a.1

pub within_at : (n : ℕ) (fs : List OpenLayer) (i : ℕ) (f : OpenLayer) → AllWithin n fs → Some f ≡ slice_get fs i → IsWithin n f.kept
within_at n [] i f a e = cc
within_at n (g ∷ fs) zero f a e = let same : g ≡ f = cc in rw (← same) a.0
within_at n (g ∷ fs) (suc i) f a e = within_at n fs i f a.1 e

-- a list by its last item, and with another one in its place
pub by_last : {A : Type 0} (xs : List A) (i : ℕ) (x : A) → i + 1 ≡ length xs → x ≡ get_or xs i x → xs ≡ take i xs ++ x ∷ []
by_last xs i x e g =
    let within : i < length xs = omega (arith, e) in
    sym (take_all (i + 1) xs (omega (arith, e))) ∙ take_more xs i x within ∙ ap (λ y. take i xs ++ y ∷ []) (sym g)

pub set_last : {A : Type 0} (xs : List A) (i : ℕ) (x : A) → i + 1 ≡ length xs → set xs i x ≡ take i xs ++ x ∷ []
set_last xs i x e =
    let within : i < length xs = omega (arith, e) in
    let size = length-set xs i x in
    sym (take_all (i + 1) (set xs i x) (omega (arith, e, size))) ∙ take_more_set xs i x within

module _ (fs : List OpenLayer) (i : ℕ) (x y : OpenLayer) (e : i + 1 ≡ length fs) (g : x ≡ get_or fs i x) where
  pub keep_is : (asides : List ℕ) (o : Opened) (os : List Opened) → y.first ≡ x.first → y.before ≡ x.before → all_opened asides fs ≡ o ∷ os
      → all_opened asides (set fs i y) ≡ record o { kept = stretch asides y.kept } ∷ os
  keep_is asides o os p q h =
      let a : opened asides x ∷ all_opened asides (take i fs) ≡ o ∷ os = sym (opened_push asides (take i fs) x) ∙ ap (all_opened asides) (sym (by_last fs i x e g)) ∙ h in
      let b : all_opened asides (set fs i y) ≡ opened asides y ∷ all_opened asides (take i fs) = ap (all_opened asides) (set_last fs i y e) ∙ opened_push asides (take i fs) y in cc

  pub keep_within : (n : ℕ) → AllWithin n fs → IsWithin n y.kept → AllWithin n (set fs i y)
  keep_within n a h = let b : AllWithin n (take i fs ++ x ∷ []) = subst (AllWithin n) (by_last fs i x e g) a in
      subst (AllWithin n) (sym (set_last fs i y e)) (within_push n (take i fs) y (within_front n (take i fs) x b) h)

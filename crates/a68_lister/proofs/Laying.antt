-- Symbols laid out one behind the other.
use Rattle.std.proofs.Common.{◌≡◌, ◌≤◌, ◌+◌, ◌++◌, ℕ, zero, suc, List, [], ◌∷◌, length, drop, None, Some, Option, refl, ap, sym, ◌∙◌, arith, append_assoc}
use Rattle.std.proofs.lemmas.List.{length-map}
use Rattle.std.proofs.lemmas.Option.{slice_get-map}
use Rattle.std.specs.Option.{option_map}
use Rattle.std.specs.Prelude.{slice_get}
use Rattle.a68_lister.specs.Layout.{blanks, gap, depth_behind, laid_out, bytes_of, spelling_in, spellings_in}
use Rattle.a68_symbols.specs.Names.{Named, Spelled}
use Rattle.a68_symbols.specs.declared.symbol.Symbol.{Symbol}

blanks_push : (n : ℕ) → blanks n ++ 32 ∷ [] ≡ blanks (suc n)
blanks_push zero = refl
blanks_push (suc n) = ap (λ (l : List ℕ). 32 ∷ l) (blanks_push n)

pub blanks_more : (t t1 t2 : List ℕ) (n : ℕ) → t1 ≡ t ++ blanks n → t2 ≡ t1 ++ 32 ∷ [] → t2 ≡ t ++ blanks (suc n)
blanks_more t t1 t2 n e f = f ∙ ap (λ (x : List ℕ). x ++ 32 ∷ []) e ∙ append_assoc t (blanks n) (32 ∷ []) ∙ ap (λ (x : List ℕ). t ++ x) (blanks_push n)

bytes_by : (o : Option Spelled) (bytes : List ℕ) → option_map (λ (x : Spelled). x.bytes) o ≡ Some bytes → bytes_of o ≡ bytes
bytes_by None bytes e = absurd (cc e)
bytes_by (Some x) bytes e = cc e

pub spelled : (found : Named) (i : ℕ) (s : Symbol) (bytes : List ℕ) → slice_get found.symbols i ≡ Some s → option_map (λ (x : Spelled). x.bytes) (slice_get found.spellings s.name) ≡ Some bytes
    → slice_get (spellings_in found) i ≡ Some bytes
spelled found i s bytes at sp =
    slice_get-map (spelling_in found) found.symbols i ∙ ap (option_map (spelling_in found)) at ∙ ap Some (bytes_by (slice_get found.spellings s.name) bytes sp)

drop_at : {X : Type 0} (xs : List X) (i : ℕ) (x : X) → slice_get xs i ≡ Some x → drop i xs ≡ x ∷ drop (suc i) xs
drop_at [] i x h = absurd (cc h)
drop_at (y ∷ xs) zero x h = let both : Some y ≡ Some x = h in let one : y ≡ x = cc both in ap (λ z. z ∷ xs) one
drop_at (y ∷ xs) (suc i) x h = drop_at xs i x h

drop_all : {X : Type 0} (xs : List X) (n : ℕ) → length xs ≤ n → drop n xs ≡ []
drop_all [] zero h = refl
drop_all [] (suc n) h = refl
drop_all (x ∷ xs) zero h = absurd (omega (arith, h))
drop_all (x ∷ xs) (suc n) h = drop_all xs n (omega (arith, h))

pub list_more : (all : List (List ℕ)) (i : ℕ) (s before : List ℕ) (depth : ℕ) (text t1 t2 whole : List ℕ) (next : ℕ) → slice_get all i ≡ Some s → text ++ laid_out before depth (drop i all) ≡ whole
    → t1 ≡ text ++ gap before depth s → t2 ≡ t1 ++ s → next ≡ depth_behind depth s → t2 ++ laid_out s next (drop (i + 1) all) ≡ whole
list_more all i s before depth text t1 t2 whole next at e e1 e2 n =
    let one : i + 1 ≡ suc i = omega arith in
    let later : laid_out s next (drop (i + 1) all) ≡ laid_out s (depth_behind depth s) (drop (suc i) all) =
    ap (λ (k : ℕ). laid_out s k (drop (i + 1) all)) n ∙ ap (λ (k : ℕ). laid_out s (depth_behind depth s) (drop k all)) one in
    let here : laid_out before depth (drop i all) ≡ gap before depth s ++ (s ++ laid_out s (depth_behind depth s) (drop (suc i) all)) =
    ap (λ (x : List (List ℕ)). laid_out before depth x) (drop_at all i s at) in
    ap (λ (x : List ℕ). t2 ++ x) later ∙ ap (λ (x : List ℕ). x ++ laid_out s (depth_behind depth s) (drop (suc i) all)) (e2 ∙ ap (λ (x : List ℕ). x ++ s) e1)
    ∙ append_assoc (text ++ gap before depth s) s (laid_out s (depth_behind depth s) (drop (suc i) all))
    ∙ append_assoc text (gap before depth s) (s ++ laid_out s (depth_behind depth s) (drop (suc i) all))
    ∙ ap (λ (x : List ℕ). text ++ x) (sym here) ∙ e

pub list_all : (found : Named) (i : ℕ) (before : List ℕ) (depth : ℕ) (text t1 whole : List ℕ) → length found.symbols ≤ i → text ++ laid_out before depth (drop i (spellings_in found)) ≡ whole → t1 ≡ text ++ 10 ∷ [] → t1 ≡ whole
list_all found i before depth text t1 whole high e f =
    let none : drop i (spellings_in found) ≡ [] = drop_all (spellings_in found) i (omega (arith, length-map found.symbols (spelling_in found), high)) in
    f ∙ sym (ap (λ (x : List (List ℕ)). text ++ laid_out before depth x) none) ∙ e

-- A walk that counts its steps, and the walk of a sort.
use Rattle.std.proofs.Common.{◌≡◌, ◌<◌, ◌≤◌, ◌+◌, ℕ, zero, suc, List, [], ◌∷◌, ◌++◌, Bool, true, false, Option, Some, None, length, length-append, refl, sym, ap, ◌∙◌, subst, arith, ⊎_elim}
use Rattle.std.specs.Prelude.{◌↔◌, IsTrue}
use Rattle.std.specs.List.{All}
use Rattle.std.proofs.lemmas.Bool.{false≢true}
use Rattle.std.proofs.lemmas.List.Elements.{All-nil, All-push, All-tail, All-head}
use Rattle.std.proofs.lemmas.List.{append-nil}
use Rattle.a68_modes.specs.declared.shape.Shape.{Shape}
use Rattle.a68_modes.specs.declared.shape.Shape.TheVariants.{Ref, Proc}
use Rattle.a68_modes.specs.Nodes.{HoldsNodes}
use Rattle.a68_modes.specs.declared.coercion.Coercion.{Coercion}
use Rattle.a68_modes.specs.declared.coercion.Coercion.TheVariants.{Deref, Deproc}
use Rattle.a68_modes.specs.declared.coercion.Sort.{Sort}
use Rattle.a68_modes.specs.declared.coercion.Sort.TheVariants as by
use Rattle.a68_equiv.specs.declared.mode.Mode.{Mode}
use Rattle.a68_equiv.specs.Unfolding.{unfolded}
use Rattle.a68_equiv.specs.Related.{Meek, meek_step}
use Rattle.a68_equiv.specs.Related.Meek.{here, deref, deproc}
use Rattle.a68_equiv.specs.Ways.{AreWellFormed}
use Rattle.a68_equiv.proofs.Chains.{steps, counted}
use Rattle.a68_equiv.proofs.Meekly.{meek_next, shorter, id_of}
use Rattle.a68_coerce.specs.Paths.{Allows, Goes, EndsInDeref, IsFirstOnWay}
use Rattle.a68_coerce.specs.Routes.{meek_way, then_meekly, coercion_of, MayEnd}
use Rattle.a68_coerce.proofs.Walking.{Walked, began, further, nowhere, begins, stepped, short}

-- a way is so many meek coercions of the mode
pub way_is : {nodes : List Shape} {m k : Mode} {path : List Coercion} → Meek nodes m path k → meek_way nodes (length path) m ≡ path
way_is here = refl
way_is {nodes = nodes} (deref {path = p} f w) = ap (then_meekly (meek_way nodes (length p))) f ∙ ap (λ (q : List Coercion). Deref ∷ q) (way_is w)
way_is {nodes = nodes} (deproc {path = p} f w) = ap (then_meekly (meek_way nodes (length p))) f ∙ ap (λ (q : List Coercion). Deproc ∷ q) (way_is w)

-- no more steps are counted than there is fuel
pub most : (next : ℕ → Option ℕ) (fuel m : ℕ) → steps next fuel m ≤ fuel
most next zero m = omega arith
most next (suc fuel) m = go (next m) (most next fuel)
  where
    go : (s : Option ℕ) → ((k : ℕ) → steps next fuel k ≤ fuel) → counted (steps next fuel) s ≤ suc fuel
    go None ih = omega arith
    go (Some k) ih = let h = ih k in omega arith

-- a walk of so many steps, with room for those to come
pub record Counted (nodes : List Shape) (Hit : List Coercion → Mode → Type 0) (from : Mode) (count : ℕ) (path : List Coercion) (at : Mode) : Type 0 where
  pub long : length path ≡ count
  pub walked : Walked nodes Hit from path at
  pub room : count + steps (meek_next nodes) (length nodes) at.id ≤ length nodes

module _ (nodes : List Shape) (Hit : List Coercion → Mode → Type 0) (from : Mode) where
  pub started : from.id < length nodes → Counted nodes Hit from 0 [] from
  started h = record { long = refl; walked = began nodes Hit from [] refl h; room = let l = most (meek_next nodes) (length nodes) from.id in omega arith }

  pub falls : (count : ℕ) (path : List Coercion) (at next : Mode) (c : Coercion) → HoldsNodes nodes → AreWellFormed nodes → Counted nodes Hit from count path at → Meek nodes at (c ∷ []) next
      → steps (meek_next nodes) (length nodes) next.id < steps (meek_next nodes) (length nodes) at.id
  falls count path at next c holds formed w v = shorter nodes holds formed at.id next.id w.walked.there (ap id_of (stepped v))

  pub onward : (count : ℕ) (path : List Coercion) (at next : Mode) (c : Coercion) → HoldsNodes nodes → AreWellFormed nodes → Counted nodes Hit from count path at → next.id < length nodes → (Hit path at → ⊥)
      → Meek nodes at (c ∷ []) next → Counted nodes Hit from (count + 1) (path ++ c ∷ []) next
  onward count path at next c holds formed w h not v = record {
    long = let l = w.long in omega (arith, length-append path (c ∷ []));
    walked = further nodes Hit from path at next c w.walked h not v;
    room = let f = falls count path at next c holds formed w v in let r = w.room in omega arith;
  }

  pub counted_way : (count : ℕ) (path : List Coercion) (at : Mode) → Counted nodes Hit from count path at → meek_way nodes count from ≡ path
  counted_way count path at w = ap (λ (n : ℕ). meek_way nodes n from) (sym w.long) ∙ way_is w.walked.reached

-- ---- the walk of a sort

-- two lists that end in one element
same_last : (p q : List Coercion) (c d : Coercion) → p ++ c ∷ [] ≡ q ++ d ∷ [] → c ≡ d
same_last [] [] c d e = cc
same_last [] (x ∷ q) c d e = let l = simp length-append at (ap length e) in absurd (omega arith)
same_last (x ∷ p) [] c d e = let l = simp length-append at (ap length e) in absurd (omega arith)
same_last (x ∷ p) (y ∷ q) c d e = let t : p ++ c ∷ [] ≡ q ++ d ∷ [] = cc in same_last p q c d t

pub ends_none : EndsInDeref [] ↔ IsTrue false
ends_none = (λ e. absurd (none e.0 e.1), λ t. absurd (false≢true t))
  where
    none : (q : List Coercion) → [] ≡ q ++ Deref ∷ [] → ⊥
    none q e = let l = simp length-append at (ap length e) in omega arith

pub ends_in : (path : List Coercion) (d : Bool) → EndsInDeref (path ++ coercion_of d ∷ []) ↔ IsTrue d
ends_in path true = (λ e. refl, λ t. (path, refl))
ends_in path false = (λ e. let no : Deproc ≡ Deref = same_last path e.0 Deproc Deref e.1 in absurd (cc), λ t. absurd (false≢true t))

-- how far the walk of a sort has come
pub record Going (nodes : List Shape) (sort : Sort) (Holds : Mode → Type 0) (from : Mode) (count : ℕ) (dereferenced : Bool) (at : Mode) : Type 0 where
  pub path : List Coercion
  pub counted : Counted nodes (λ r k. Allows nodes sort r k × Holds k) from count path at
  pub ends : EndsInDeref path ↔ IsTrue dereferenced
  pub soft : sort ≡ by.Soft → All (λ c. c ≡ Deproc) path

pub allowed : (nodes : List Shape) (sort : Sort) (path : List Coercion) (at : Mode) (b : Bool) → EndsInDeref path ↔ IsTrue b → (sort ≡ by.Soft → All (λ c. c ≡ Deproc) path) → MayEnd sort b (unfolded nodes at.id) → Allows nodes sort path at
allowed nodes by.Soft path at b e s m = s refl
allowed nodes by.Weak path at true e s m = λ d. m
allowed nodes by.Weak path at false e s m = λ d. absurd (false≢true (e.0 d))
allowed nodes by.Meek path at b e s m = tt
allowed nodes by.Firm path at b e s m = tt
allowed nodes by.Strong path at b e s m = tt

pub may_end : (nodes : List Shape) (sort : Sort) (path : List Coercion) (at : Mode) (b : Bool) → EndsInDeref path ↔ IsTrue b → Allows nodes sort path at → MayEnd sort b (unfolded nodes at.id)
may_end nodes by.Soft path at b e a = tt
may_end nodes by.Weak path at true e a = a (e.1 refl)
may_end nodes by.Weak path at false e a = tt
may_end nodes by.Meek path at b e a = tt
may_end nodes by.Firm path at b e a = tt
may_end nodes by.Strong path at b e a = tt

-- nothing that is dereferenced is softly coerced
not_soft : (path q : List Coercion) → All (λ c. c ≡ Deproc) (path ++ Deref ∷ q) → ⊥
not_soft [] q h = let no : Deref ≡ Deproc = All-head (λ c. c ≡ Deproc) Deref q h in cc
not_soft (c ∷ path) q h = not_soft path q (All-tail (λ c. c ≡ Deproc) c (path ++ Deref ∷ q) h)

module _ (nodes : List Shape) (sort : Sort) (Holds : Mode → Type 0) (from : Mode) where
  pub sets_out : from.id < length nodes → Going nodes sort Holds from 0 false from
  sets_out h = record { path = []; counted = started nodes (λ r k. Allows nodes sort r k × Holds k) from h; ends = ends_none; soft = λ e. All-nil (λ c. c ≡ Deproc) }

  module _ (count : ℕ) (b : Bool) (at : Mode) (w : Going nodes sort Holds from count b at) where
    pub arrived : MayEnd sort b (unfolded nodes at.id) → Holds at → IsFirstOnWay nodes sort Holds from (meek_way nodes count from) at
    arrived m h = subst (λ (p : List Coercion). IsFirstOnWay nodes sort Holds from p at) (sym (counted_way nodes (λ r k. Allows nodes sort r k × Holds k) from count w.path at w.counted)) record {
      goes = (w.counted.walked.reached, allowed nodes sort w.path at b w.ends w.soft m);
      holds = h;
      first = λ q more j e goes i. let x = w.counted.walked.only q j goes.0 (goes.1, i) in short w.path q more x.0 e x.1;
    }

    not_hit : (MayEnd sort b (unfolded nodes at.id) × Holds at → ⊥) → Allows nodes sort w.path at × Holds at → ⊥
    not_hit not h = not (may_end nodes sort w.path at b w.ends h.0, h.1)

    pub no_further : (MayEnd sort b (unfolded nodes at.id) × Holds at → ⊥) → meek_step (unfolded nodes at.id) ≡ None → (path : List Coercion) (k : Mode) → Goes nodes sort from path k → Holds k → ⊥
    no_further not e path k g h = nowhere nodes (λ r j. Allows nodes sort r j × Holds j) from w.path at w.counted.walked (not_hit not) e path k g.0 (g.1, h)

    pub broken_off : (MayEnd sort b (unfolded nodes at.id) × Holds at → ⊥) → sort ≡ by.Soft → (next : Mode) → Meek nodes at (Deref ∷ []) next → (path : List Coercion) (k : Mode) → Goes nodes sort from path k → Holds k → ⊥
    broken_off not soft next v path k g h =
        let u = w.counted.walked.only path k g.0 (g.1, h) in
        ⊎_elim
        (λ e. let same : path ≡ w.path = u.1 ∙ ap (λ (q : List Coercion). w.path ++ q) e.0 ∙ append-nil w.path in not_hit not (rw (sym same, e.1) (g.1, h)))
        (λ e. not_soft w.path e.0 (subst (All (λ c. c ≡ Deproc)) (u.1 ∙ ap (λ (q : List Coercion). w.path ++ q) e.1) (let a : Allows nodes by.Soft path k = subst (λ (s : Sort). Allows nodes s path k) soft g.1 in a)))
        (begins v u.2)

    pub goes_on : (d : Bool) (next : Mode) → HoldsNodes nodes → AreWellFormed nodes → (MayEnd sort b (unfolded nodes at.id) × Holds at → ⊥) → ((sort ≡ by.Soft) × (d ≡ true) → ⊥) → next.id < length nodes
        → Meek nodes at (coercion_of d ∷ []) next → Going nodes sort Holds from (count + 1) d next
    goes_on d next holds formed not stays h v = record {
      path = w.path ++ coercion_of d ∷ [];
      counted = onward nodes (λ r k. Allows nodes sort r k × Holds k) from count w.path at next (coercion_of d) holds formed w.counted h (not_hit not) v;
      ends = ends_in w.path d;
      soft = called d stays;
    }
      where
        called : (d : Bool) → ((sort ≡ by.Soft) × (d ≡ true) → ⊥) → sort ≡ by.Soft → All (λ c. c ≡ Deproc) (w.path ++ coercion_of d ∷ [])
        called true stays e = absurd (stays (e, refl))
        called false stays e = All-push (λ c. c ≡ Deproc) w.path Deproc (w.soft e) refl

pub by_deref : {nodes : List Shape} {m k : Mode} (d : Bool) → d ≡ true → Meek nodes m (coercion_of d ∷ []) k → Meek nodes m (Deref ∷ []) k
by_deref true e v = v
by_deref false e v = absurd (false≢true e)

-- ---- a way written out

pub one_step : {nodes : List Shape} {m k : Mode} {c : Coercion} → Meek nodes m (c ∷ []) k → (n : ℕ) → meek_way nodes (suc n) m ≡ c ∷ meek_way nodes n k
one_step {nodes = nodes} (deref f here) n = ap (then_meekly (meek_way nodes n)) f
one_step {nodes = nodes} (deproc f here) n = ap (then_meekly (meek_way nodes n)) f

pub no_step : (nodes : List Shape) (m : Mode) → meek_step (unfolded nodes m.id) ≡ None → (n : ℕ) → meek_way nodes n m ≡ []
no_step nodes m e zero = refl
no_step nodes m e (suc n) = go (unfolded nodes m.id) e
  where
    go : (s : Shape) → meek_step s ≡ None → then_meekly (meek_way nodes n) s ≡ []
    go (Ref a) e = absurd (cc)
    go (Proc [] a) e = absurd (cc)
    go (Proc (p ∷ ps) a) e = refl
    go _ e = refl

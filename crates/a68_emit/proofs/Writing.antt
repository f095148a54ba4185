-- Instructions that are written one behind the other.
use Rattle.std.proofs.Common.{◌≡◌, ℕ, zero, suc, ◌+◌, ◌<◌, List, [], ◌∷◌, ◌++◌, length, drop, get_or, refl, sym, ◌∙◌, ap, arith, append_assoc, append-nil, drop-cons, add-one, length-append, Some, None, slice_set}
use Rattle.std.specs.Option.{option_map_or}
use Rattle.std.specs.Prelude.{slice_get}
use Rattle.std.specs.declared.option.Option.{Option}
use Rattle.a68_base.specs.declared.refusal.Stop.{Stop}
use Rattle.a68_base.specs.declared.refusal.Stop.TheVariants.{Refused, NoMemory}
use Rattle.a68_builder.specs.Aiming.{aimed, aimed_at, names, names_at}
use Rattle.a68_code.specs.declared.code.Instr.{Instr}
use Rattle.a68_code.specs.declared.does.Does.{Does}
use Rattle.a68_code.specs.declared.does.Does.TheVariants as does
use Rattle.a68_emit.specs.Coercing.{behind, coercion_of, coercions}
use Rattle.a68_emit.specs.Numbers.{put_all, put_at}
use Rattle.a68_emit.specs.Writing.{aim_all, most, places, Stops, Writes}
use Rattle.a68_emit.proofs.Fronts.{get-front}
use Rattle.a68_modes.specs.declared.coercion.Coercion.{Coercion}
use Rattle.a68_modes.specs.declared.shape.Shape.{Shape}

pub places-append : (xs ys : List Instr) → places (xs ++ ys) ≡ places xs ++ places ys
places-append [] ys = refl
places-append (x ∷ xs) ys = ap (λ l. x.place ∷ l) (places-append xs ys)

-- what is refused at a front is refused
pub stops-front : (stop : Stop) (xs ys : List Instr) → Stops stop xs → Stops stop (xs ++ ys)
stops-front NoMemory xs ys s = tt
stops-front (Refused r) xs ys s = record { rule = s.rule; place = rw places-append (get-front (places xs) (places ys) most r.place s.place) }

-- a step of a path
pub one_coercion : (modes : List Shape) (place goal mode i : ℕ) (path : List Coercion) (d : Coercion) → i < length path
    → coercions modes place goal mode (drop i path)
    ≡ coercion_of modes place goal mode (get_or path i d) (drop (i + 1) path)
    ++ coercions modes place goal (behind modes goal mode (get_or path i d) (drop (i + 1) path)) (drop (i + 1) path)
one_coercion modes place goal mode i path d p = rw (add-one, drop-cons path i d) refl

-- what is refused at a front is refused as a whole
pub stops-within : (stop : Stop) (xs rest whole : List Instr) → Stops stop xs → xs ++ rest ≡ whole → Stops stop whole
stops-within stop xs rest whole s e = rw (← e) (stops-front stop xs rest s)

-- what is refused is refused wherever the places go on like this
pub stops-places : (stop : Stop) (xs ys : List Instr) (rest : List ℕ) → Stops stop xs → places xs ++ rest ≡ places ys → Stops stop ys
stops-places NoMemory xs ys rest s e = tt
stops-places (Refused r) xs ys rest s e = record { rule = s.rule; place = rw (← e) (get-front (places xs) rest most r.place s.place) }

-- what follows is written behind what was written; where it is depends on how many instructions there are
pub and_behind : (s0 s1 s2 : Option Stop) (l0 l1 l2 a : List Instr) (f : ℕ → List Instr) → Writes s0 s1 l0 l1 a → Writes s1 s2 l1 l2 (f (length l1)) → Writes s0 s2 l0 l2 (a ++ f (length l0 + length a))
and_behind (Some s) (Some s1) s2 l0 l1 l2 a f w v = v ∙ w
and_behind (Some s) None s2 l0 l1 l2 a f w v = absurd (cc)
and_behind None (Some s1) None l0 l1 l2 a f w v = absurd (cc)
and_behind None (Some s1) (Some s2) l0 l1 l2 a f w v =
    let e : s2 ≡ s1 = cc in
    rw (e, ← append_assoc l0 a (f (length l0 + length a))) (stops-front s1 (l0 ++ a) (f (length l0 + length a)) w)
and_behind None None None l0 l1 l2 a f w v = rw (v, w, length-append, append_assoc) refl
and_behind None None (Some s2) l0 l1 l2 a f w v = let z : Stops s2 ((l0 ++ a) ++ f (length (l0 ++ a))) = rw w at v in rw (length-append, append_assoc) at z

pub writes-as : (s0 s1 : Option Stop) (l0 l1 a b : List Instr) → a ≡ b → Writes s0 s1 l0 l1 a → Writes s0 s1 l0 l1 b
writes-as s0 s1 l0 l1 a b e w = rw (← e) w

-- a writer that has not stopped had not stopped before
pub had_not : (s0 s1 : Option Stop) (l0 l1 a : List Instr) → Writes s0 s1 l0 l1 a → s1 ≡ None → s0 ≡ None
had_not None s1 l0 l1 a w e = refl
had_not (Some s) s1 l0 l1 a w e = let z : Some s ≡ None = sym w ∙ e in absurd (cc)

-- and what it was to write is there
pub is_written : (s0 s1 : Option Stop) (l0 l1 a : List Instr) → Writes s0 s1 l0 l1 a → s1 ≡ None → l1 ≡ l0 ++ a
is_written (Some s) s1 l0 l1 a w e = let z : Some s ≡ None = sym w ∙ e in absurd (cc)
is_written None None l0 l1 a w e = w
is_written None (Some s) l0 l1 a w e = absurd (cc)

-- a coercion of a path is written, and the rest of the path behind it
pub coerced_once : (modes : List Shape) (place goal mode i next : ℕ) (path : List Coercion) (c d : Coercion) (rest : List Coercion) (s0 s1 s2 : Option Stop) (l0 l1 l2 : List Instr) → i < length path
    → c ≡ get_or path i d → rest ≡ drop (i + 1) path → Writes s0 s1 l0 l1 (coercion_of modes place goal mode c rest) → next ≡ behind modes goal mode c rest
    → Writes s1 s2 l1 l2 (coercions modes place goal next (drop (i + 1) path)) → Writes s0 s2 l0 l2 (coercions modes place goal mode (drop i path))
coerced_once modes place goal mode i next path c d rest s0 s1 s2 l0 l1 l2 less is_c is_rest w is_next v =
    let behind_it = drop (i + 1) path in
    let one = get_or path i d in
    let first : Writes s0 s1 l0 l1 (coercion_of modes place goal mode one behind_it) =
    writes-as s0 s1 l0 l1 _ _ (ap (λ (x : Coercion). coercion_of modes place goal mode x rest) is_c ∙ ap (λ (r : List Coercion). coercion_of modes place goal mode one r) is_rest) w in
    let next_is : next ≡ behind modes goal mode one behind_it = is_next ∙ ap (λ (x : Coercion). behind modes goal mode x rest) is_c ∙ ap (λ (r : List Coercion). behind modes goal mode one r) is_rest in
    let others : Writes s1 s2 l1 l2 (coercions modes place goal (behind modes goal mode one behind_it) behind_it) =
    writes-as s1 s2 l1 l2 _ _ (ap (λ (m : ℕ). coercions modes place goal m behind_it) next_is) v in
    writes-as s0 s2 l0 l2 _ _ (sym (one_coercion modes place goal mode i path d less))
    (and_behind s0 s1 s2 l0 l1 l2 (coercion_of modes place goal mode one behind_it) (λ n. coercions modes place goal (behind modes goal mode one behind_it) behind_it) first others)

-- nothing is written
pub nothing-written : (s : Option Stop) (l : List Instr) → Writes s s l l []
nothing-written (Some s) l = refl
nothing-written None l = sym (append-nil l)

pub set-middle : {X : Type 0} (xs ys : List X) (y z : X) (i : ℕ) → i ≡ length xs → slice_set (xs ++ y ∷ ys) i z ≡ xs ++ z ∷ ys
set-middle [] ys y z zero e = refl
set-middle [] ys y z (suc i) e = absurd (omega arith)
set-middle (x ∷ xs) ys y z zero e = absurd (omega arith)
set-middle (x ∷ xs) ys y z (suc i) e = ap (λ l. x ∷ l) (set-middle xs ys y z i (omega arith))

pub get-middle : (xs ys : List Instr) (y : Instr) (i : ℕ) → i ≡ length xs → slice_get (xs ++ y ∷ ys) i ≡ Some y
get-middle [] ys y zero e = refl
get-middle [] ys y (suc i) e = absurd (omega arith)
get-middle (x ∷ xs) ys y zero e = absurd (omega arith)
get-middle (x ∷ xs) ys y (suc i) e = get-middle xs ys y i (omega arith)

-- an instruction within a list is given a place
pub aim-middle : (xs ys : List Instr) (y : Instr) (i which to : ℕ) → i ≡ length xs → aimed_at (xs ++ y ∷ ys) i which to ≡ xs ++ (record { place = y.place; does = aimed y.does which to }) ∷ ys
aim-middle xs ys y i which to e =
    ap (λ (o : Option Instr). option_map_or (λ (z : Instr). slice_set (xs ++ y ∷ ys) i (record { place = z.place; does = aimed z.does which to })) o (xs ++ y ∷ ys)) (get-middle xs ys y i e)
    ∙ set-middle xs ys y (record { place = y.place; does = aimed y.does which to }) i e

names_none : (d : Does) (which to : ℕ) → names d ≡ 0 → aimed d which to ≡ d
names_none (does.Jump x) which to e = absurd (omega arith)
names_none (does.Goto x frames height gives) which to e = absurd (omega arith)
names_none (does.Unless x) which to e = absurd (omega arith)
names_none (does.Step x) which to e = absurd (omega arith)
names_none (does.Advance x) which to e = absurd (omega arith)
names_none (does.Case []) which to e = refl
names_none (does.Case (p ∷ ps)) which to e = absurd (omega arith)
names_none (does.Member mode [] whole) which to e = refl
names_none (does.Member mode (p ∷ ps) whole) which to e = absurd (omega arith)
names_none (does.Fork []) which to e = refl
names_none (does.Fork (p ∷ ps)) which to e = absurd (omega arith)
names_none _ which to e = refl

-- an instruction that names no place stays as it is
pub aimed_none : (list : List Instr) (at which to : ℕ) → names_at list at ≡ 0 → aimed_at list at which to ≡ list
aimed_none [] at which to e = refl
aimed_none (x ∷ xs) zero which to e = ap (λ (d : Does). record { place = x.place; does = d } ∷ xs) (names_none x.does which to e)
aimed_none (x ∷ xs) (suc at) which to e = on_tail (slice_get xs at) ∙ ap (λ (l : List Instr). x ∷ l) (aimed_none xs at which to e)
  where
    on_tail : (o : Option Instr) → option_map_or (λ (i : Instr). slice_set (x ∷ xs) (suc at) (record { place = i.place; does = aimed i.does which to })) o (x ∷ xs)
        ≡ x ∷ option_map_or (λ (i : Instr). slice_set xs at (record { place = i.place; does = aimed i.does which to })) o xs
    on_tail None = refl
    on_tail (Some i) = refl

-- one place more of those that are patched
pub aim_more : (list : List Instr) (places : List ℕ) (i to : ℕ) → i < length places → aim_all list (drop i places) to ≡ aim_all (aimed_at list (get_or places i 0) 0 to) (drop (i + 1) places) to
aim_more list places i to p = rw (add-one, drop-cons places i 0) refl

pub drop_next : (ps : List ℕ) (i : ℕ) → i < length ps → drop i ps ≡ get_or ps i 0 ∷ drop (i + 1) ps
drop_next ps i p = rw (add-one, drop-cons ps i 0) refl

-- one place more of those that an instruction names
pub put_more : (list : List Instr) (at i : ℕ) (ps : List ℕ) → i < length ps → put_all list at i (drop i ps) ≡ put_all (put_at list at i (get_or ps i 0)) at (i + 1) (drop (i + 1) ps)
put_more list at i ps p = ap (λ (l : List ℕ). put_all list at i l) (drop_next ps i p)

-- ---- what is patched within what was written

pub patched : (s0 s1 : Option Stop) (l0 l1 l2 a b : List Instr) → Writes s0 s1 l0 l1 a → places a ≡ places b → (s1 ≡ None → l1 ≡ l0 ++ a → l2 ≡ l0 ++ b) → Writes s0 s1 l0 l2 b
patched (Some s) s1 l0 l1 l2 a b w e f = w
patched None (Some s) l0 l1 l2 a b w e f = stops-places s (l0 ++ a) (l0 ++ b) [] w (append-nil _ ∙ (places-append l0 a ∙ ap (λ k. places l0 ++ k) e ∙ sym (places-append l0 b)))
patched None None l0 l1 l2 a b w e f = f refl w

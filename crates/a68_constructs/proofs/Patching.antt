-- Choices and loops: the instructions that are patched.
use Rattle.std.proofs.Common.{◌≡◌, ℕ, ◌+◌, List, [], ◌∷◌, ◌++◌, length, refl, sym, ◌∙◌, ap, arith, append_assoc, append-nil, length-append, None, Some}
use Rattle.std.specs.Option.{option_map_or}
use Rattle.std.specs.declared.option.Option.{Option}
use Rattle.a68_base.specs.declared.refusal.Stop.{Stop}
use Rattle.a68_builder.specs.Aiming.{aimed_at}
use Rattle.a68_code.specs.declared.code.Instr.{Instr}
use Rattle.a68_code.specs.declared.does.Does.TheVariants as does
use Rattle.a68_elab.specs.Trees.{Test, no_test, while_in}
use Rattle.a68_emit.specs.Listing.{instr, opens, size, stretch, test_stretch}
use Rattle.a68_constructs.specs.Loops.{unless_at}
use Rattle.a68_emit.proofs.Sizes.{size_stretch}
use Rattle.a68_emit.specs.Writing.{places, Writes}
use Rattle.a68_emit.proofs.Writing.{aim-middle, patched, places-append, stops-places}

-- ---- links of chains

-- the places of a link
link_places : (l q t : List Instr) (place x : ℕ)
    → places (l ++ (q ++ instr place (does.Unless x) ∷ (t ++ instr place (does.Jump 0) ∷ []))) ≡ places l ++ (places q ++ place ∷ (places t ++ place ∷ []))
link_places l q t place x =
    let u = instr place (does.Unless x) in
    let j = instr place (does.Jump 0) in
    places-append l (q ++ u ∷ (t ++ j ∷ [])) ∙ ap (λ k. places l ++ k) (places-append q (u ∷ (t ++ j ∷ [])) ∙ ap (λ k. places q ++ place ∷ k) (places-append t (j ∷ [])))

-- a link is written, once its jump to the other part is patched
pub link_writes : (s0 s4 : Option Stop) (l0 l4 l5 q t : List Instr) (place u x xs : ℕ) → Writes s0 s4 l0 l4 (q ++ instr place (does.Unless 0) ∷ (t ++ instr place (does.Jump 0) ∷ []))
    → (s4 ≡ None → u ≡ length l0 + length q) → (s4 ≡ None → x ≡ xs) → l5 ≡ aimed_at l4 u 0 x
    → Writes s0 s4 l0 l5 (q ++ instr place (does.Unless xs) ∷ (t ++ instr place (does.Jump 0) ∷ []))
link_writes (Some s) s4 l0 l4 l5 q t place u x xs w eu ex e5 = w
link_writes None (Some s) l0 l4 l5 q t place u x xs w eu ex e5 = stops-places s _ _ [] w (append-nil _ ∙ link_places l0 q t place 0 ∙ sym (link_places l0 q t place xs))
link_writes None None l0 l4 l5 q t place u x xs w eu ex e5 =
    let rest = t ++ instr place (does.Jump 0) ∷ [] in
    e5 ∙ ap (λ l. aimed_at l u 0 x) (w ∙ sym (append_assoc l0 q (instr place (does.Unless 0) ∷ rest)))
    ∙ aim-middle (l0 ++ q) rest (instr place (does.Unless 0)) u 0 x (omega (arith, eu refl, length-append l0 q))
    ∙ ap (λ (k : ℕ). (l0 ++ q) ++ (instr place (does.Unless k) ∷ rest)) (ex refl) ∙ append_assoc l0 q (instr place (does.Unless xs) ∷ rest)

-- ---- loops

test_places : (place f w : ℕ) (test : Test) → places (test_stretch place 0 test w) ≡ places (test_stretch place f test w)
test_places place f w no_test = refl
test_places place f w (while_in begin slots t) =
    let o = opens slots begin in
    let q = stretch t (w + length o) in
    let by : (k : ℕ) → places (o ++ (q ++ instr place (does.Unless k) ∷ [])) ≡ places o ++ (places q ++ place ∷ []) =
    λ k. places-append o (q ++ instr place (does.Unless k) ∷ []) ∙ ap (λ z. places o ++ z) (places-append q (instr place (does.Unless k) ∷ [])) in
    by 0 ∙ sym (by f)

-- a loop up to its Advance
abbrev pub front : (counted turns rest : List Instr) (place e f : ℕ) (test : Test) (w : ℕ) → List Instr
front counted turns rest place e f test w = counted ++ (instr place (does.Step e) ∷ (turns ++ (test_stretch place f test w ++ rest)))

front_places : (counted turns rest : List Instr) (place e f : ℕ) (test : Test) (w : ℕ) → places (front counted turns rest place 0 0 test w) ≡ places (front counted turns rest place e f test w)
front_places counted turns rest place e f test w =
    let by : (e' f' : ℕ) → places (front counted turns rest place e' f' test w)
    ≡ places counted ++ (place ∷ (places turns ++ (places (test_stretch place f' test w) ++ places rest))) =
    λ e' f'. let t = test_stretch place f' test w in
    places-append counted (instr place (does.Step e') ∷ (turns ++ (t ++ rest)))
    ∙ ap (λ (z : List ℕ). places counted ++ (place ∷ z)) (places-append turns (t ++ rest) ∙ ap (λ (z : List ℕ). places turns ++ z) (places-append t rest)) in
    by 0 0 ∙ ap (λ (z : List ℕ). places counted ++ (place ∷ (places turns ++ (z ++ places rest)))) (test_places place f w test) ∙ sym (by e f)

middle : (xs a b ys : List Instr) (u : Instr) → xs ++ ((a ++ (b ++ u ∷ [])) ++ ys) ≡ (xs ++ (a ++ b)) ++ u ∷ ys
middle xs a b ys u =
    ap (λ (z : List Instr). xs ++ z) (append_assoc a (b ++ u ∷ []) ys ∙ ap (λ (z : List Instr). a ++ z) (append_assoc b (u ∷ []) ys) ∙ sym (append_assoc a b (u ∷ ys)))
    ∙ sym (append_assoc xs (a ++ b) (u ∷ ys))

abbrev pub aimed_some : List Instr → Option ℕ → (to : ℕ) → List Instr
aimed_some list o to = option_map_or (λ at. aimed_at list at 0 to) o list

unless_aimed : (xs ys : List Instr) (place f w : ℕ) (test : Test) → length xs ≡ w
    → aimed_some (xs ++ (test_stretch place 0 test w ++ ys)) (unless_at test w) f ≡ xs ++ (test_stretch place f test w ++ ys)
unless_aimed xs ys place f w no_test e = refl
unless_aimed xs ys place f w (while_in begin slots t) e =
    let o = opens slots begin in
    let q = stretch t (w + length o) in
    let u = w + length o + size t in
    let long = size_stretch t (w + length o) in
    ap (λ (l : List Instr). aimed_at l u 0 f) (middle xs o q ys (instr place (does.Unless 0)))
    ∙ aim-middle (xs ++ (o ++ q)) ys (instr place (does.Unless 0)) u 0 f (omega (arith, e, long, length-append xs (o ++ q), length-append o q))
    ∙ sym (middle xs o q ys (instr place (does.Unless f)))

-- a loop once its Step and its Unless are patched
front_patched : (l0 l5 l6 l7 counted turns rest : List Instr) (place step e f w : ℕ) (o : Option ℕ) (test : Test)
    → l5 ≡ l0 ++ front counted turns rest place 0 0 test w → step ≡ length l0 + length counted → w ≡ length l0 + length counted + 1 + length turns → o ≡ unless_at test w
    → l6 ≡ aimed_at l5 step 0 e → l7 ≡ aimed_some l6 o f → l7 ≡ l0 ++ front counted turns rest place e f test w
front_patched l0 l5 l6 l7 counted turns rest place step e f w o test w5 es ew eo e6 e7 =
    let t = test_stretch place 0 test w in
    let step_of : ℕ → Instr = λ k. instr place (does.Step k) in
    let xs = (l0 ++ counted) ++ (step_of e ∷ turns) in
    let six : l6 ≡ xs ++ (t ++ rest) =
    e6 ∙ ap (λ (l : List Instr). aimed_at l step 0 e) (w5 ∙ sym (append_assoc l0 counted (step_of 0 ∷ (turns ++ (t ++ rest)))))
    ∙ aim-middle (l0 ++ counted) (turns ++ (t ++ rest)) (step_of 0) step 0 e (omega (arith, es, length-append l0 counted))
    ∙ sym (append_assoc (l0 ++ counted) (step_of e ∷ turns) (t ++ rest)) in
    let long : length xs ≡ w = omega (arith, ew, length-append (l0 ++ counted) (step_of e ∷ turns), length-append l0 counted) in
    e7 ∙ ap (λ (l : List Instr). aimed_some l o f) six ∙ ap (λ (k : Option ℕ). aimed_some (xs ++ (t ++ rest)) k f) eo
    ∙ unless_aimed xs rest place f w test long
    ∙ append_assoc (l0 ++ counted) (step_of e ∷ turns) (test_stretch place f test w ++ rest)
    ∙ append_assoc l0 counted (step_of e ∷ (turns ++ (test_stretch place f test w ++ rest)))

pub front_writes : (s0 s5 : Option Stop) (l0 l5 l6 l7 counted turns rest : List Instr) (place step e e' f f' w : ℕ) (o : Option ℕ) (test : Test)
    → Writes s0 s5 l0 l5 (front counted turns rest place 0 0 test w) → (s5 ≡ None → step ≡ length l0 + length counted) → w ≡ length l0 + length counted + 1 + length turns
    → (s5 ≡ None → o ≡ unless_at test w) → (s5 ≡ None → e ≡ e') → (s5 ≡ None → f ≡ f') → l6 ≡ aimed_at l5 step 0 e → l7 ≡ aimed_some l6 o f
    → Writes s0 s5 l0 l7 (front counted turns rest place e' f' test w)
front_writes s0 s5 l0 l5 l6 l7 counted turns rest place step e e' f f' w o test w5 es ew eo ee ef e6 e7 =
    patched s0 s5 l0 l5 l7 _ _ w5 (front_places counted turns rest place e' f' test w)
    (λ n is. front_patched l0 l5 l6 l7 counted turns rest place step e f w o test is (es n) ew (eo n) e6 e7
    ∙ ap (λ (k : ℕ). l0 ++ front counted turns rest place k f test w) (ee n) ∙ ap (λ (k : ℕ). l0 ++ front counted turns rest place e' k test w) (ef n))

abbrev pub tail_of : (out : List Instr) (place t end : ℕ) → List Instr
tail_of out place t end = instr place (does.Advance t) ∷ instr place (does.Jump end) ∷ (out ++ instr place does.Forget ∷ [])

-- a loop in one piece
pub in_order : (a l turns t b out tail : List Instr) (c s : Instr)
    → ((a ++ (l ++ c ∷ [])) ++ (s ∷ (turns ++ (t ++ (b ++ out))))) ++ tail ≡ a ++ (l ++ (c ∷ s ∷ (turns ++ (t ++ (b ++ (out ++ tail))))))
in_order a l turns t b out tail c s =
    append_assoc (a ++ (l ++ c ∷ [])) (s ∷ (turns ++ (t ++ (b ++ out)))) tail
    ∙ ap (λ (z : List Instr). (a ++ (l ++ c ∷ [])) ++ (s ∷ z))
    (append_assoc turns (t ++ (b ++ out)) tail ∙ ap (λ (z : List Instr). turns ++ z) (append_assoc t (b ++ out) tail ∙ ap (λ (z : List Instr). t ++ z) (append_assoc b out tail)))
    ∙ append_assoc a (l ++ c ∷ []) (s ∷ (turns ++ (t ++ (b ++ (out ++ tail)))))
    ∙ ap (λ (z : List Instr). a ++ z) (append_assoc l (c ∷ []) (s ∷ (turns ++ (t ++ (b ++ (out ++ tail))))))

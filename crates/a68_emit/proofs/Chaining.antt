-- Chains of choices, link by link, and their ends.
use Rattle.std.proofs.Common.{◌≡◌, ◌⊎◌, inl, inr, ℕ, zero, suc, ◌+◌, Bool, List, [], ◌∷◌, ◌++◌, length, refl, sym, ◌∙◌, ap, subst, arith, append_assoc, append-nil, length-append, None, Some}
use Rattle.std.specs.declared.option.Option.{Option}
use Rattle.a68_base.specs.declared.refusal.Stop.{Stop}
use Rattle.a68_builder.specs.Aiming.{aimed_at}
use Rattle.a68_code.specs.declared.code.Instr.{Instr}
use Rattle.a68_code.specs.declared.does.Does.TheVariants as does
use Rattle.a68_elab.specs.Made.{framed}
use Rattle.a68_elab.specs.Trees.{Tree, choice}
use Rattle.a68_emit.specs.Chains.{Closes, Finishes, IsOpen, jump_of, link_list, shuts}
use Rattle.a68_emit.specs.Listing.{instr, opens, size, stretch}
use Rattle.a68_emit.specs.Writing.{ran_out, Writes}
use Rattle.a68_emit.specs.declared.ends.Opened.{Opened}
use Rattle.a68_emit.proofs.Writing.{aim-middle, and_behind, had_not, is_written, patched, places-append, writes-as}
use Rattle.a68_emit.proofs.Sizes.{size_stretch}

-- ---- a writer that finds no memory, and so has stopped

pub kept_writes : (s0 s1 s2 : Option Stop) (l0 l1 a : List Instr) → (s2 ≡ s1) ⊎ (s2 ≡ ran_out s1) → Writes s0 s1 l0 l1 a → Writes s0 s2 l0 l1 a
kept_writes s0 s1 s2 l0 l1 a (inl e) w = subst (λ (s : Option Stop). Writes s0 s l0 l1 a) (sym e) w
kept_writes (Some s) s1 s2 l0 l1 a (inr e) w = e ∙ ap ran_out w
kept_writes None (Some s) s2 l0 l1 a (inr e) w = subst (λ (z : Option Stop). Writes None z l0 l1 a) (sym e) w
kept_writes None None s2 l0 l1 a (inr e) w = subst (λ (z : Option Stop). Writes None z l0 l1 a) (sym e) tt

pub was_none : (s2 s3 : Option Stop) → (s3 ≡ s2) ⊎ (s3 ≡ ran_out s2) → s3 ≡ None → s2 ≡ None
was_none s2 s3 (inl e) is = sym e ∙ is
was_none None s3 (inr e) is = refl
was_none (Some s) s3 (inr e) is = let z : Some s ≡ None = sym e ∙ is in absurd (cc)

-- it writes nothing more
stays : (s s' : Option Stop) (l l' m m' a b : List Instr) → (s ≡ None → ⊥) → Writes s s' l l' a → Writes s' s' m m' b
stays None s' l l' m m' a b some w = absurd (some refl)
stays (Some x) s' l l' m m' a b some w = subst (λ (z : Option Stop). Writes z z m m' b) (sym w) refl

pub never_none : (s2 s3 : Option Stop) → s3 ≡ ran_out s2 → s3 ≡ None → ⊥
never_none None s3 e is = let z : ran_out None ≡ None = sym e ∙ is in absurd (cc)
never_none (Some s) s3 e is = let z : Some s ≡ None = sym e ∙ is in absurd (cc)

-- ---- frames

-- the instructions of a construct in a range
pub framed_list : (begin out slots : ℕ) (yields : Bool) (t : Tree) (at : ℕ)
    → opens slots begin ++ (stretch t (at + length (opens slots begin)) ++ shuts slots yields out) ≡ stretch (framed begin out slots yields t) at
framed_list begin out zero yields t at = append-nil (stretch t (at + 0)) ∙ ap (λ (n : ℕ). stretch t n) (omega arith)
framed_list begin out (suc n) yields t at = refl

-- ---- one link

-- a jump at the end of what precedes it
pub in_front : (o q p ys : List Instr) (u : Instr) → o ++ (q ++ (u ∷ (p ++ ys))) ≡ (o ++ (q ++ (u ∷ p))) ++ ys
in_front o q p ys u = ap (λ (l : List Instr). o ++ l) (sym (append_assoc q (u ∷ p) ys)) ∙ sym (append_assoc o (q ++ (u ∷ p)) ys)

-- a choice is written, once its jump is patched
choice_patched : (s0 s2 : Option Stop) (l0 l2 o q p ys : List Instr) (u : Instr) (place jump end to : ℕ)
    → Writes s0 s2 l0 l2 ((o ++ (q ++ (u ∷ (p ++ instr place (does.Jump 0) ∷ [])))) ++ ys)
    → (s2 ≡ None → jump ≡ length l0 + length (o ++ (q ++ (u ∷ p)))) → (s2 ≡ None → to ≡ end)
    → Writes s0 s2 l0 (aimed_at l2 jump 0 to) (o ++ (q ++ (u ∷ (p ++ (instr place (does.Jump end) ∷ ys)))))
choice_patched s0 s2 l0 l2 o q p ys u place jump end to w ej et =
    let front = o ++ (q ++ (u ∷ p)) in
    let j0 = instr place (does.Jump 0) in
    let je = instr place (does.Jump end) in
    let before : (o ++ (q ++ (u ∷ (p ++ j0 ∷ [])))) ++ ys ≡ front ++ (j0 ∷ ys) = ap (λ (l : List Instr). l ++ ys) (in_front o q p (j0 ∷ []) u) ∙ append_assoc front (j0 ∷ []) ys in
    let after : o ++ (q ++ (u ∷ (p ++ (je ∷ ys)))) ≡ front ++ (je ∷ ys) = in_front o q p (je ∷ ys) u in
    let w' = writes-as s0 s2 l0 l2 _ _ before w in
    let all = patched s0 s2 l0 l2 (aimed_at l2 jump 0 to) (front ++ (j0 ∷ ys)) (front ++ (je ∷ ys)) w' (places-append front (j0 ∷ ys) ∙ sym (places-append front (je ∷ ys)))
    (λ none is. ap (λ (l : List Instr). aimed_at l jump 0 to) (is ∙ sym (append_assoc l0 front (j0 ∷ ys)))
    ∙ aim-middle (l0 ++ front) ys j0 jump 0 to (ej none ∙ sym (length-append l0 front))
    ∙ ap (λ (k : ℕ). (l0 ++ front) ++ (instr place (does.Jump k) ∷ ys)) (et none) ∙ append_assoc l0 front (je ∷ ys)) in
    writes-as s0 s2 l0 (aimed_at l2 jump 0 to) _ _ (sym after) all

-- a link is the whole choice, once its other part is written and its end has come
pub close_one : (s0 s1 s2 s3 : Option Stop) (l0 l1 l2 l3 : List Instr) (begin slots place jump : ℕ) (yields : Bool) (e a t : Tree)
    → Writes s0 s1 l0 l1 (link_list begin slots place e a (length l0)) → (s1 ≡ None → jump ≡ jump_of begin slots e a (length l0))
    → Writes s1 s2 l1 l2 (stretch t (length l1)) → Writes s2 s3 (aimed_at l2 jump 0 (length l2)) l3 (shuts slots yields place)
    → Writes s0 s3 l0 l3 (stretch (framed begin place slots yields (choice place e a t)) (length l0))
close_one s0 s1 s2 s3 l0 l1 l2 l3 begin slots place jump yields e a t w1 ej w2 w3 =
    let o = opens slots begin in
    let k = length l0 + length o in
    let m = k + size e + 1 in
    let x = m + size a + 1 in
    let q = stretch e k in
    let p = stretch a m in
    let u = instr place (does.Unless x) in
    let j0 = instr place (does.Jump 0) in
    let link = link_list begin slots place e a (length l0) in
    let se = size_stretch e k in
    let sa = size_stretch a m in
    let st = size_stretch t x in
    let long_up : length (q ++ (u ∷ p)) ≡ size e + 1 + size a = omega (arith, length-append q (u ∷ p), se, sa) in
    let long_front : length (o ++ (q ++ (u ∷ p))) ≡ length o + (size e + 1 + size a) = length-append o (q ++ (u ∷ p)) ∙ ap (λ (n : ℕ). length o + n) long_up in
    let long_link : length link ≡ length o + (size e + 1 + size a) + 1 =
    ap (λ (l : List Instr). length l) (in_front o q p (j0 ∷ []) u) ∙ length-append (o ++ (q ++ (u ∷ p))) (j0 ∷ []) ∙ ap (λ (n : ℕ). n + 1) long_front in
    let same : length l0 + length link ≡ x = omega (arith, long_link) in
    let w02 : Writes s0 s2 l0 l2 (link ++ stretch t x) =
    subst (λ (n : ℕ). Writes s0 s2 l0 l2 (link ++ stretch t n)) same (and_behind s0 s1 s2 l0 l1 l2 link (λ n. stretch t n) w1 w2) in
    let end_is : s2 ≡ None → length l2 ≡ x + size t =
    λ none. let is = is_written s0 s2 l0 l2 (link ++ stretch t x) w02 none in
    omega (arith, ap (λ (l : List Instr). length l) is, length-append l0 (link ++ stretch t x), length-append link (stretch t x), st, long_link) in
    let jump_is : s2 ≡ None → jump ≡ length l0 + length (o ++ (q ++ (u ∷ p))) = λ none. let j = ej (had_not s1 s2 l1 l2 (stretch t (length l1)) w2 none) in omega (arith, j, long_front) in
    let closed = choice_patched s0 s2 l0 l2 o q p (stretch t x) u place jump (x + size t) (length l2) w02 jump_is end_is in
    writes-as s0 s3 l0 l3 _ _ (append_assoc o (stretch (choice place e a t) k) (shuts slots yields place) ∙ framed_list begin place slots yields (choice place e a t) (length l0))
    (and_behind s0 s2 s3 l0 (aimed_at l2 jump 0 (length l2)) l3 (o ++ stretch (choice place e a t) k) (λ n. shuts slots yields place) closed w3)

-- ---- all links

-- one choice more is ended
pub finishes_more : (Wanted : Option Stop → List Instr → Type 0) (os : List Opened) (o : Opened) (s : Option Stop) (l : List Instr)
    → ((s' : Option Stop) (l' : List Instr) → Closes o s l s' l' → Finishes os Wanted s' l') → Finishes (os ++ o ∷ []) Wanted s l
finishes_more Wanted [] o s l h = h
finishes_more Wanted (x ∷ os) o s l h = finishes_more (λ s l. (s' : Option Stop) (l' : List Instr) → Closes x s l s' l' → Wanted s' l') os o s l h

pub finishes_last : (Wanted : Option Stop → List Instr → Type 0) (os : List Opened) (o : Opened) (s s' : Option Stop) (l l' : List Instr) → Finishes (os ++ o ∷ []) Wanted s l
    → Closes o s l s' l' → Finishes os Wanted s' l'
finishes_last Wanted [] o s s' l l' h c = h s' l' c
finishes_last Wanted (x ∷ os) o s s' l l' h c = finishes_last (λ s l. (s' : Option Stop) (l' : List Instr) → Closes x s l s' l' → Wanted s' l') os o s s' l l' h c

-- one link more is written
pub open_more : (Wanted : Option Stop → List Instr → Type 0) (os os' : List Opened) (begin slots place jump : ℕ) (yields : Bool) (e a t : Tree) (s1 s2 s3 : Option Stop) (l1 l2 : List Instr)
    → IsOpen Wanted os (framed begin place slots yields (choice place e a t)) s1 l1
    → Writes s1 s2 l1 l2 (link_list begin slots place e a (length l1)) → (s2 ≡ None → jump ≡ jump_of begin slots e a (length l1))
    → ((os' ≡ os ++ (record { jump = jump; place = place; slots = slots; yields = yields }) ∷ []) × (s3 ≡ s2)) ⊎ ((os' ≡ os) × (s3 ≡ ran_out s2))
    → IsOpen Wanted os' t s3 l2
open_more Wanted os os' begin slots place jump yields e a t s1 s2 s3 l1 l2 before w ej (inl k) =
    let o : Opened = record { jump = jump; place = place; slots = slots; yields = yields } in
    let w' = subst (λ (z : Option Stop). Writes s1 z l1 l2 (link_list begin slots place e a (length l1))) (sym k.1) w in
    λ s l v. subst (λ (z : List Opened). Finishes z Wanted s l) (sym k.0)
    (finishes_more Wanted os o s l (λ s' l' c. before s' l' (close_one s1 s3 s s' l1 l2 l l' begin slots place jump yields e a t w' (λ none. ej (sym k.1 ∙ none)) v c)))
open_more Wanted os os' begin slots place jump yields e a t s1 s2 s3 l1 l2 before w ej (inr k) =
    let stopped = never_none s2 s3 k.1 in
    let w' = kept_writes s1 s2 s3 l1 l2 (link_list begin slots place e a (length l1)) (inr k.1) w in
    λ s l v. subst (λ (z : List Opened). Finishes z Wanted s l) (sym k.0)
    (before s l (close_one s1 s3 s s l1 l2 l l begin slots place jump yields e a t w' (λ none. absurd (stopped none)) v
    (stays s3 s l2 l (aimed_at l jump 0 (length l)) l (stretch t (length l2)) (shuts slots yields place) stopped v)))

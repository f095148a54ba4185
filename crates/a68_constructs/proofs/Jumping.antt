-- Choices and loops, step by step.
use Rattle.std.proofs.Common.{Bool, ◌≡◌, ℕ, ◌+◌, List, [], ◌∷◌, ◌++◌, length, refl, sym, ◌∙◌, ap, subst, arith, append_assoc, length-append, None, Some}
use Rattle.std.specs.declared.option.Option.{Option}
use Rattle.a68_base.specs.declared.refusal.Stop.{Stop}
use Rattle.a68_code.specs.declared.code.Instr.{Instr}
use Rattle.a68_code.specs.declared.does.Does.TheVariants as does
use Rattle.a68_elab.specs.Trees as trees
use Rattle.a68_elab.specs.Trees.{Tree, Trees, Test, while_in, depth_of}
use Rattle.a68_builder.specs.Aiming.{aimed_at}
use Rattle.a68_emit.specs.Chains.{jump_of, link_list}
use Rattle.a68_emit.specs.Listing.{instr, indexes, leaves, limits, opens, size, sizes, stretch, stretches, test_size, test_stretch}
use Rattle.a68_constructs.specs.Loops.{asked, counted, unless_at}
use Rattle.a68_emit.proofs.Sizes.{size_leaves, size_stretch, size_stretches, size_test}
use Rattle.a68_emit.specs.Writing.{Writes}
use Rattle.a68_constructs.proofs.Patching.{link_writes, aimed_some, front, front_writes, in_order, tail_of}
use Rattle.a68_emit.proofs.Writing.{and_behind, writes-as, had_not, is_written}

-- what a writer that has stopped was to write does not matter
writes-at : (s0 s1 : Option Stop) (l0 l1 a b : List Instr) → (s0 ≡ None → a ≡ b) → Writes s0 s1 l0 l1 a → Writes s0 s1 l0 l1 b
writes-at (Some s) s1 l0 l1 a b e w = w
writes-at None s1 l0 l1 a b e w = writes-as None s1 l0 l1 a b (e refl) w

long : (l0 l1 a : List Instr) → l1 ≡ l0 ++ a → length l1 ≡ length l0 + length a
long l0 l1 a e = ap (λ (l : List Instr). length l) e ∙ length-append l0 a

-- a link of a chain, step by step
pub link_all : (s0 s1 s2 s3 s4 s5 : Option Stop) (l0 l1 l2 l3 l4 l5 : List Instr) (begin slots place u x : ℕ) (e a : Tree)
    → Writes s0 s1 l0 l1 (asked (while_in begin slots e) (length l0)) → u ≡ length l1 → Writes s1 s2 l1 l2 (instr place (does.Unless 0) ∷ []) → Writes s2 s3 l2 l3 (stretch a (length l2))
    → Writes s3 s4 l3 l4 (instr place (does.Jump 0) ∷ []) → x ≡ length l4 → l5 ≡ aimed_at l4 u 0 x → s5 ≡ s4
    → Writes s0 s5 l0 l5 (link_list begin slots place e a (length l0))
link_all s0 s1 s2 s3 s4 s5 l0 l1 l2 l3 l4 l5 begin slots place u x e a w1 eu w2 w3 w4 ex e5 t5 =
    let o = opens slots begin in
    let at = length l0 + length o in
    let q = o ++ stretch e at in
    let m = at + size e + 1 in
    let t = stretch a m in
    let xs = m + size a + 1 in
    let u0 = instr place (does.Unless 0) in
    let ux = instr place (does.Unless xs) in
    let j0 = instr place (does.Jump 0) in
    let long_q : length q ≡ length o + size e = length-append o (stretch e at) ∙ ap (λ (n : ℕ). length o + n) (size_stretch e at) in
    let long_t = size_stretch a m in
    let w24 = and_behind s2 s3 s4 l2 l3 l4 (stretch a (length l2)) (λ n. j0 ∷ []) w3 w4 in
    let w14 = and_behind s1 s2 s4 l1 l2 l4 (u0 ∷ []) (λ n. stretch a n ++ j0 ∷ []) w2 w24 in
    let w04' = and_behind s0 s1 s4 l0 l1 l4 q (λ n. u0 ∷ (stretch a (n + 1) ++ j0 ∷ [])) w1 w14 in
    let same : length l0 + length q + 1 ≡ m = omega (arith, long_q) in
    let w04 : Writes s0 s4 l0 l4 (q ++ u0 ∷ (t ++ j0 ∷ [])) = subst (λ (k : ℕ). Writes s0 s4 l0 l4 (q ++ u0 ∷ (stretch a k ++ j0 ∷ []))) same w04' in
    let n1 : s4 ≡ None → u ≡ length l0 + length q = λ n. eu ∙ long l0 l1 q (is_written s0 s1 l0 l1 q w1 (had_not s1 s4 l1 l4 _ w14 n)) in
    let n4 : s4 ≡ None → length l4 ≡ xs =
    λ n. let k = long l0 l4 (q ++ u0 ∷ (t ++ j0 ∷ [])) (is_written s0 s4 l0 l4 (q ++ u0 ∷ (t ++ j0 ∷ [])) w04 n) in
    omega (arith, k, length-append q (u0 ∷ (t ++ j0 ∷ [])), length-append t (j0 ∷ []), long_q, long_t) in
    let w05 = link_writes s0 s4 l0 l4 l5 q t place u x xs w04 n1 (λ n. ex ∙ n4 n) e5 in
    writes-as s0 s5 l0 l5 _ _ (append_assoc o (stretch e at) (ux ∷ (t ++ j0 ∷ [])))
    (subst (λ (s : Option Stop). Writes s0 s l0 l5 (q ++ ux ∷ (t ++ j0 ∷ []))) (sym t5) w05)

-- where its jump to the end stands
pub link_jump : (s0 s1 s2 s3 : Option Stop) (l0 l1 l2 l3 : List Instr) (begin slots place j : ℕ) (e a : Tree) → Writes s0 s1 l0 l1 (asked (while_in begin slots e) (length l0))
    → Writes s1 s2 l1 l2 (instr place (does.Unless 0) ∷ []) → Writes s2 s3 l2 l3 (stretch a (length l2)) → j ≡ length l3 → s3 ≡ None → j ≡ jump_of begin slots e a (length l0)
link_jump s0 s1 s2 s3 l0 l1 l2 l3 begin slots place j e a w1 w2 w3 ej n =
    let n2 = had_not s2 s3 l2 l3 _ w3 n in
    let n1 = had_not s1 s2 l1 l2 _ w2 n2 in
    let o = opens slots begin in
    let k1 = long l0 l1 (asked (while_in begin slots e) (length l0)) (is_written s0 s1 l0 l1 _ w1 n1) in
    let k2 = long l1 l2 (instr place (does.Unless 0) ∷ []) (is_written s1 s2 l1 l2 _ w2 n2) in
    let k3 = long l2 l3 (stretch a (length l2)) (is_written s2 s3 l2 l3 _ w3 n) in
    let se = size_stretch e (length l0 + length o) in let sa = size_stretch a (length l2) in
    omega (arith, ej, k1, k2, k3, se, sa, length-append o (stretch e (length l0 + length o)))

-- a loop in one piece
loop_form : (at place : ℕ) (controls : Trees) (limited counts : Bool) (test : Test) (body : Tree) (frames : ℕ) → frames ≡ depth_of counts test → (
    let out = leaves place frames in
    let t = at + sizes controls + length (limits limited place) + 1 in
    let w = t + 2 + length (indexes counts place) in
    let x = w + test_size test in
    let f = x + size body + frames + 2 in
    front (stretches controls at ++ (limits limited place ++ instr place does.Counter ∷ [])) (instr place does.Turn ∷ indexes counts place) (stretch body x ++ out) place (f + frames) f test w
    ++ tail_of out place t (f + frames)
    ≡ stretch (trees.loop place controls limited counts test body) at)
loop_form at place controls limited counts test body frames e =
    let n = depth_of counts test in
    let out = leaves place n in
    let t = at + sizes controls + length (limits limited place) + 1 in
    let w = t + 2 + length (indexes counts place) in
    let x = w + test_size test in
    let f = x + size body + n + 2 in
    rw e (in_order (stretches controls at) (limits limited place) (instr place does.Turn ∷ indexes counts place) (test_stretch place f test w) (stretch body x) out
    (tail_of out place t (f + n)) (instr place does.Counter) (instr place (does.Step (f + n))))

-- a loop, step by step
pub loop_all : (s0 s1 s2 s3 s4 s5 s6 s7 s8 s9 s10 s11 : Option Stop) (l0 l1 l2 l3 l4 l5 l6 l7 l8 l9 l10 l11 : List Instr) (place : ℕ) (controls : Trees) (limited : Bool)
    (counts : Bool) (test : Test) (body : Tree) (step quit end frames : ℕ) (o : Option ℕ)
    → Writes s0 s1 l0 l1 (counted controls limited place (length l0)) → step ≡ length l1
    → Writes s1 s2 l1 l2 (instr place (does.Step 0) ∷ instr place does.Turn ∷ indexes counts place)
    → Writes s2 s3 l2 l3 (test_stretch place 0 test (length l2)) → (s3 ≡ None → o ≡ unless_at test (length l2))
    → Writes s3 s4 l3 l4 (stretch body (length l3)) → frames ≡ depth_of counts test → Writes s4 s5 l4 l5 (leaves place frames)
    → quit ≡ length l5 + 2 → end ≡ quit + frames → l6 ≡ aimed_at l5 step 0 end → s6 ≡ s5 → l7 ≡ aimed_some l6 o quit → s7 ≡ s6
    → Writes s7 s8 l7 l8 (instr place (does.Advance step) ∷ []) → Writes s8 s9 l8 l9 (instr place (does.Jump end) ∷ []) → Writes s9 s10 l9 l10 (leaves place frames)
    → Writes s10 s11 l10 l11 (instr place does.Forget ∷ [])
    → Writes s0 s11 l0 l11 (stretch (trees.loop place controls limited counts test body) (length l0))
loop_all s0 s1 s2 s3 s4 s5 s6 s7 s8 s9 s10 s11 l0 l1 l2 l3 l4 l5 l6 l7 l8 l9 l10 l11 place controls limited counts test body step quit end frames o
    w1 es w2 w3 eo w4 ed w5 eq ee e6 t6 e7 t7 w8 w9 w10 w11 =
    let at = length l0 in
    let lim = limits limited place in
    let c = counted controls limited place at in
    let turns = instr place does.Turn ∷ indexes counts place in
    let s = instr place (does.Step 0) in
    let out = leaves place frames in
    let test_at : ℕ → List Instr = λ n. test_stretch place 0 test n in
    let rest_at : ℕ → List Instr = λ n. stretch body n ++ out in
    let w = at + length c + 1 + length turns in
    let t' = at + sizes controls + length lim + 1 in
    let w' = t' + 2 + length (indexes counts place) in
    let x' = w' + test_size test in
    let f' = x' + size body + frames + 2 in
    let e' = f' + frames in
    let long_c : length c ≡ sizes controls + (length lim + 1) =
    length-append (stretches controls at) (lim ++ instr place does.Counter ∷ []) ∙ ap (λ (n : ℕ). n + length (lim ++ instr place does.Counter ∷ [])) (size_stretches controls at)
    ∙ ap (λ (n : ℕ). sizes controls + n) (length-append lim (instr place does.Counter ∷ [])) in
    let same_w : w ≡ w' = omega (arith, long_c) in
    let w35 = and_behind s3 s4 s5 l3 l4 l5 (stretch body (length l3)) (λ n. out) w4 w5 in
    let w25 = and_behind s2 s3 s5 l2 l3 l5 (test_at (length l2)) rest_at w3 w35 in
    let w15 = and_behind s1 s2 s5 l1 l2 l5 (s ∷ turns) (λ n. test_at n ++ rest_at (n + length (test_at n))) w2 w25 in
    let w05 = and_behind s0 s1 s5 l0 l1 l5 c (λ n. s ∷ (turns ++ (test_at (n + length (s ∷ turns)) ++ rest_at (n + length (s ∷ turns) + length (test_at (n + length (s ∷ turns))))))) w1 w15 in
    let same_x : at + length c + length (s ∷ turns) + length (test_at (at + length c + length (s ∷ turns))) ≡ x' =
    let k = size_test place 0 test (at + length c + length (s ∷ turns)) in omega (arith, long_c, k) in
    let here : at + length c + length (s ∷ turns) ≡ w' = omega (arith, long_c) in
    let fronts : Writes s0 s5 l0 l5 (front c turns (rest_at x') place 0 0 test w') =
    subst (λ (n : ℕ). Writes s0 s5 l0 l5 (c ++ (s ∷ (turns ++ (test_at n ++ rest_at x'))))) here
    (subst (λ (n : ℕ). Writes s0 s5 l0 l5 (c ++ (s ∷ (turns ++ (test_at (at + length c + length (s ∷ turns)) ++ rest_at n))))) same_x w05) in
    let none1 : s5 ≡ None → s1 ≡ None = λ n. had_not s1 s5 l1 l5 _ w15 n in
    let none2 : s5 ≡ None → s2 ≡ None = λ n. had_not s2 s5 l2 l5 _ w25 n in
    let none3 : s5 ≡ None → s3 ≡ None = λ n. had_not s3 s5 l3 l5 _ w35 n in
    let step_is : s5 ≡ None → step ≡ at + length c = λ n. es ∙ long l0 l1 c (is_written s0 s1 l0 l1 c w1 (none1 n)) in
    let second : s5 ≡ None → length l2 ≡ w' =
    λ n. let one = long l0 l1 c (is_written s0 s1 l0 l1 c w1 (none1 n)) in let two = long l1 l2 (s ∷ turns) (is_written s1 s2 l1 l2 (s ∷ turns) w2 (none2 n)) in omega (arith, one, two, long_c) in
    let unless_is : s5 ≡ None → o ≡ unless_at test w' = λ n. eo (none3 n) ∙ ap (λ (k : ℕ). unless_at test k) (second n) in
    let quit_is : s5 ≡ None → quit ≡ f' =
    λ n. let all = long l0 l5 (front c turns (rest_at x') place 0 0 test w') (is_written s0 s5 l0 l5 _ fronts n) in
    let k1 = size_test place 0 test w' in let k2 = size_stretch body x' in let k3 = size_leaves place frames in
    omega (
      arith,
      eq,
      all,
      long_c,
      k1,
      k2,
      k3,
      length-append c (s ∷ (turns ++ (test_at w' ++ rest_at x'))),
      length-append turns (test_at w' ++ rest_at x'),
      length-append (test_at w') (rest_at x'),
      length-append (stretch body x') out,
    ) in
    let end_is : s5 ≡ None → end ≡ e' = λ n. omega (arith, ee, quit_is n) in
    let all_front : Writes s0 s5 l0 l7 (front c turns (rest_at x') place e' f' test w') =
    front_writes s0 s5 l0 l5 l6 l7 c turns (rest_at x') place step end e' quit f' w' o test fronts step_is (sym same_w) unless_is end_is quit_is e6 e7 in
    let w9' = and_behind s9 s10 s11 l9 l10 l11 out (λ n. instr place does.Forget ∷ []) w10 w11 in
    let w8' = and_behind s8 s9 s11 l8 l9 l11 (instr place (does.Jump end) ∷ []) (λ n. out ++ instr place does.Forget ∷ []) w9 w9' in
    let w7' = and_behind s7 s8 s11 l7 l8 l11 (instr place (does.Advance step) ∷ []) (λ n. instr place (does.Jump end) ∷ (out ++ instr place does.Forget ∷ [])) w8 w8' in
    let tail : Writes s5 s11 l7 l11 (tail_of out place step end) = subst (λ (z : Option Stop). Writes z s11 l7 l11 (tail_of out place step end)) (t7 ∙ t6) w7' in
    let closed : Writes s5 s11 l7 l11 (tail_of out place t' e') =
    writes-at s5 s11 l7 l11 _ _ (λ n. ap (λ (k : ℕ). tail_of out place k end) (omega (arith, step_is n, long_c)) ∙ ap (λ (k : ℕ). tail_of out place t' k) (end_is n)) tail in
    writes-as s0 s11 l0 l11 _ _ (loop_form at place controls limited counts test body frames ed)
    (and_behind s0 s5 s11 l0 l7 l11 (front c turns (rest_at x') place e' f' test w') (λ n. tail_of out place t' e') all_front closed)

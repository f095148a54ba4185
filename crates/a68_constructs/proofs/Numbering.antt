-- Choices by a number: the parts written one behind the other, and what is patched.
use Rattle.std.proofs.Common.{◌≡◌, ◌⊎◌, inl, inr, ◌<◌, ℕ, suc, ◌+◌, Bool, List, [], ◌∷◌, ◌++◌, length, refl, sym, ◌∙◌, ap, subst, arith, append_assoc, length-append, None, lt-ltb}
use Rattle.std.specs.Option.{option_map_or}
use Rattle.std.specs.Prelude.{slice_set, if◌then◌else◌}
use Rattle.std.specs.declared.option.Option.{Option}
use Rattle.a68_base.specs.declared.refusal.Stop.{Stop}
use Rattle.a68_builder.specs.Aiming.{aimed, aimed_at, names, names_at}
use Rattle.a68_code.specs.declared.code.Instr.{Instr}
use Rattle.a68_code.specs.declared.does.Does.{Does}
use Rattle.a68_code.specs.declared.does.Does.TheVariants as does
use Rattle.a68_elab.specs.Made.{framed}
use Rattle.a68_elab.specs.Trees.{Tree, Trees, cases, no_trees, ◌and_tree◌, count, while_in}
use Rattle.a68_emit.specs.Chains.{shuts}
use Rattle.a68_emit.specs.Listing.{arm_places, arm_stretches, instr, opens, size, sizes, stretch}
use Rattle.a68_constructs.specs.Loops.{asked}
use Rattle.a68_emit.specs.Numbers.{arm_jumps, case_list, put_all, put_at}
use Rattle.a68_emit.specs.Stretches.{with_last}
use Rattle.a68_emit.specs.Writing.{aim_all, places, ran_out, Writes}
use Rattle.a68_emit.proofs.Chaining.{framed_list, kept_writes, never_none, was_none}
use Rattle.a68_emit.proofs.Writing.{aim-middle, and_behind, get-middle, had_not, is_written, nothing-written, patched, places-append, set-middle, writes-as}
use Rattle.a68_emit.proofs.Sizes.{size_arms, size_stretch}

-- ---- places

pub last_behind : (ps : List ℕ) (x : ℕ) → ps ++ x ∷ [] ≡ with_last ps x
last_behind [] x = refl
last_behind (p ∷ ps) x = ap (λ (l : List ℕ). p ∷ l) (last_behind ps x)

pub count_places : (ts : Trees) (at : ℕ) → length (arm_places ts at) ≡ count ts
count_places no_trees at = refl
count_places (t and_tree ts) at = ap (λ n. suc n) (count_places ts (at + size t + 1))

-- the places of the text do not depend on the jumps
pub places_arms : (place e e' : ℕ) (ts : Trees) (at : ℕ) → places (arm_stretches place e ts at) ≡ places (arm_stretches place e' ts at)
places_arms place e e' no_trees at = refl
places_arms place e e' (t and_tree ts) at =
    let q = stretch t at in
    let next = at + size t + 1 in
    places-append q (instr place (does.Jump e) ∷ arm_stretches place e ts next) ∙ ap (λ (l : List ℕ). places q ++ (place ∷ l)) (places_arms place e e' ts next)
    ∙ sym (places-append q (instr place (does.Jump e') ∷ arm_stretches place e' ts next))

-- ---- the jumps to the end

pub aim_arms : (place end : ℕ) (ts : Trees) (front rest : List Instr) (at : ℕ) → at ≡ length front
    → aim_all (front ++ (arm_stretches place 0 ts at ++ rest)) (arm_jumps ts at) end ≡ front ++ (arm_stretches place end ts at ++ rest)
aim_arms place end no_trees front rest at e = refl
aim_arms place end (t and_tree ts) front rest at e =
    let q = stretch t at in
    let j0 = instr place (does.Jump 0) in
    let je = instr place (does.Jump end) in
    let next = at + size t + 1 in
    let a0 = arm_stretches place 0 ts next in
    let ae = arm_stretches place end ts next in
    let front2 = (front ++ q) ++ (je ∷ []) in
    let sq = size_stretch t at in
    let apart : (j : Instr) (l : List Instr) → front ++ ((q ++ (j ∷ l)) ++ rest) ≡ (front ++ q) ++ (j ∷ (l ++ rest)) =
    λ j l. ap (λ (z : List Instr). front ++ z) (append_assoc q (j ∷ l) rest) ∙ sym (append_assoc front q (j ∷ (l ++ rest))) in
    let here : at + size t ≡ length (front ++ q) = omega (arith, length-append front q, sq, e) in
    let long : next ≡ length front2 = omega (arith, length-append (front ++ q) (je ∷ []), here) in
    ap (λ (l : List Instr). aim_all (aimed_at l (at + size t) 0 end) (arm_jumps ts next) end) (apart j0 a0)
    ∙ ap (λ (l : List Instr). aim_all l (arm_jumps ts next) end) (aim-middle (front ++ q) (a0 ++ rest) j0 (at + size t) 0 end here ∙ sym (append_assoc (front ++ q) (je ∷ []) (a0 ++ rest)))
    ∙ aim_arms place end ts front2 rest next long ∙ append_assoc (front ++ q) (je ∷ []) (ae ++ rest) ∙ sym (apart je ae)

-- ---- the places of Case and Member

-- an instruction of so many places, each of which can be put anew
pub record NamesAll (c : List ℕ → Does) : Type 0 where
  pub many : (l : List ℕ) → names (c l) ≡ length l
  pub put : (l : List ℕ) (k p : ℕ) → aimed (c l) k p ≡ c (slice_set l k p)

pub case_names : NamesAll (λ l. does.Case l)
case_names = record { many = λ l. refl; put = λ l k p. refl }

module _ (c : List ℕ → Does) (all : NamesAll c) where
  put_one : (front rest : List Instr) (place at p z : ℕ) (done zs : List ℕ) → at ≡ length front
      → put_at (front ++ (instr place (c (done ++ z ∷ zs)) ∷ rest)) at (length done) p ≡ front ++ (instr place (c (done ++ p ∷ zs)) ∷ rest)
  put_one front rest place at p z done zs e =
      let y = instr place (c (done ++ z ∷ zs)) in
      let list = front ++ (y ∷ rest) in
      let many : names_at list at ≡ length (done ++ z ∷ zs) =
      ap (λ (o : Option Instr). option_map_or (λ (i : Instr). names i.does) o 0) (get-middle front rest y at e) ∙ all.many (done ++ z ∷ zs) in
      let less : length done < names_at list at = omega (arith, many, length-append done (z ∷ zs)) in
      ap (λ (b : Bool). if b then aimed_at list at (length done) p else list) (lt-ltb (length done) (names_at list at) less)
      ∙ aim-middle front rest y at (length done) p e
      ∙ ap (λ (d : Does). front ++ (instr place d ∷ rest)) (all.put (done ++ z ∷ zs) (length done) p)
      ∙ ap (λ (ps : List ℕ). front ++ (instr place (c ps) ∷ rest)) (set-middle done zs z p (length done) refl)

  pub put_places : (front rest : List Instr) (place at : ℕ) (ps done zs : List ℕ) → at ≡ length front → length zs ≡ length ps
      → put_all (front ++ (instr place (c (done ++ zs)) ∷ rest)) at (length done) ps ≡ front ++ (instr place (c (done ++ ps)) ∷ rest)
  put_places front rest place at [] done [] e n = refl
  put_places front rest place at [] done (z ∷ zs) e n = absurd (omega arith)
  put_places front rest place at (p ∷ ps) done [] e n = absurd (omega arith)
  put_places front rest place at (p ∷ ps) done (z ∷ zs) e n =
      let whole : List ℕ → List Instr = λ l. front ++ (instr place (c l) ∷ rest) in
      let more : (l : List ℕ) → done ++ (p ∷ l) ≡ (done ++ p ∷ []) ++ l = λ l. sym (append_assoc done (p ∷ []) l) in
      ap (λ (l : List Instr). put_all l at (length done + 1) ps) (put_one front rest place at p z done zs e ∙ ap whole (more zs))
      ∙ ap (λ (k : ℕ). put_all (whole ((done ++ p ∷ []) ++ zs)) at k ps) (sym (length-append done (p ∷ [])))
      ∙ put_places front rest place at ps (done ++ p ∷ []) zs e (omega arith) ∙ ap whole (sym (more ps))

-- ---- the whole

-- what was written once all is patched
case_patched : (l0 l3 l4 l5 : List Instr) (place end : ℕ) (zs starts jumps : List ℕ) (ts : Trees) (o : Tree) →
    let m = length l0 + 1 in
    let x = m + sizes ts + count ts in
    l3 ≡ l0 ++ (instr place (does.Case zs) ∷ (arm_stretches place 0 ts m ++ stretch o x)) → length zs ≡ count ts + 1 → starts ≡ arm_places ts m ++ x ∷ [] → jumps ≡ arm_jumps ts m
    → end ≡ x + size o → l4 ≡ aim_all l3 jumps end → l5 ≡ put_all l4 (length l0) 0 starts → l5 ≡ l0 ++ case_list place ts o (length l0)
case_patched l0 l3 l4 l5 place end zs starts jumps ts o is nz es ej ee e4 e5 =
    let m = length l0 + 1 in
    let x = m + sizes ts + count ts in
    let rest = stretch o x in
    let cz = instr place (does.Case zs) in
    let front = l0 ++ (cz ∷ []) in
    let after = arm_stretches place (x + size o) ts m ++ rest in
    let apart : (l : List Instr) → l0 ++ (cz ∷ l) ≡ front ++ l = λ l. sym (append_assoc l0 (cz ∷ []) l) in
    let long : m ≡ length front = sym (length-append l0 (cz ∷ [])) in
    let four : l4 ≡ l0 ++ (cz ∷ after) =
    e4 ∙ ap (λ (l : List Instr). aim_all l jumps end) (is ∙ apart (arm_stretches place 0 ts m ++ rest)) ∙ ap (λ (js : List ℕ). aim_all (front ++ (arm_stretches place 0 ts m ++ rest)) js end) ej
    ∙ ap (λ (k : ℕ). aim_all (front ++ (arm_stretches place 0 ts m ++ rest)) (arm_jumps ts m) k) ee
    ∙ aim_arms place (x + size o) ts front rest m long ∙ sym (apart after) in
    let last = with_last (arm_places ts m) x in
    let same : starts ≡ last = es ∙ last_behind (arm_places ts m) x in
    let many : length zs ≡ length last =
    nz ∙ sym (ap (λ (l : List ℕ). length l) (sym (last_behind (arm_places ts m) x)) ∙ length-append (arm_places ts m) (x ∷ []) ∙ ap (λ (n : ℕ). n + 1) (count_places ts m)) in
    e5 ∙ ap (λ (l : List Instr). put_all l (length l0) 0 starts) four ∙ ap (λ (ps : List ℕ). put_all (l0 ++ (cz ∷ after)) (length l0) 0 ps) same
    ∙ put_places (λ l. does.Case l) case_names l0 after place (length l0) last [] zs refl many

case_places : (l0 : List Instr) (place : ℕ) (zs : List ℕ) (ts : Trees) (o : Tree) →
    let m = length l0 + 1 in
    let x = m + sizes ts + count ts in places (instr place (does.Case zs) ∷ (arm_stretches place 0 ts m ++ stretch o x)) ≡ places (case_list place ts o (length l0))
case_places l0 place zs ts o =
    let m = length l0 + 1 in
    let x = m + sizes ts + count ts in
    let rest = stretch o x in
    let e = x + size o in
    ap (λ (l : List ℕ). place ∷ l) (places-append (arm_stretches place 0 ts m) rest ∙ ap (λ (l : List ℕ). l ++ places rest) (places_arms place 0 e ts m) ∙ sym (places-append (arm_stretches place e ts m) rest))

-- behind the enquiry: Case, the parts, and what is patched
pub case_writes : (s0 s1 s2 s3 s4 s5 : Option Stop) (l0 l1 l2 l3 l4 l5 : List Instr) (place case end : ℕ) (zs starts jumps : List ℕ) (ts : Trees) (o : Tree)
    → case ≡ length l0 → length zs ≡ count ts + 1 → Writes s0 s1 l0 l1 (instr place (does.Case zs) ∷ []) → Writes s1 s2 l1 l2 (arm_stretches place 0 ts (length l1))
    → (s2 ≡ None → starts ≡ arm_places ts (length l1) ++ length l2 ∷ []) → (s2 ≡ None → jumps ≡ arm_jumps ts (length l1)) → Writes s2 s3 l2 l3 (stretch o (length l2))
    → end ≡ length l3 → l4 ≡ aim_all l3 jumps end → s4 ≡ s3 → ((l5 ≡ put_all l4 case 0 starts) × (s5 ≡ s4)) ⊎ (s5 ≡ ran_out s4)
    → Writes s0 s5 l0 l5 (case_list place ts o (length l0))
case_writes s0 s1 s2 s3 s4 s5 l0 l1 l2 l3 l4 l5 place case end zs starts jumps ts o ec nz w1 w2 es ej w3 ee e4 t4 e5 =
    let m = length l0 + 1 in
    let x = m + sizes ts + count ts in
    let cz = instr place (does.Case zs) in
    let arms = arm_stretches place 0 ts m in
    let written = cz ∷ (arms ++ stretch o x) in
    let long_arms : length arms ≡ sizes ts + count ts = size_arms place 0 ts m in
    let w02 : Writes s0 s2 l0 l2 (cz ∷ arms) = and_behind s0 s1 s2 l0 l1 l2 (cz ∷ []) (λ n. arm_stretches place 0 ts n) w1 w2 in
    let w03' = and_behind s0 s2 s3 l0 l2 l3 (cz ∷ arms) (λ n. stretch o n) w02 w3 in
    let same : length l0 + length (cz ∷ arms) ≡ x = omega (arith, long_arms) in
    let w03 : Writes s0 s3 l0 l3 written = subst (λ (n : ℕ). Writes s0 s3 l0 l3 ((cz ∷ arms) ++ stretch o n)) same w03' in
    let none2 : s3 ≡ None → s2 ≡ None = λ n. had_not s2 s3 l2 l3 _ w3 n in
    let none1 : s3 ≡ None → s1 ≡ None = λ n. had_not s1 s2 l1 l2 _ w2 (none2 n) in
    let first : s3 ≡ None → length l1 ≡ m = λ n. ap (λ (l : List Instr). length l) (is_written s0 s1 l0 l1 (cz ∷ []) w1 (none1 n)) ∙ length-append l0 (cz ∷ []) in
    let second : s3 ≡ None → length l2 ≡ x = λ n. ap (λ (l : List Instr). length l) (is_written s0 s2 l0 l2 (cz ∷ arms) w02 (none2 n)) ∙ length-append l0 (cz ∷ arms) ∙ same in
    let third : s3 ≡ None → length l3 ≡ x + size o =
    λ n. let is = is_written s2 s3 l2 l3 (stretch o (length l2)) w3 n in let so = size_stretch o (length l2) in
    omega (arith, ap (λ (l : List Instr). length l) is, length-append l2 (stretch o (length l2)), so, second n) in
    let starts_are : s3 ≡ None → starts ≡ arm_places ts m ++ x ∷ [] =
    λ n. es (none2 n) ∙ ap (λ (k : ℕ). arm_places ts k ++ length l2 ∷ []) (first n) ∙ ap (λ (k : ℕ). arm_places ts m ++ k ∷ []) (second n) in
    let jumps_are : s3 ≡ None → jumps ≡ arm_jumps ts m = λ n. ej (none2 n) ∙ ap (λ (k : ℕ). arm_jumps ts k) (first n) in
    done e5 written w03 starts_are jumps_are (λ n. ee ∙ third n)
  where
    done : ((l5 ≡ put_all l4 case 0 starts) × (s5 ≡ s4)) ⊎ (s5 ≡ ran_out s4) → (w : List Instr)
        → Writes s0 s3 l0 l3 (instr place (does.Case zs) ∷ (arm_stretches place 0 ts (length l0 + 1) ++ stretch o (length l0 + 1 + sizes ts + count ts)))
        → (s3 ≡ None → starts ≡ arm_places ts (length l0 + 1) ++ (length l0 + 1 + sizes ts + count ts) ∷ []) → (s3 ≡ None → jumps ≡ arm_jumps ts (length l0 + 1))
        → (s3 ≡ None → end ≡ length l0 + 1 + sizes ts + count ts + size o) → Writes s0 s5 l0 l5 (case_list place ts o (length l0))
    done (inl k) w v st ju en =
        subst (λ (z : Option Stop). Writes s0 z l0 l5 (case_list place ts o (length l0))) (sym (k.1 ∙ t4))
        (patched s0 s3 l0 l3 l5 _ _ v (case_places l0 place zs ts o)
        (λ n is. case_patched l0 l3 l4 l5 place end zs starts jumps ts o is nz (st n) (ju n) (en n) e4 (k.0 ∙ ap (λ (c : ℕ). put_all l4 c 0 starts) ec)))
    done (inr k) w v st ju en =
        patched s0 s5 l0 l3 l5 _ _ (kept_writes s0 s3 s5 l0 l3 _ (inr (k ∙ ap ran_out t4)) v) (case_places l0 place zs ts o) (λ n is. absurd (never_none s4 s5 k n))

-- the enquiry before it, and its frame about both
pub case_framed : (s0 s1 s2 s3 : Option Stop) (l0 l1 l2 l3 : List Instr) (begin slots place : ℕ) (yields : Bool) (q : Tree) (ts : Trees) (o : Tree)
    → Writes s0 s1 l0 l1 (asked (while_in begin slots q) (length l0)) → Writes s1 s2 l1 l2 (case_list place ts o (length l1)) → Writes s2 s3 l2 l3 (shuts slots yields place)
    → Writes s0 s3 l0 l3 (stretch (framed begin place slots yields (cases place q ts o)) (length l0))
case_framed s0 s1 s2 s3 l0 l1 l2 l3 begin slots place yields q ts o w1 w2 w3 =
    let op = opens slots begin in
    let k = length l0 + length op in
    let sh = shuts slots yields place in
    let sq = size_stretch q k in
    let first = op ++ stretch q k in
    let w13 = and_behind s1 s2 s3 l1 l2 l3 (case_list place ts o (length l1)) (λ n. sh) w2 w3 in
    let w03' = and_behind s0 s1 s3 l0 l1 l3 first (λ n. case_list place ts o n ++ sh) w1 w13 in
    let same : length l0 + length first ≡ k + size q = omega (arith, length-append op (stretch q k), sq) in
    let w03 : Writes s0 s3 l0 l3 (first ++ (case_list place ts o (k + size q) ++ sh)) = subst (λ (n : ℕ). Writes s0 s3 l0 l3 (first ++ (case_list place ts o n ++ sh))) same w03' in
    writes-as s0 s3 l0 l3 _ _
    (append_assoc op (stretch q k) (case_list place ts o (k + size q) ++ sh) ∙ ap (λ (l : List Instr). op ++ l) (sym (append_assoc (stretch q k) (case_list place ts o (k + size q)) sh))
    ∙ framed_list begin place slots yields (cases place q ts o) (length l0)) w03

-- ---- the loop that writes the parts

-- the parts before some are written: with these all of them are, and so it is with where they begin and their jumps
pub record ArmsAhead (place : ℕ) (whole left : Trees) (starts jumps : List ℕ) (s0 s1 : Option Stop) (l0 l1 : List Instr) : Type 0 where
  pub writes : (s : Option Stop) (l : List Instr) → Writes s1 s l1 l (arm_stretches place 0 left (length l1)) → Writes s0 s l0 l (arm_stretches place 0 whole (length l0))
  pub starts_are : s1 ≡ None → starts ++ arm_places left (length l1) ≡ arm_places whole (length l0)
  pub jumps_are : s1 ≡ None → jumps ++ arm_jumps left (length l1) ≡ arm_jumps whole (length l0)

pub arms_first : (place : ℕ) (whole : Trees) (starts jumps : List ℕ) (s : Option Stop) (l : List Instr) → starts ≡ [] → jumps ≡ [] → ArmsAhead place whole whole starts jumps s s l l
arms_first place whole starts jumps s l es ej = record {
  writes = λ s1 l1 w. w;
  starts_are = λ n. ap (λ (z : List ℕ). z ++ arm_places whole (length l)) es;
  jumps_are = λ n. ap (λ (z : List ℕ). z ++ arm_jumps whole (length l)) ej;
}

-- one part more
pub arms_on : (place : ℕ) (whole rest : Trees) (t : Tree) (starts starts' jumps jumps' : List ℕ) (s0 s1 s2 : Option Stop) (l0 l1 l2 : List Instr)
    → ArmsAhead place whole (t and_tree rest) starts jumps s0 s1 l0 l1 → Writes s1 s2 l1 l2 (stretch t (length l1) ++ instr place (does.Jump 0) ∷ [])
    → (s2 ≡ None → starts' ≡ starts ++ length l1 ∷ []) → (s2 ≡ None → jumps' ≡ jumps ++ (length l1 + size t) ∷ []) → ArmsAhead place whole rest starts' jumps' s0 s2 l0 l2
arms_on place whole rest t starts starts' jumps jumps' s0 s1 s2 l0 l1 l2 before w es ej =
    let q = stretch t (length l1) in
    let j0 = instr place (does.Jump 0) in
    let next = length l1 + size t + 1 in
    let sq = size_stretch t (length l1) in
    let one : length (q ++ j0 ∷ []) ≡ size t + 1 = length-append q (j0 ∷ []) ∙ ap (λ (n : ℕ). n + 1) sq in
    let same : length l1 + length (q ++ j0 ∷ []) ≡ next = omega (arith, one) in
    let there : s2 ≡ None → length l2 ≡ next = λ n. ap (λ (l : List Instr). length l) (is_written s1 s2 l1 l2 (q ++ j0 ∷ []) w n) ∙ length-append l1 (q ++ j0 ∷ []) ∙ same in
    let none : s2 ≡ None → s1 ≡ None = λ n. had_not s1 s2 l1 l2 (q ++ j0 ∷ []) w n in
    record {
      writes =
          λ s l v. before.writes s l (writes-as s1 s l1 l _ _ (append_assoc q (j0 ∷ []) (arm_stretches place 0 rest next))
          (subst (λ (k : ℕ). Writes s1 s l1 l ((q ++ j0 ∷ []) ++ arm_stretches place 0 rest k)) same (and_behind s1 s2 s l1 l2 l (q ++ j0 ∷ []) (λ k. arm_stretches place 0 rest k) w v)));
      starts_are =
          λ n. ap (λ (z : List ℕ). z ++ arm_places rest (length l2)) (es n) ∙ append_assoc starts (length l1 ∷ []) (arm_places rest (length l2))
          ∙ ap (λ (k : ℕ). starts ++ (length l1 ∷ arm_places rest k)) (there n) ∙ before.starts_are (none n);
      jumps_are =
          λ n. ap (λ (z : List ℕ). z ++ arm_jumps rest (length l2)) (ej n) ∙ append_assoc jumps ((length l1 + size t) ∷ []) (arm_jumps rest (length l2))
          ∙ ap (λ (k : ℕ). jumps ++ ((length l1 + size t) ∷ arm_jumps rest k)) (there n) ∙ before.jumps_are (none n);
    }

-- ---- one part

-- a part, where something is kept before it
pub kept_before : (s0 s1 s2 : Option Stop) (l0 l1 l2 : List Instr) (t : Tree) → l1 ≡ l0 → (s1 ≡ s0) ⊎ (s1 ≡ ran_out s0) → Writes s1 s2 l1 l2 (stretch t (length l1))
    → Writes s0 s2 l0 l2 (stretch t (length l0))
kept_before s0 s1 s2 l0 l1 l2 t e k w =
    let none = kept_writes s0 s0 s1 l0 l0 [] k (nothing-written s0 l0) in
    let part : Writes s1 s2 l0 l2 (stretch t (length l0)) = subst (λ (l : List Instr). Writes s1 s2 l l2 (stretch t (length l))) e w in
    let is_same : length l0 + 0 ≡ length l0 = omega arith in
    subst (λ (n : ℕ). Writes s0 s2 l0 l2 (stretch t n)) is_same (and_behind s0 s1 s2 l0 l0 l2 [] (λ n. stretch t n) none part)

-- a part and its jump, where numbers are kept before and between
pub arm_writes : (s0 s1 s2 s3 s4 : Option Stop) (l0 l1 l2 l3 l4 : List Instr) (place : ℕ) (t : Tree) → l1 ≡ l0 → (s1 ≡ s0) ⊎ (s1 ≡ ran_out s0) → Writes s1 s2 l1 l2 (stretch t (length l1))
    → l3 ≡ l2 → (s3 ≡ s2) ⊎ (s3 ≡ ran_out s2) → Writes s3 s4 l3 l4 (instr place (does.Jump 0) ∷ []) → Writes s0 s4 l0 l4 (stretch t (length l0) ++ instr place (does.Jump 0) ∷ [])
arm_writes s0 s1 s2 s3 s4 l0 l1 l2 l3 l4 place t e1 k1 w12 e3 k3 w34 =
    let q = stretch t (length l0) in
    let w02 = kept_before s0 s1 s2 l0 l1 l2 t e1 k1 w12 in
    let jump : Writes s3 s4 l2 l4 (instr place (does.Jump 0) ∷ []) = subst (λ (l : List Instr). Writes s3 s4 l l4 (instr place (does.Jump 0) ∷ [])) e3 w34 in
    and_behind s0 s3 s4 l0 l2 l4 q (λ n. instr place (does.Jump 0) ∷ []) (kept_writes s0 s2 s3 l0 l2 q k3 w02) jump

-- where its jump stands
pub arm_end : (s1 s2 s3 s4 : Option Stop) (l0 l1 l2 l3 l4 : List Instr) (place : ℕ) (t : Tree) → l1 ≡ l0 → Writes s1 s2 l1 l2 (stretch t (length l1))
    → (s3 ≡ s2) ⊎ (s3 ≡ ran_out s2) → Writes s3 s4 l3 l4 (instr place (does.Jump 0) ∷ []) → s4 ≡ None → (s3 ≡ None) × (length l2 ≡ length l0 + size t)
arm_end s1 s2 s3 s4 l0 l1 l2 l3 l4 place t e1 w12 k3 w34 none =
    let n3 = had_not s3 s4 l3 l4 _ w34 none in
    let is = is_written s1 s2 l1 l2 (stretch t (length l1)) w12 (was_none s2 s3 k3 n3) in
    let q = size_stretch t (length l1) in
    let first = ap (λ (l : List Instr). length l) e1 in
    let both = ap (λ (l : List Instr). length l) is in (n3, omega (arith, both, length-append l1 (stretch t (length l1)), q, first))

-- Conformity clauses: the specifications written one behind the other, and what is patched.
use Rattle.std.proofs.Common.{◌≡◌, ◌⊎◌, inl, inr, ◌<◌, ℕ, ◌+◌, Bool, true, false, List, [], ◌∷◌, ◌++◌, length, refl, sym, ◌∙◌, ap, subst, arith, append_assoc, length-append, None, Some, slice_get}
use Rattle.std.specs.Option.{option_map, option_map_or}
use Rattle.std.specs.Prelude.{IfSome, if◌then◌else◌}
use Rattle.std.specs.declared.option.Option.{Option}
use Rattle.a68_acts.specs.Members.{members_of}
use Rattle.a68_annot.specs.declared.annotated.Annotated.{Annotated}
use Rattle.a68_annot.specs.declared.note.Note.{Note}
use Rattle.a68_base.specs.declared.refusal.Stop.{Stop}
use Rattle.a68_builder.specs.Aiming.{aimed_at}
use Rattle.a68_code.specs.declared.code.Instr.{Instr}
use Rattle.a68_code.specs.Flow.{one_if}
use Rattle.a68_code.specs.declared.does.Does.{Does}
use Rattle.a68_code.specs.declared.does.Does.TheVariants as does
use Rattle.a68_elab.proofs.Nodes.{behind_all}
use Rattle.a68_elab.specs.Made.{before_out, begun_by, framed, goal_at, left_out, out_of, phrases_of, trees_at, with_enquiry}
use Rattle.a68_elab.specs.Programs.{Seat, behind, specs_seated}
use Rattle.a68_elab.specs.Rows.{is_among}
use Rattle.a68_elab.specs.Trees.{Tree, Trees, conformity, Specs, no_specs, spec, while_in}
use Rattle.a68_emit.proofs.Chaining.{framed_list, kept_writes, never_none, was_none}
use Rattle.a68_emit.proofs.Linking.{other_behind, parts_are}
use Rattle.a68_constructs.proofs.Numbering.{NamesAll, put_places}
use Rattle.a68_emit.proofs.Writing.{aim-middle, and_behind, had_not, is_written, nothing-written, patched, places-append, writes-as}
use Rattle.a68_emit.proofs.Sizes.{size_specs, size_stretch}
use Rattle.a68_emit.specs.Chains.{shuts}
use Rattle.a68_emit.specs.Conforming.{IsUnaimed, conform_list, spec_body, spec_jumps, spec_size}
use Rattle.a68_emit.specs.Listing.{instr, opens, size, spec_places, spec_sizes, spec_stretches, stretch}
use Rattle.a68_constructs.specs.Endings.{IsFront, member_front}
use Rattle.a68_constructs.specs.Loops.{asked}
use Rattle.a68_constructs.specs.declared.endings.Ending.{Ending}
use Rattle.a68_emit.specs.Numbers.{put_all}
use Rattle.a68_emit.specs.Stretches.{leave, member_places, place_for, whole_for, wholes_of}
use Rattle.a68_emit.specs.Writing.{aim_all, places, ran_out, Writes}
use Rattle.a68_modes.specs.Nodes.{shape_at}
use Rattle.a68_parts.proofs.Between.{between-above}
use Rattle.a68_tree.specs.Trees.{AllBetween}
use Rattle.a68_tree.specs.declared.node.Node.{Node}

-- ---- one specification

-- how long it is
body_long : (place : ℕ) (yields tagged : Bool) (t : Tree) (at : ℕ) → length (spec_body place yields tagged t at) ≡ spec_size tagged t
body_long place yields true t at = let s = size_stretch t (at + 2) in omega (arith, length-append (stretch t (at + 2)) (instr place (leave yields) ∷ []))
body_long place yields false t at = let s = size_stretch t (at + 1) in omega arith

-- a specification stands before those behind it
spec_split : (place e : ℕ) (yields : Bool) (takes : List ℕ) (tagged united : Bool) (t : Tree) (others : Specs) (at : ℕ)
    → spec_stretches place e yields (spec takes tagged united t others) at
    ≡ spec_body place yields tagged t at ++ (instr place (does.Jump e) ∷ spec_stretches place e yields others (at + (spec_size tagged t + 1)))
spec_split place e yields takes true united t others at =
    let rest = spec_stretches place e yields others (at + (3 + size t + 1)) in
    ap (λ (l : List Instr). instr place (does.Enter 1) ∷ instr place (does.Bind 0) ∷ l) (sym (append_assoc (stretch t (at + 2)) (instr place (leave yields) ∷ []) (instr place (does.Jump e) ∷ rest)))
spec_split place e yields takes false united t others at = refl

-- where it begins
first_place : (takes : List ℕ) (tagged united : Bool) (t : Tree) (others : Specs) (at : ℕ)
    → spec_places (spec takes tagged united t others) at ≡ at ∷ spec_places others (at + (spec_size tagged t + 1))
first_place takes true united t others at = refl
first_place takes false united t others at = refl

-- ---- places

-- the places of the text do not depend on the jumps
places_specs : (place e e' : ℕ) (yields : Bool) (specs : Specs) (at : ℕ) → places (spec_stretches place e yields specs at) ≡ places (spec_stretches place e' yields specs at)
places_specs place e e' yields no_specs at = refl
places_specs place e e' yields (spec takes tagged united t others) at =
    let q = spec_body place yields tagged t at in
    let next = at + (spec_size tagged t + 1) in
    ap places (spec_split place e yields takes tagged united t others at)
    ∙ places-append q (instr place (does.Jump e) ∷ spec_stretches place e yields others next) ∙ ap (λ (l : List ℕ). places q ++ (place ∷ l)) (places_specs place e e' yields others next)
    ∙ sym (places-append q (instr place (does.Jump e') ∷ spec_stretches place e' yields others next))
    ∙ sym (ap places (spec_split place e' yields takes tagged united t others at))

-- ---- the jumps to the end

aim_specs : (place end : ℕ) (yields : Bool) (specs : Specs) (front rest : List Instr) (at : ℕ) → at ≡ length front
    → aim_all (front ++ (spec_stretches place 0 yields specs at ++ rest)) (spec_jumps specs at) end ≡ front ++ (spec_stretches place end yields specs at ++ rest)
aim_specs place end yields no_specs front rest at e = refl
aim_specs place end yields (spec takes tagged united t others) front rest at e =
    let q = spec_body place yields tagged t at in
    let j0 = instr place (does.Jump 0) in
    let je = instr place (does.Jump end) in
    let next = at + (spec_size tagged t + 1) in
    let a0 = spec_stretches place 0 yields others next in
    let ae = spec_stretches place end yields others next in
    let front2 = (front ++ q) ++ (je ∷ []) in
    let sq = body_long place yields tagged t at in
    let apart : (k : ℕ) → front ++ (spec_stretches place k yields (spec takes tagged united t others) at ++ rest)
    ≡ (front ++ q) ++ (instr place (does.Jump k) ∷ (spec_stretches place k yields others next ++ rest)) =
    λ k. ap (λ (z : List Instr). front ++ (z ++ rest)) (spec_split place k yields takes tagged united t others at)
    ∙ ap (λ (z : List Instr). front ++ z) (append_assoc q (instr place (does.Jump k) ∷ spec_stretches place k yields others next) rest)
    ∙ sym (append_assoc front q (instr place (does.Jump k) ∷ (spec_stretches place k yields others next ++ rest))) in
    let here : at + spec_size tagged t ≡ length (front ++ q) = omega (arith, length-append front q, sq, e) in
    let long : next ≡ length front2 = omega (arith, length-append (front ++ q) (je ∷ []), here) in
    ap (λ (l : List Instr). aim_all (aimed_at l (at + spec_size tagged t) 0 end) (spec_jumps others next) end) (apart 0)
    ∙ ap (λ (l : List Instr). aim_all l (spec_jumps others next) end)
    (aim-middle (front ++ q) (a0 ++ rest) j0 (at + spec_size tagged t) 0 end here ∙ sym (append_assoc (front ++ q) (je ∷ []) (a0 ++ rest)))
    ∙ aim_specs place end yields others front2 rest next long ∙ append_assoc (front ++ q) (je ∷ []) (ae ++ rest) ∙ sym (apart end)

-- ---- the places of Member

member_names : (union : ℕ) (wholes : List ℕ) → NamesAll (λ l. does.Member union l wholes)
member_names union wholes = record { many = λ l. refl; put = λ l k p. refl }

count_members : (members : List ℕ) (specs : Specs) (ps : List ℕ) (none : ℕ) → length (member_places members specs ps none) ≡ length members + 1
count_members [] specs ps none = refl
count_members (m ∷ ms) specs ps none = let e = count_members ms specs ps none in omega arith

-- where the parts lie does not matter for the places
place_seated : (s : Seat) (m : ℕ) (specs : Specs) (ps : List ℕ) (none : ℕ) → place_for m (specs_seated s specs) ps none ≡ place_for m specs ps none
place_seated s m no_specs ps none = refl
place_seated s m (spec takes tagged united t behind) [] none = refl
place_seated s m (spec takes tagged united t behind) (p ∷ ps) none = ap (λ (n : ℕ). if is_among m takes then p else n) (place_seated s m behind ps none)

pub members_seated : (s : Seat) (ms : List ℕ) (specs : Specs) (ps : List ℕ) (none : ℕ) → member_places ms (specs_seated s specs) ps none ≡ member_places ms specs ps none
members_seated s [] specs ps none = refl
members_seated s (m ∷ ms) specs ps none =
    ap (λ (n : ℕ). n ∷ member_places ms (specs_seated s specs) ps none) (place_seated s m specs ps none) ∙ ap (λ (l : List ℕ). place_for m specs ps none ∷ l) (members_seated s ms specs ps none)

whole_seated : (s : Seat) (m : ℕ) (specs : Specs) → whole_for m (specs_seated s specs) ≡ whole_for m specs
whole_seated s m no_specs = refl
whole_seated s m (spec takes tagged united t behind) = ap (λ (n : ℕ). if is_among m takes then one_if united else n) (whole_seated s m behind)

pub wholes_seated : (s : Seat) (ms : List ℕ) (specs : Specs) → wholes_of ms (specs_seated s specs) ≡ wholes_of ms specs
wholes_seated s [] specs = refl
wholes_seated s (m ∷ ms) specs =
    ap (λ (n : ℕ). n ∷ wholes_of ms (specs_seated s specs)) (whole_seated s m specs) ∙ ap (λ (l : List ℕ). whole_for m specs ∷ l) (wholes_seated s ms specs)

-- ---- the whole

-- Member and its places, the specifications and their parts
pub member_writes : (s0 s1 s2 s3 : Option Stop) (l0 l1 l2 l3 : List Instr) (place union member none : ℕ) (members starts : List ℕ) (yields : Bool) (specs : Specs) (d : Does)
    → member ≡ length l0 → IsUnaimed union (length members + 1) (wholes_of members specs) d → Writes s0 s1 l0 l1 (instr place d ∷ []) → Writes s1 s2 l1 l2 (spec_stretches place 0 yields specs (length l1))
    → (s2 ≡ None → starts ≡ spec_places specs (length l1)) → none ≡ length l2
    → ((l3 ≡ put_all l2 member 0 (member_places members specs starts none)) × (s3 ≡ s2)) ⊎ (s3 ≡ ran_out s2)
    → Writes s0 s3 l0 l3 (member_front place union members yields specs (length l0))
member_writes s0 s1 s2 s3 l0 l1 l2 l3 place union member none members starts yields specs d em un w1' w2 es en e3 =
    let wholes = wholes_of members specs in
    let m = length l0 + 1 in
    let x = m + spec_sizes specs in
    let cz = instr place (does.Member union un.zeros wholes) in
    let each = spec_stretches place 0 yields specs m in
    let w1 : Writes s0 s1 l0 l1 (cz ∷ []) = writes-as s0 s1 l0 l1 _ _ (ap (λ (y : Does). instr place y ∷ []) un.is) w1' in
    let long_each : length each ≡ spec_sizes specs = size_specs place 0 yields specs m in
    let w02 : Writes s0 s2 l0 l2 (cz ∷ each) = and_behind s0 s1 s2 l0 l1 l2 (cz ∷ []) (λ n. spec_stretches place 0 yields specs n) w1 w2 in
    let none1 : s2 ≡ None → s1 ≡ None = λ n. had_not s1 s2 l1 l2 _ w2 n in
    let first : s2 ≡ None → length l1 ≡ m = λ n. ap (λ (l : List Instr). length l) (is_written s0 s1 l0 l1 (cz ∷ []) w1 (none1 n)) ∙ length-append l0 (cz ∷ []) in
    let same : length l0 + length (cz ∷ each) ≡ x = omega (arith, long_each) in
    let second : s2 ≡ None → length l2 ≡ x = λ n. ap (λ (l : List Instr). length l) (is_written s0 s2 l0 l2 (cz ∷ each) w02 n) ∙ length-append l0 (cz ∷ each) ∙ same in
    let starts_are : s2 ≡ None → starts ≡ spec_places specs m = λ n. es n ∙ ap (λ (k : ℕ). spec_places specs k) (first n) in
    let places_are : s2 ≡ None → member_places members specs starts none ≡ member_places members specs (spec_places specs m) x =
    λ n. ap (λ (ps : List ℕ). member_places members specs ps none) (starts_are n) ∙ ap (λ (k : ℕ). member_places members specs (spec_places specs m) k) (en ∙ second n) in
    done e3 un.zeros un.many w02 places_are
  where
    done : ((l3 ≡ put_all l2 member 0 (member_places members specs starts none)) × (s3 ≡ s2)) ⊎ (s3 ≡ ran_out s2) → (zs : List ℕ) → length zs ≡ length members + 1
        → Writes s0 s2 l0 l2 (instr place (does.Member union zs (wholes_of members specs)) ∷ spec_stretches place 0 yields specs (length l0 + 1))
        → (s2 ≡ None → member_places members specs starts none ≡ member_places members specs (spec_places specs (length l0 + 1)) (length l0 + 1 + spec_sizes specs))
        → Writes s0 s3 l0 l3 (member_front place union members yields specs (length l0))
    done (inl k) zs nz v ps =
        let wholes = wholes_of members specs in
        let after = spec_stretches place 0 yields specs (length l0 + 1) in
        let last = member_places members specs (spec_places specs (length l0 + 1)) (length l0 + 1 + spec_sizes specs) in
        let many : length zs ≡ length last = nz ∙ sym (count_members members specs (spec_places specs (length l0 + 1)) (length l0 + 1 + spec_sizes specs)) in
        subst (λ (z : Option Stop). Writes s0 z l0 l3 (member_front place union members yields specs (length l0))) (sym k.1)
        (patched s0 s2 l0 l2 l3 _ _ v refl
        (λ n is. k.0 ∙ ap (λ (l : List Instr). put_all l member 0 (member_places members specs starts none)) is
        ∙ ap (λ (c : ℕ). put_all (l0 ++ (instr place (does.Member union zs wholes) ∷ after)) c 0 (member_places members specs starts none)) em
        ∙ ap (λ (l : List ℕ). put_all (l0 ++ (instr place (does.Member union zs wholes) ∷ after)) (length l0) 0 l) (ps n)
        ∙ put_places (λ l. does.Member union l wholes) (member_names union wholes) l0 after place (length l0) last [] zs refl many))
    done (inr k) zs nz v ps = patched s0 s3 l0 l2 l3 _ _ (kept_writes s0 s2 s3 l0 l2 _ (inr k) v) refl (λ n is. absurd (never_none s2 s3 k n))

-- the other part behind it, and the jumps to the end
specs_aimed : (s0 s1 s2 : Option Stop) (l0 l1 l2 : List Instr) (place union : ℕ) (members jumps : List ℕ) (yields : Bool) (specs : Specs) (o : Tree)
    → Writes s0 s1 l0 l1 (member_front place union members yields specs (length l0)) → (s1 ≡ None → jumps ≡ spec_jumps specs (length l0 + 1)) → Writes s1 s2 l1 l2 (stretch o (length l1))
    → Writes s0 s2 l0 (aim_all l2 jumps (length l2)) (conform_list place union members yields specs o (length l0))
specs_aimed s0 s1 s2 l0 l1 l2 place union members jumps yields specs o w1 ej w2 =
    let m = length l0 + 1 in
    let x = m + spec_sizes specs in
    let c = instr place (does.Member union (member_places members specs (spec_places specs m) x) (wholes_of members specs)) in
    let each = spec_stretches place 0 yields specs m in
    let rest = stretch o x in
    let front = l0 ++ (c ∷ []) in
    let long_each : length each ≡ spec_sizes specs = size_specs place 0 yields specs m in
    let same : length l0 + length (c ∷ each) ≡ x = omega (arith, long_each) in
    let w02 : Writes s0 s2 l0 l2 ((c ∷ each) ++ rest) =
    subst (λ (n : ℕ). Writes s0 s2 l0 l2 ((c ∷ each) ++ stretch o n)) same (and_behind s0 s1 s2 l0 l1 l2 (c ∷ each) (λ n. stretch o n) w1 w2) in
    let none1 : s2 ≡ None → s1 ≡ None = λ n. had_not s1 s2 l1 l2 _ w2 n in
    let so = size_stretch o x in
    let end : s2 ≡ None → length l2 ≡ x + size o =
    λ n. omega (arith, ap (λ (l : List Instr). length l) (is_written s0 s2 l0 l2 ((c ∷ each) ++ rest) w02 n), length-append l0 ((c ∷ each) ++ rest), length-append (c ∷ each) rest, so, long_each) in
    let apart : (l : List Instr) → l0 ++ (c ∷ l) ≡ front ++ l = λ l. sym (append_assoc l0 (c ∷ []) l) in
    let long : m ≡ length front = sym (length-append l0 (c ∷ [])) in
    let same_places : places ((c ∷ each) ++ rest) ≡ places (conform_list place union members yields specs o (length l0)) =
    ap (λ (l : List ℕ). place ∷ l) (places-append each rest ∙ ap (λ (l : List ℕ). l ++ places rest) (places_specs place 0 (x + size o) yields specs m)
    ∙ sym (places-append (spec_stretches place (x + size o) yields specs m) rest)) in
    patched s0 s2 l0 l2 (aim_all l2 jumps (length l2)) ((c ∷ each) ++ rest) (conform_list place union members yields specs o (length l0)) w02 same_places
    (λ n is.
    ap (λ (l : List Instr). aim_all l jumps (length l2)) (is ∙ apart (each ++ rest)) ∙ ap (λ (js : List ℕ). aim_all (front ++ (each ++ rest)) js (length l2)) (ej (none1 n))
    ∙ ap (λ (k : ℕ). aim_all (front ++ (each ++ rest)) (spec_jumps specs m) k) (end n) ∙ aim_specs place (x + size o) yields specs front rest m long
    ∙ sym (apart (spec_stretches place (x + size o) yields specs m ++ rest)))

-- the enquiry before it, and its frame about both
conform_framed : (s0 s1 s2 s3 : Option Stop) (l0 l1 l2 l3 : List Instr) (begin slots place union : ℕ) (members : List ℕ) (yields : Bool) (q : Tree) (specs : Specs) (o : Tree)
    → Writes s0 s1 l0 l1 (asked (while_in begin slots q) (length l0)) → Writes s1 s2 l1 l2 (conform_list place union members yields specs o (length l1)) → Writes s2 s3 l2 l3 (shuts slots yields place)
    → Writes s0 s3 l0 l3 (stretch (framed begin place slots yields (conformity place union members yields q specs o)) (length l0))
conform_framed s0 s1 s2 s3 l0 l1 l2 l3 begin slots place union members yields q specs o w1 w2 w3 =
    let op = opens slots begin in
    let k = length l0 + length op in
    let sh = shuts slots yields place in
    let sq = size_stretch q k in
    let first = op ++ stretch q k in
    let list : ℕ → List Instr = λ n. conform_list place union members yields specs o n in
    let w13 = and_behind s1 s2 s3 l1 l2 l3 (list (length l1)) (λ n. sh) w2 w3 in
    let w03' = and_behind s0 s1 s3 l0 l1 l3 first (λ n. list n ++ sh) w1 w13 in
    let same : length l0 + length first ≡ k + size q = omega (arith, length-append op (stretch q k), sq) in
    let w03 : Writes s0 s3 l0 l3 (first ++ (list (k + size q) ++ sh)) = subst (λ (n : ℕ). Writes s0 s3 l0 l3 (first ++ (list n ++ sh))) same w03' in
    writes-as s0 s3 l0 l3 _ _
    (append_assoc op (stretch q k) (list (k + size q) ++ sh) ∙ ap (λ (l : List Instr). op ++ l) (sym (append_assoc (stretch q k) (list (k + size q)) sh))
    ∙ framed_list begin place slots yields (conformity place union members yields q specs o) (length l0)) w03

-- once the other part is written and the end has come, the whole choice is written
pub conform_front_is : (s0 s1 s2 : Option Stop) (l0 l1 l2 : List Instr) (e : Ending) (begin union : ℕ) (members : List ℕ) (q : Tree) (specs : Specs) (o : Tree)
    → Writes s0 s1 l0 l1 (asked (while_in begin e.slots q) (length l0)) → Writes s1 s2 l1 l2 (member_front e.place union members e.yields specs (length l1))
    → (s2 ≡ None → e.jumps.items ≡ spec_jumps specs (length l1 + 1))
    → IsFront (framed begin e.place e.slots e.yields (conformity e.place union members e.yields q specs o)) o e s0 l0 s2 l2
conform_front_is s0 s1 s2 l0 l1 l2 e begin union members q specs o w1 w2 ej =
    record {
      all = λ s l v s' l' c.
          conform_framed s0 s1 s s' l0 l1 (aim_all l e.jumps.items (length l)) l' begin e.slots e.place union members e.yields q specs o w1
          (specs_aimed s1 s2 s l1 l2 l e.place union members e.jumps.items e.yields specs o w2 ej v) c;
    }

-- ---- the loop that writes the specifications

-- the specifications before some are written: with these all of them are, and so it is with where they begin and their jumps
pub record SpecsAhead (place : ℕ) (yields : Bool) (whole left : Specs) (starts jumps : List ℕ) (s0 s1 : Option Stop) (l0 l1 : List Instr) : Type 0 where
  pub writes : (s : Option Stop) (l : List Instr) → Writes s1 s l1 l (spec_stretches place 0 yields left (length l1)) → Writes s0 s l0 l (spec_stretches place 0 yields whole (length l0))
  pub starts_are : s1 ≡ None → starts ++ spec_places left (length l1) ≡ spec_places whole (length l0)
  pub jumps_are : s1 ≡ None → jumps ++ spec_jumps left (length l1) ≡ spec_jumps whole (length l0)

pub specs_first : (place : ℕ) (yields : Bool) (whole : Specs) (starts jumps : List ℕ) (s : Option Stop) (l : List Instr) → starts ≡ [] → jumps ≡ []
    → SpecsAhead place yields whole whole starts jumps s s l l
specs_first place yields whole starts jumps s l es ej = record {
  writes = λ s1 l1 w. w;
  starts_are = λ n. ap (λ (z : List ℕ). z ++ spec_places whole (length l)) es;
  jumps_are = λ n. ap (λ (z : List ℕ). z ++ spec_jumps whole (length l)) ej;
}

-- one more
pub specs_on : (place : ℕ) (yields : Bool) (whole rest : Specs) (takes : List ℕ) (tagged united : Bool) (t : Tree) (starts starts' jumps jumps' : List ℕ) (s0 s1 s2 : Option Stop) (l0 l1 l2 : List Instr)
    → SpecsAhead place yields whole (spec takes tagged united t rest) starts jumps s0 s1 l0 l1 → Writes s1 s2 l1 l2 (spec_body place yields tagged t (length l1) ++ instr place (does.Jump 0) ∷ [])
    → (s2 ≡ None → starts' ≡ starts ++ length l1 ∷ []) → (s2 ≡ None → jumps' ≡ jumps ++ (length l1 + spec_size tagged t) ∷ []) → SpecsAhead place yields whole rest starts' jumps' s0 s2 l0 l2
specs_on place yields whole rest takes tagged united t starts starts' jumps jumps' s0 s1 s2 l0 l1 l2 before w es ej =
    let q = spec_body place yields tagged t (length l1) in
    let j0 = instr place (does.Jump 0) in
    let next = length l1 + (spec_size tagged t + 1) in
    let sq = body_long place yields tagged t (length l1) in
    let one : length (q ++ j0 ∷ []) ≡ spec_size tagged t + 1 = length-append q (j0 ∷ []) ∙ ap (λ (n : ℕ). n + 1) sq in
    let same : length l1 + length (q ++ j0 ∷ []) ≡ next = ap (λ (n : ℕ). length l1 + n) one in
    let there : s2 ≡ None → length l2 ≡ next = λ n. ap (λ (l : List Instr). length l) (is_written s1 s2 l1 l2 (q ++ j0 ∷ []) w n) ∙ length-append l1 (q ++ j0 ∷ []) ∙ same in
    let none : s2 ≡ None → s1 ≡ None = λ n. had_not s1 s2 l1 l2 (q ++ j0 ∷ []) w n in
    record {
      writes =
          λ s l v. before.writes s l (writes-as s1 s l1 l _ _ (append_assoc q (j0 ∷ []) (spec_stretches place 0 yields rest next) ∙ sym (spec_split place 0 yields takes tagged united t rest (length l1)))
          (subst (λ (k : ℕ). Writes s1 s l1 l ((q ++ j0 ∷ []) ++ spec_stretches place 0 yields rest k)) same (and_behind s1 s2 s l1 l2 l (q ++ j0 ∷ []) (λ k. spec_stretches place 0 yields rest k) w v)));
      starts_are =
          λ n. ap (λ (z : List ℕ). z ++ spec_places rest (length l2)) (es n) ∙ append_assoc starts (length l1 ∷ []) (spec_places rest (length l2))
          ∙ ap (λ (k : ℕ). starts ++ (length l1 ∷ spec_places rest k)) (there n) ∙ ap (λ (l : List ℕ). starts ++ l) (sym (first_place takes tagged united t rest (length l1))) ∙ before.starts_are (none n);
      jumps_are =
          λ n. ap (λ (z : List ℕ). z ++ spec_jumps rest (length l2)) (ej n) ∙ append_assoc jumps ((length l1 + spec_size tagged t) ∷ []) (spec_jumps rest (length l2))
          ∙ ap (λ (k : ℕ). jumps ++ ((length l1 + spec_size tagged t) ∷ spec_jumps rest k)) (there n) ∙ before.jumps_are (none n);
    }

-- ---- one specification and its jump, where numbers are kept before and between

pub spec_writes : (s0 s1 s2 s3 s4 : Option Stop) (l0 l1 l2 l3 l4 : List Instr) (place : ℕ) (yields tagged : Bool) (t : Tree) → l1 ≡ l0 → (s1 ≡ s0) ⊎ (s1 ≡ ran_out s0)
    → Writes s1 s2 l1 l2 (spec_body place yields tagged t (length l1)) → l3 ≡ l2 → (s3 ≡ s2) ⊎ (s3 ≡ ran_out s2) → Writes s3 s4 l3 l4 (instr place (does.Jump 0) ∷ [])
    → Writes s0 s4 l0 l4 (spec_body place yields tagged t (length l0) ++ instr place (does.Jump 0) ∷ [])
spec_writes s0 s1 s2 s3 s4 l0 l1 l2 l3 l4 place yields tagged t e1 k1 w12 e3 k3 w34 =
    let q = spec_body place yields tagged t (length l0) in
    let kept = kept_writes s0 s0 s1 l0 l0 [] k1 (nothing-written s0 l0) in
    let body : Writes s1 s2 l0 l2 q = subst (λ (l : List Instr). Writes s1 s2 l l2 (spec_body place yields tagged t (length l))) e1 w12 in
    let is_same : length l0 + 0 ≡ length l0 = omega arith in
    let w02 : Writes s0 s2 l0 l2 q = subst (λ (n : ℕ). Writes s0 s2 l0 l2 (spec_body place yields tagged t n)) is_same
    (and_behind s0 s1 s2 l0 l0 l2 [] (λ n. spec_body place yields tagged t n) kept (subst (λ (n : ℕ). Writes s1 s2 l0 l2 (spec_body place yields tagged t n)) refl body)) in
    let jump : Writes s3 s4 l2 l4 (instr place (does.Jump 0) ∷ []) = subst (λ (l : List Instr). Writes s3 s4 l l4 (instr place (does.Jump 0) ∷ [])) e3 w34 in
    and_behind s0 s3 s4 l0 l2 l4 q (λ n. instr place (does.Jump 0) ∷ []) (kept_writes s0 s2 s3 l0 l2 q k3 w02) jump

-- where its jump stands
pub spec_ends : (s1 s2 s3 s4 : Option Stop) (l0 l1 l2 l3 l4 : List Instr) (place : ℕ) (yields tagged : Bool) (t : Tree) → l1 ≡ l0 → Writes s1 s2 l1 l2 (spec_body place yields tagged t (length l1))
    → (s3 ≡ s2) ⊎ (s3 ≡ ran_out s2) → Writes s3 s4 l3 l4 (instr place (does.Jump 0) ∷ []) → s4 ≡ None → (s3 ≡ None) × (length l2 ≡ length l0 + spec_size tagged t)
spec_ends s1 s2 s3 s4 l0 l1 l2 l3 l4 place yields tagged t e1 w12 k3 w34 none =
    let n3 = had_not s3 s4 l3 l4 _ w34 none in
    let q = spec_body place yields tagged t (length l1) in
    let is = is_written s1 s2 l1 l2 q w12 (was_none s2 s3 k3 n3) in
    let long = body_long place yields tagged t (length l1) in
    let first = ap (λ (l : List Instr). length l) e1 in
    let both = ap (λ (l : List Instr). length l) is ∙ length-append l1 q in (n3, both ∙ ap (λ (n : ℕ). length l1 + n) long ∙ ap (λ (n : ℕ). n + spec_size tagged t) first)

-- a part with its tag
pub tagged_writes : (s0 s1 s2 s3 s4 : Option Stop) (l0 l1 l2 l3 l4 : List Instr) (place kept : ℕ) (yields : Bool) (t : Tree) → kept ≡ (if yields then 1 else 0)
    → Writes s0 s1 l0 l1 (instr place (does.Enter 1) ∷ []) → Writes s1 s2 l1 l2 (instr place (does.Bind 0) ∷ []) → Writes s2 s3 l2 l3 (stretch t (length l2))
    → Writes s3 s4 l3 l4 (instr place (does.Leave kept) ∷ []) → Writes s0 s4 l0 l4 (spec_body place yields true t (length l0))
tagged_writes s0 s1 s2 s3 s4 l0 l1 l2 l3 l4 place kept yields t ek w1 w2 w3 w4 =
    let enter = instr place (does.Enter 1) in
    let bind = instr place (does.Bind 0) in
    let l = instr place (leave yields) in
    let w4' : Writes s3 s4 l3 l4 (l ∷ []) = writes-as s3 s4 l3 l4 _ _ (ap (λ (k : ℕ). instr place (does.Leave k) ∷ []) ek) w4 in
    let w02 = and_behind s0 s1 s2 l0 l1 l2 (enter ∷ []) (λ n. bind ∷ []) w1 w2 in
    let w24 = and_behind s2 s3 s4 l2 l3 l4 (stretch t (length l2)) (λ n. l ∷ []) w3 w4' in
    and_behind s0 s2 s4 l0 l2 l4 (enter ∷ bind ∷ []) (λ n. stretch t n ++ l ∷ []) w02 w24

-- ---- a conformity clause is made of the trees behind its node

pub conform_is : (a : Annotated) (f : ℕ → Tree) (specs : List ℕ → Specs) (id place goal : ℕ) (yields : Bool) (e : ℕ) (rest ids units : List ℕ) (other : Option ℕ) (node : Node) (note : Note) → slice_get a.tree.nodes e ≡ Some node
    → slice_get a.notes e ≡ Some note → option_map (λ (n : Node). n.parts) (slice_get a.tree.nodes e) ≡ Some ids → AllBetween e (length a.tree.nodes) ids → id < e
    → units ≡ before_out a rest → other ≡ out_of a rest → IfSome other (λ p. (id < p) × (p < length a.tree.nodes))
    → framed node.span.from place note.slots yields
    (conformity place (goal_at a e) (members_of (shape_at a.modes (goal_at a e))) yields (phrases_of node.span.from (trees_at (behind e f) ids)) (specs units)
    (option_map_or f other (left_out place goal)))
    ≡ with_enquiry a (behind id f) place yields e
    (λ q. conformity place (goal_at a e) (members_of (shape_at a.modes (goal_at a e))) yields q (specs (before_out a rest)) (option_map_or (behind id f) (out_of a rest) (left_out place goal)))
conform_is a f specs id place goal yields e rest ids units other node note is noted parts all below eu eo within =
    let n = length a.tree.nodes in
    let g = behind id f in
    let at = node.span.from in
    let union = goal_at a e in
    let members = members_of (shape_at a.modes union) in
    let whole : Trees → Specs → Tree → Tree = λ ph us o. framed at place note.slots yields (conformity place union members yields (phrases_of at ph) us o) in
    let same : node.parts ≡ ids = ap (λ (o : Option Node). option_map_or (λ (n : Node). n.parts) o []) (sym is) ∙ parts_are (slice_get a.tree.nodes e) ids parts in
    let phrases : trees_at (behind e f) ids ≡ trees_at g node.parts =
    behind_all e n f ids all ∙ sym (behind_all id n f ids (between-above id e n ids below all)) ∙ ap (λ (l : List ℕ). trees_at g l) (sym same) in
    let out : option_map_or f other (left_out place goal) ≡ option_map_or g (out_of a rest) (left_out place goal) =
    sym (other_behind id n place goal f other within) ∙ ap (λ (o : Option ℕ). option_map_or g o (left_out place goal)) eo in
    let go : Tree → Tree = λ q. conformity place union members yields q (specs (before_out a rest)) (option_map_or g (out_of a rest) (left_out place goal)) in
    ap (λ (ph : Trees). whole ph (specs units) (option_map_or f other (left_out place goal))) phrases
    ∙ ap (λ (us : List ℕ). whole (trees_at g node.parts) (specs us) (option_map_or f other (left_out place goal))) eu
    ∙ ap (λ (o : Tree). whole (trees_at g node.parts) (specs (before_out a rest)) o) out
    ∙ sym (ap (λ (o : Option Node). begun_by g place yields o (slice_get a.notes e) go) is ∙ ap (λ (m : Option Note). begun_by g place yields (Some node) m go) noted)

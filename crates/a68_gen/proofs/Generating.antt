-- What a whole translation has written.
use Rattle.std.proofs.Common.{◌≡◌, ◌⊎◌, ℕ, zero, suc, ◌+◌, ◌-◌, ◌<◌, List, [], ◌∷◌, ◌++◌, length, length-append, append_assoc, drop, get_or, add-one, drop-cons, append-nil, refl, sym, ◌∙◌, ap, arith, subst, false, true, None, Some, slice_get}
use Rattle.std.specs.Option.{option_map_or}
use Rattle.std.specs.Prelude.{◌≤◌, Bool, map, slice_index_or, if◌then◌else◌}
use Rattle.std.specs.declared.option.Option.{Option}
use Rattle.a68_annot.specs.declared.annotated.Annotated.{Annotated}
use Rattle.a68_base.specs.declared.refusal.Stop.{Stop}
use Rattle.a68_code.specs.Valid.{IsValid}
use Rattle.a68_code.specs.declared.code.Code.{Code}
use Rattle.a68_code.specs.declared.code.Instr.{Instr}
use Rattle.a68_code.specs.declared.code.RoutineEntrance.{RoutineEntrance}
use Rattle.a68_code.specs.declared.does.Does.TheVariants as does
use Rattle.a68_builder.specs.Linking.{linked}
use Rattle.a68_elab.specs.Made.{behind_all, last_id, parts_at, text_among, texts_before, texts_in, unit_among, units_before, units_in}
use Rattle.a68_base.specs.declared.limits.TheConstants.{MOST_INSTRUCTIONS}
use Rattle.a68_elab.specs.Programs.{apart_before, asked_tree, body_of, body_yields, first_seat, misfit, parallel_unit_of, place_of, program_of, seated, tree_at}
use Rattle.a68_elab.specs.Runs.{is_outcome, outcome}
use Rattle.a68_elab.specs.Trees.{Apart, Program, bodies, routine_text, parallel_unit, units}
use Rattle.a68_gen.specs.Fits.{Fits, ApartFits}
use Rattle.a68_emit.specs.Listing.{apart_size, apart_stretch, apart_stretches, instr, listing, size, stretch, text_entrances, texts_entered, unit_entrances, units_entered, written}
use Rattle.a68_gen.specs.Operands.{FitsModes, ApartFitsModes}
use Rattle.a68_emit.specs.Texts.{AreInside, apart_of, node_of, pair_of}
use Rattle.a68_emit.specs.declared.entered.Entered.{Entered}
use Rattle.a68_emit.specs.declared.entered.UnitNode.{UnitNode}
use Rattle.a68_emit.specs.Stretches.{Translates}
use Rattle.a68_emit.specs.Writing.{Stops, Writes, places, ran_out}
use Rattle.a68_constructs.proofs.Lying.{misfit_lies}
use Rattle.a68_constructs.proofs.Numbering.{kept_before}
use Rattle.a68_gen.proofs.Listed.{texts_listed}
use Rattle.a68_emit.proofs.Entering.{map-long}
use Rattle.a68_emit.proofs.Sizes.{size_one, size_stretch}
use Rattle.a68_gen.proofs.Seated.{IsSeated, is_seated}
use Rattle.a68_gen.proofs.Standing.{ApartSeated, translated}
use Rattle.a68_gen.proofs.Validity.{valid}
use Rattle.a68_tree.specs.declared.node.Node.{Node}
use Rattle.a68_emit.proofs.Writing.{and_behind, had_not, is_written, stops-places, writes-as}

-- ---- what stands apart

-- What stands apart before some of it is written: with the rest, all of it is.
pub record ApartAhead (all left : List Apart) (s0 s1 : Option Stop) (l0 l1 : List Instr) (texts : List RoutineEntrance) (units : List ℕ) : Type 0 where
  pub writes : (s : Option Stop) (end : List Instr) → Writes s1 s l1 end (apart_stretches left (length l1)) → Writes s0 s l0 end (apart_stretches all (length l0))
  pub texts_entered : s1 ≡ None → texts ++ text_entrances left (length l1) ≡ text_entrances all (length l0)
  pub units_entered : s1 ≡ None → units ++ unit_entrances left (length l1) ≡ unit_entrances all (length l0)

pub apart_first : (all : List Apart) (s : Option Stop) (l : List Instr) (texts : List RoutineEntrance) (units : List ℕ) → texts ≡ [] → units ≡ [] → ApartAhead all all s s l l texts units
apart_first all s l texts units no_texts no_units = record {
  writes = λ t end v. v;
  texts_entered = λ none. ap (λ (es : List RoutineEntrance). es ++ text_entrances all (length l)) no_texts;
  units_entered = λ none. ap (λ (es : List ℕ). es ++ unit_entrances all (length l)) no_units;
}

-- ---- nodes of which a value is asked or none

-- a misfit in the place of one that leaves something else
pub asked_none : (a : Annotated) (wanted : Bool) (id : ℕ) (node : Node) → slice_get a.tree.nodes id ≡ Some node → is_outcome wanted (outcome a id) ≡ false → misfit node.span.from wanted ≡ asked_tree a wanted id
asked_none a wanted id node is none =
    let place : place_of a id ≡ node.span.from = ap (λ (m : Option Node). option_map_or (λ (n : Node). n.span.from) m 0) is in
    sym (misfit_lies first_seat node.span.from wanted) ∙ ap (λ (p : ℕ). seated first_seat (misfit p wanted)) (sym place)
    ∙ ap (λ (b : Bool). seated first_seat (if b then tree_at a id else misfit (place_of a id) wanted)) (sym none)

pub asked_some : (a : Annotated) (wanted : Bool) (id : ℕ) → is_outcome wanted (outcome a id) ≡ true → seated first_seat (tree_at a id) ≡ asked_tree a wanted id
asked_some a wanted id some = ap (λ (b : Bool). seated first_seat (if b then tree_at a id else misfit (place_of a id) wanted)) (sym some)

-- a body and its Return
pub text_written : (a : Annotated) (id part : ℕ) (node : Node) (s0 s1 s2 s3 : Option Stop) (l0 l1 l2 l3 : List Instr) → slice_get a.tree.nodes id ≡ Some node → part ≡ last_id (parts_at a id)
    → l1 ≡ l0 → (s1 ≡ s0) ⊎ (s1 ≡ ran_out s0) → Writes s1 s2 l1 l2 (stretch (asked_tree a (body_yields a id) part) (length l1)) → Writes s2 s3 l2 l3 (instr node.span.from does.Return ∷ [])
    → Writes s0 s3 l0 l3 (apart_stretch (routine_text (body_of a id)) (length l0))
text_written a id part node s0 s1 s2 s3 l0 l1 l2 l3 is part_is same_list kept w v =
    let t = asked_tree a (body_yields a id) (last_id (parts_at a id)) in
    let tree : Writes s1 s2 l1 l2 (stretch t (length l1)) = subst (λ (i : ℕ). Writes s1 s2 l1 l2 (stretch (asked_tree a (body_yields a id) i) (length l1))) part_is w in
    let place : place_of a id ≡ node.span.from = ap (λ (m : Option Node). option_map_or (λ (n : Node). n.span.from) m 0) is in
    let last : Writes s2 s3 l2 l3 (instr (place_of a id) does.Return ∷ []) = subst (λ (p : ℕ). Writes s2 s3 l2 l3 (instr p does.Return ∷ [])) (sym place) v in
    let first : Writes s0 s2 l0 l2 (stretch t (length l0)) = kept_before s0 s1 s2 l0 l1 l2 t same_list kept tree in
    and_behind s0 s2 s3 l0 l2 l3 (stretch t (length l0)) (λ n. instr (place_of a id) does.Return ∷ []) first last

-- a unit and its Close
pub unit_written : (a : Annotated) (u : UnitNode) (s0 s1 s2 s3 : Option Stop) (l0 l1 l2 l3 : List Instr) → l1 ≡ l0 → (s1 ≡ s0) ⊎ (s1 ≡ ran_out s0)
    → Writes s1 s2 l1 l2 (stretch (asked_tree a false u.id) (length l1)) → Writes s2 s3 l2 l3 (instr u.place does.Close ∷ [])
    → Writes s0 s3 l0 l3 (apart_stretch (parallel_unit (parallel_unit_of a (pair_of u))) (length l0))
unit_written a u s0 s1 s2 s3 l0 l1 l2 l3 same_list kept w v =
    let t = asked_tree a false u.id in
    and_behind s0 s2 s3 l0 l2 l3 (stretch t (length l0)) (λ n. instr u.place does.Close ∷ []) (kept_before s0 s1 s2 l0 l1 l2 t same_list kept w) v

pub last_is_last : (ids : List ℕ) → 0 < length ids → slice_index_or ids (length ids - 1) 0 ≡ last_id ids
last_is_last [] some = absurd (omega arith)
last_is_last (x ∷ []) some = refl
last_is_last (x ∷ (y ∷ ids)) some =
    let e : length (x ∷ (y ∷ ids)) - 1 ≡ suc (length (y ∷ ids) - 1) = omega arith in
    ap (λ (n : ℕ). slice_index_or (x ∷ (y ∷ ids)) n 0) e ∙ last_is_last (y ∷ ids) (omega arith)

-- the entrances of one, and of those behind it
first_texts : (x : Apart) (xs : List Apart) (at : ℕ) → text_entrances (x ∷ []) at ++ text_entrances xs (at + apart_size x) ≡ text_entrances (x ∷ xs) at
first_texts (routine_text body) xs at = refl
first_texts (parallel_unit unit) xs at = refl

first_units : (x : Apart) (xs : List Apart) (at : ℕ) → unit_entrances (x ∷ []) at ++ unit_entrances xs (at + apart_size x) ≡ unit_entrances (x ∷ xs) at
first_units (routine_text body) xs at = refl
first_units (parallel_unit unit) xs at = refl

pub apart_on : (all left : List Apart) (x : Apart) (s0 s1 s2 : Option Stop) (l0 l1 l2 : List Instr) (texts texts' : List RoutineEntrance) (units units' : List ℕ)
    → ApartAhead all (x ∷ left) s0 s1 l0 l1 texts units → Writes s1 s2 l1 l2 (apart_stretch x (length l1)) → (s2 ≡ None → texts' ≡ texts ++ text_entrances (x ∷ []) (length l1))
    → (s2 ≡ None → units' ≡ units ++ unit_entrances (x ∷ []) (length l1)) → ApartAhead all left s0 s2 l0 l2 texts' units'
apart_on all left x s0 s1 s2 l0 l1 l2 texts texts' units units' ahead w et eu = record {
  writes = λ s end v.
      ahead.writes s end
      (writes-as s1 s l1 end _ _ (ap (λ (n : ℕ). apart_stretch x at ++ apart_stretches left (at + n)) (size_one x at))
      (and_behind s1 s2 s l1 l2 end (apart_stretch x at) (λ n. apart_stretches left n) w v));
  texts_entered = λ none.
      ap (λ (l : List RoutineEntrance). l ++ text_entrances left (length l2)) (et none)
      ∙ append_assoc texts (text_entrances (x ∷ []) at) (text_entrances left (length l2))
      ∙ ap (λ (n : ℕ). texts ++ (text_entrances (x ∷ []) at ++ text_entrances left n)) (long none)
      ∙ ap (λ (l : List RoutineEntrance). texts ++ l) (first_texts x left at)
      ∙ ahead.texts_entered (before none);
  units_entered = λ none.
      ap (λ (l : List ℕ). l ++ unit_entrances left (length l2)) (eu none)
      ∙ append_assoc units (unit_entrances (x ∷ []) at) (unit_entrances left (length l2))
      ∙ ap (λ (n : ℕ). units ++ (unit_entrances (x ∷ []) at ++ unit_entrances left n)) (long none)
      ∙ ap (λ (l : List ℕ). units ++ l) (first_units x left at)
      ∙ ahead.units_entered (before none);
}
  where
    at : ℕ
    at = length l1

    before : s2 ≡ None → s1 ≡ None
    before none = had_not s1 s2 l1 l2 (apart_stretch x (length l1)) w none

    long : s2 ≡ None → length l2 ≡ length l1 + apart_size x
    long none =
        ap (λ (l : List Instr). length l) (is_written s1 s2 l1 l2 (apart_stretch x (length l1)) w none) ∙ length-append l1 (apart_stretch x (length l1))
        ∙ ap (λ (n : ℕ). length l1 + n) (size_one x (length l1))

pub entered_cons : (a : Annotated) (i : ℕ) (xs : List Entered) (d : Entered) → i < length xs → map (apart_of a) (drop i xs) ≡ apart_of a (get_or xs i d) ∷ map (apart_of a) (drop (i + 1) xs)
entered_cons a i xs d p = rw (add-one, drop-cons xs i d) refl

pub entered_inside : (nodes i : ℕ) (xs : List Entered) (d : Entered) → i < length xs → AreInside nodes xs → node_of (get_or xs i d) < nodes
entered_inside nodes i [] d less all = absurd (omega arith)
entered_inside nodes zero (x ∷ xs) d less all = all.0
entered_inside nodes (suc i) (x ∷ xs) d less all = entered_inside nodes i xs d (omega arith) all.1

-- ---- programs

-- the program and End
abbrev pub program_list : Program → (at : ℕ) → List Instr
program_list program at = stretch program.tree at ++ instr program.place does.End ∷ []

program_long : (program : Program) (at : ℕ) → length (program_list program at) ≡ size program.tree + 1
program_long program at = let s = size_stretch program.tree at in omega (arith, length-append (stretch program.tree at) (instr program.place does.End ∷ []))

behind_end : (program : Program) → program_list program 0 ++ apart_stretches program.apart (0 + length (program_list program 0)) ≡ written program
behind_end program =
    let z : 0 + length (program_list program 0) ≡ size program.tree + 1 = (let l = program_long program 0 in omega arith) in
    ap (λ (n : ℕ). program_list program 0 ++ apart_stretches program.apart n) z
    ∙ append_assoc (stretch program.tree 0) (instr program.place does.End ∷ []) (apart_stretches program.apart (size program.tree + 1))

pub program_written : (a : Annotated) (root : ℕ) (node : Node) (s0 s1 s2 : Option Stop) (l0 l1 l2 : List Instr) → root ≡ 0 → slice_get a.tree.nodes root ≡ Some node
    → Writes s0 s1 l0 l1 (stretch (asked_tree a false root) (length l0)) → Writes s1 s2 l1 l2 (instr node.span.from does.End ∷ []) → Writes s0 s2 l0 l2 (program_list (program_of a) (length l0))
program_written a root node s0 s1 s2 l0 l1 l2 first is w v =
    let tree : Writes s0 s1 l0 l1 (stretch (asked_tree a false 0) (length l0)) = subst (λ (i : ℕ). Writes s0 s1 l0 l1 (stretch (asked_tree a false i) (length l0))) first w in
    let at_root : slice_get a.tree.nodes 0 ≡ Some node = subst (λ (i : ℕ). slice_get a.tree.nodes i ≡ Some node) first is in
    let place : place_of a 0 ≡ node.span.from = ap (λ (m : Option Node). option_map_or (λ (n : Node). n.span.from) m 0) at_root in
    let last : Writes s1 s2 l1 l2 (instr (place_of a 0) does.End ∷ []) = subst (λ (p : ℕ). Writes s1 s2 l1 l2 (instr p does.End ∷ [])) (sym place) v in
    and_behind s0 s1 s2 l0 l1 l2 (stretch (asked_tree a false 0) (length l0)) (λ n. instr (place_of a 0) does.End ∷ []) tree last

-- all of a program is written, or writing stopped
pub all_written : (program : Program) (s0 s1 s2 : Option Stop) (l0 l1 l2 : List Instr) → l0 ≡ [] → Writes s0 s1 l0 l1 (program_list program (length l0))
    → Writes s1 s2 l1 l2 (apart_stretches program.apart (length l1)) → Writes s0 s2 l0 l2 (written program)
all_written program s0 s1 s2 l0 l1 l2 empty w v =
    let at : length l0 ≡ 0 = ap (λ (l : List Instr). length l) empty in
    let all = and_behind s0 s1 s2 l0 l1 l2 (program_list program (length l0)) (λ n. apart_stretches program.apart n) w v in
    writes-as s0 s2 l0 l2 _ _ (ap (λ (n : ℕ). program_list program n ++ apart_stretches program.apart (n + length (program_list program n))) at ∙ behind_end program) all

-- what stands apart begins behind End
pub behind_program : (program : Program) (s0 s1 : Option Stop) (l0 l1 : List Instr) → l0 ≡ [] → Writes s0 s1 l0 l1 (program_list program (length l0)) → s1 ≡ None → length l1 ≡ size program.tree + 1
behind_program program s0 s1 l0 l1 empty w none =
    let list = is_written s0 s1 l0 l1 (program_list program (length l0)) w none in
    let at : length l0 ≡ 0 = ap (λ (l : List Instr). length l) empty in
    let l = program_long program (length l0) in
    ap (λ (l : List Instr). length l) list ∙ omega (arith, length-append l0 (program_list program (length l0)))

-- what is written of a program, and of one that is equal to it
pub written_of : (a b : Annotated) (s0 s1 : Option Stop) (l0 l1 : List Instr) → b ≡ a → s0 ≡ None → l0 ≡ [] → Writes s0 s1 l0 l1 (written (program_of b)) → Writes None s1 [] l1 (written (program_of a))
written_of a b s0 s1 l0 l1 e none empty w =
    let w' : Writes None s1 [] l1 (written (program_of b)) = rw (none, empty) at w in
    subst (λ (x : Annotated). Writes None s1 [] l1 (written (program_of x))) e w'

-- entrances of units in the place of their numbers change no place of the text
places_linked : (units : List ℕ) (list : List Instr) → places list ≡ places (map (linked units) list)
places_linked units [] = refl
places_linked units (i ∷ list) = ap (λ (l : List ℕ). i.place ∷ l) (places_linked units list)

-- what stops the writing of a program tells of its listing
pub stops_listing : (program : Program) (stop : Stop) → Stops stop (written program) → Stops stop (listing program)
stops_listing program stop s =
    stops-places stop (written program) (listing program) [] s (append-nil (places (written program)) ∙ places_linked (units_entered program) (written program))

-- ---- how much stands apart

bodies_behind : (xs ys : List Apart) → length (bodies (xs ++ ys)) ≡ length (bodies xs) + length (bodies ys)
bodies_behind [] ys = omega arith
bodies_behind (routine_text body ∷ xs) ys = let e = bodies_behind xs ys in omega arith
bodies_behind (parallel_unit unit ∷ xs) ys = bodies_behind xs ys

units_behind : (xs ys : List Apart) → length (units (xs ++ ys)) ≡ length (units xs) + length (units ys)
units_behind [] ys = omega arith
units_behind (routine_text body ∷ xs) ys = units_behind xs ys
units_behind (parallel_unit unit ∷ xs) ys = let e = units_behind xs ys in omega arith

of_texts : (a : Annotated) (ids : List ℕ) → let xs = map (λ id. routine_text (body_of a id)) ids in (length (bodies xs) ≡ length ids) × (length (units xs) ≡ 0)
of_texts a [] = (refl, refl)
of_texts a (id ∷ ids) = let e = of_texts a ids in (ap (λ (n : ℕ). suc n) e.0, e.1)

of_units : (a : Annotated) (us : List (ℕ × ℕ)) → let xs = map (λ u. parallel_unit (parallel_unit_of a u)) us in (length (bodies xs) ≡ 0) × (length (units xs) ≡ length us)
of_units a [] = (refl, refl)
of_units a (u ∷ us) = let e = of_units a us in (e.0, ap (λ (n : ℕ). suc n) e.1)

-- as many routine texts and units as are numbered
many_texts : (a : Annotated) (byte : ℕ) → length (bodies (apart_before a byte)) ≡ length (texts_before a byte)
many_texts a zero = refl
many_texts a (suc byte) =
    let us = unit_among a byte a.tree.nodes in
    let ids = text_among byte 0 a.tree.nodes in
    let xs = map (λ u. parallel_unit (parallel_unit_of a u)) us in
    let ys = map (λ id. routine_text (body_of a id)) ids in
    let e = many_texts a byte in let u = (of_units a us).0 in let t = (of_texts a ids).0 in
    omega (arith, bodies_behind (apart_before a byte) (xs ++ ys), bodies_behind xs ys, length-append (texts_before a byte) ids)

many_units : (a : Annotated) (byte : ℕ) → length (units (apart_before a byte)) ≡ length (units_before a byte)
many_units a zero = refl
many_units a (suc byte) =
    let us = unit_among a byte a.tree.nodes in
    let ids = text_among byte 0 a.tree.nodes in
    let xs = map (λ u. parallel_unit (parallel_unit_of a u)) us in
    let ys = map (λ id. routine_text (body_of a id)) ids in
    let e = many_units a byte in let u = (of_units a us).1 in let t = (of_texts a ids).1 in
    omega (arith, units_behind (apart_before a byte) (xs ++ ys), units_behind xs ys, length-append (units_before a byte) us)

texts_long : (xs : List Apart) (at : ℕ) → length (text_entrances xs at) ≡ length (bodies xs)
texts_long [] at = refl
texts_long (routine_text body ∷ xs) at = ap (λ (n : ℕ). suc n) (texts_long xs (at + (size body.tree + 1)))
texts_long (parallel_unit unit ∷ xs) at = texts_long xs (at + (size unit.tree + 1))

units_long : (xs : List Apart) (at : ℕ) → length (unit_entrances xs at) ≡ length (units xs)
units_long [] at = refl
units_long (routine_text body ∷ xs) at = units_long xs (at + (size body.tree + 1))
units_long (parallel_unit unit ∷ xs) at = ap (λ (n : ℕ). suc n) (units_long xs (at + (size unit.tree + 1)))

texts_many : (a : Annotated) (code : Code) → code.texts ≡ texts_entered (program_of a) → length code.texts ≡ length (texts_in a)
texts_many a code e =
    ap (λ (es : List RoutineEntrance). length es) e ∙ texts_long (program_of a).apart (size (program_of a).tree + 1) ∙ many_texts a (behind_all a.tree.nodes)

units_many : (a : Annotated) (code : Code) → code.units ≡ units_entered (program_of a) → length code.units ≡ length (units_in a)
units_many a code e = ap (λ (es : List ℕ). length es) e ∙ units_long (program_of a).apart (size (program_of a).tree + 1) ∙ many_units a (behind_all a.tree.nodes)

-- ---- jumps

-- those of a program have their numbers
asked_seated : (a : Annotated) (wanted : Bool) (id : ℕ) → IsSeated first_seat (asked_tree a wanted id)
asked_seated a wanted id = is_seated first_seat (if is_outcome wanted (outcome a id) then tree_at a id else misfit (place_of a id) wanted)

seated_behind : (xs ys : List Apart) → ApartSeated xs → ApartSeated ys → ApartSeated (xs ++ ys)
seated_behind [] ys p q = q
seated_behind (routine_text body ∷ xs) ys p q = (p.0, seated_behind xs ys p.1 q)
seated_behind (parallel_unit unit ∷ xs) ys p q = (p.0, seated_behind xs ys p.1 q)

texts_seated : (a : Annotated) (ids : List ℕ) → ApartSeated (map (λ id. routine_text (body_of a id)) ids)
texts_seated a [] = tt
texts_seated a (id ∷ ids) = (asked_seated a (body_yields a id) (last_id (parts_at a id)), texts_seated a ids)

units_seated : (a : Annotated) (us : List (ℕ × ℕ)) → ApartSeated (map (λ u. parallel_unit (parallel_unit_of a u)) us)
units_seated a [] = tt
units_seated a (u ∷ us) = (asked_seated a false u.1, units_seated a us)

apart_seated : (a : Annotated) (byte : ℕ) → ApartSeated (apart_before a byte)
apart_seated a zero = tt
apart_seated a (suc byte) =
    let us = unit_among a byte a.tree.nodes in
    let ids = text_among byte 0 a.tree.nodes in
    let xs = map (λ u. parallel_unit (parallel_unit_of a u)) us in
    let ys = map (λ id. routine_text (body_of a id)) ids in
    seated_behind (apart_before a byte) (xs ++ ys) (apart_seated a byte) (seated_behind xs ys (units_seated a us) (texts_seated a ids))

-- code with this list and these entrances translates the program
pub is_translated : (program : Annotated) (code : Code) (list : List Instr) (s2 : Option Stop) → s2 ≡ None → Writes None s2 [] list (written (program_of program)) → code.list ≡ map (linked code.units) list
    → length list ≤ MOST_INSTRUCTIONS → code.texts ≡ texts_entered (program_of program) → code.units ≡ units_entered (program_of program) → code.modes ≡ program.modes
    → Fits program.modes (length (units_in program)) false (program_of program).tree → ApartFits program.modes (length (units_in program)) (program_of program).apart
    → Translates (program_of program) code
is_translated program code list None e w l few x u m f t =
    let many = sym (units_many program code u) in
    let p = program_of program in
    let fits : Fits code.modes (length code.units) false p.tree =
    subst (λ ms. Fits ms (length code.units) false p.tree) (sym m) (subst (λ (n : ℕ). Fits program.modes n false p.tree) many f) in
    let apart_fit : ApartFits code.modes (length code.units) p.apart =
    subst (λ ms. ApartFits ms (length code.units) p.apart) (sym m) (subst (λ (n : ℕ). ApartFits program.modes n p.apart) many t) in
    let short : length code.list ≤ MOST_INSTRUCTIONS =
    subst (λ (n : ℕ). n ≤ MOST_INSTRUCTIONS) (sym (ap (λ (is : List Instr). length is) l ∙ map-long (linked code.units) list)) few in
    translated p code (l ∙ ap (λ (is : List Instr). map (linked code.units) is) w) x u m short (asked_seated program false 0) (apart_seated program (behind_all program.tree.nodes)) fits apart_fit
is_translated program code list (Some s) e w l few x u m f t = absurd (cc)

-- and it is valid
pub is_valid : (program : Annotated) (code : Code) → Translates (program_of program) code → code.modes ≡ program.modes → FitsModes program.modes (length (texts_in program)) (program_of program).tree
    → ApartFitsModes program.modes (length (texts_in program)) (program_of program).apart → IsValid code
is_valid program code t m f g =
    let p = program_of program in
    let long = sym (texts_many program code (texts_listed p code t)) in
    let fit : FitsModes code.modes (length code.texts) p.tree = subst (λ ms. FitsModes ms (length code.texts) p.tree) (sym m) (subst (λ (n : ℕ). FitsModes program.modes n p.tree) long f) in
    let apart_fit : ApartFitsModes code.modes (length code.texts) p.apart =
    subst (λ ms. ApartFitsModes ms (length code.texts) p.apart) (sym m) (subst (λ (n : ℕ). ApartFitsModes program.modes n p.apart) long g) in
    valid p code t fit apart_fit

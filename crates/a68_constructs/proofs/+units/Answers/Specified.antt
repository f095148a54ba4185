-- What conformity clauses have written.
use Rattle.std.proofs.Common.{◌≡◌, ◌⊎◌, ℕ, Bool, List, Option, ◌+◌, ◌-◌, ◌++◌, [], ◌∷◌, length, true, refl, sym, ◌∙◌, ap, subst, drop, take, get_or, arith, ◌<◌}
use Rattle.std.proofs.lemmas.List.{append-nil, length-append, nil_from_length, take_rest}
use Rattle.a68_annot.specs.declared.annotated.Annotated.{Annotated}
use Rattle.a68_code.specs.declared.does.Does.TheVariants as does
use Rattle.a68_elab.specs.Made as made
use Rattle.a68_elab.specs.Trees.{Specs, Tree, conformity, no_specs, spec}
use Rattle.a68_elab.specs.Made.{framed, trees_at, specs_of}
use Rattle.a68_elab.specs.Programs.{Seat, behind, one_if, specs_seated}
use Rattle.a68_emit.specs.Listing.{instr, stretch}
use Rattle.a68_code.specs.declared.code.Instr.{Instr}
use Rattle.a68_emit.specs.Writing.{ran_out, Writes}
use Rattle.a68_emit.specs.Numbers.{put_all}
use Rattle.a68_emit.specs.Views.{deeper, laid_of, seat_of, tree_of}
use Rattle.a68_emit.specs.declared.view.View.{View}
use Rattle.a68_constructs.proofs.Lying.{behind_lies, still_within}
use Rattle.a68_modes.specs.declared.shape.Shape.{Shape}
use Rattle.a68_constructs.proofs.Awaiting.{between-rest, front_as, out_within, put_none}
use Rattle.a68_constructs.proofs.Constructs.{rest_parts}
use Rattle.a68_constructs.specs.Endings.{laid_conformity, member_front, out_tree, tail_behind}
use Rattle.a68_parts.proofs.Between.{between-each}
use Rattle.a68_emit.proofs.Writing.{and_behind, had_not, is_written, nothing-written}
use Rattle.a68_constructs.proofs.+units.Goals as goal
use Rattle.std.specs.Prelude.{not, false, IfSome, if◌then◌else◌}
use Rattle.a68_acts.specs.Operations.{is_union}
use Rattle.a68_modes.specs.Nodes.{shape_at, is_void}
use Rattle.a68_base.specs.declared.refusal.Stop.{Stop}
use Rattle.a68_acts.specs.Members.{members_of}
use Rattle.a68_constructs.proofs.Conforming.{SpecsAhead, conform_front_is, conform_is, member_writes, members_seated, spec_ends, spec_writes, specs_on, tagged_writes, wholes_seated}
use Rattle.a68_emit.proofs.Taking.{specs_end, specs_more}
use Rattle.a68_emit.specs.Conforming.{IsUnaimed, spec_body, spec_jumps, takes_of}
use Rattle.a68_emit.specs.Stretches.{member_places, wholes_of}
use mir.Val.{bool_byte}

kept_of : (b : Bool) (n : ℕ) → n ≡ bool_byte b → n ≡ (if b then 1 else 0)
kept_of true n e = e
kept_of false n e = e

pub conformity::write_specified-returns-then-not-tagged : goal.conformity::write_specified-returns-then-not-tagged
conformity::write_specified-returns-then-not-tagged t c =
    let v = c.args.program.now in
    let part = behind c.args.id (laid_of (deeper (one_if c.args.tagged) v)) c.args.part in
    let w0 = c.args.out.now in
    let w1 = c.emit.new.self in
    let w2 = c.write_part.new.out in
    let inner : c.deeper-within.result ≡ deeper (one_if c.args.tagged) v = c.deeper-within.ensures.view ∙ ap (λ (n : ℕ). deeper n v) (kept_of c.args.tagged c.from.result c.from.ensures) in
    let written : Writes w1.stop w2.stop w1.list w2.list (stretch part (length w1.list)) =
    subst (λ (w : View). Writes w1.stop w2.stop w1.list w2.list (stretch (behind c.args.id (laid_of w) c.args.part) (length w1.list))) inner c.write_part.ensures in
    let all : Writes w0.stop w2.stop w0.list w2.list (spec_body c.args.place c.args.yields false part (length w0.list)) =
    and_behind w0.stop w1.stop w2.stop w0.list w1.list w2.list (instr c.args.place does.Drop ∷ []) (λ n. stretch part n) c.emit.ensures written in
    subst (λ (b : Bool). Writes w0.stop w2.stop w0.list w2.list (spec_body c.args.place c.args.yields b part (length w0.list))) (sym c.if-not-tagged.true) all

pub conformity::write_specified-returns : goal.conformity::write_specified-returns
conformity::write_specified-returns t c =
    let v = c.args.program.now in
    let part = behind c.args.id (laid_of (deeper (one_if c.args.tagged) v)) c.args.part in
    let w0 = c.args.out.now in
    let w1 = c.emit-2.new.self in
    let w2 = c.emit-3.new.self in
    let w3 = c.write_part-2.new.out in
    let w4 = c.emit-4.new.self in
    let inner : c.deeper-within.result ≡ deeper (one_if c.args.tagged) v = c.deeper-within.ensures.view ∙ ap (λ (n : ℕ). deeper n v) (kept_of c.args.tagged c.from.result c.from.ensures) in
    let written : Writes w2.stop w3.stop w2.list w3.list (stretch part (length w2.list)) =
    subst (λ (w : View). Writes w2.stop w3.stop w2.list w3.list (stretch (behind c.args.id (laid_of w) c.args.part) (length w2.list))) inner c.write_part-2.ensures in
    let all : Writes w0.stop w4.stop w0.list w4.list (spec_body c.args.place c.args.yields true part (length w0.list)) =
    tagged_writes w0.stop w1.stop w2.stop w3.stop w4.stop w0.list w1.list w2.list w3.list w4.list c.args.place c.from-2.result c.args.yields part (kept_of c.args.yields c.from-2.result c.from-2.ensures)
    c.emit-2.ensures c.emit-3.ensures written c.emit-4.ensures in
    subst (λ (b : Bool). Writes w0.stop w4.stop w0.list w4.list (spec_body c.args.place c.args.yields b part (length w0.list))) (sym c.if-not-tagged.false) all

pub conformity::write_spec-returns-clause-writes : goal.conformity::write_spec-returns-clause-writes
conformity::write_spec-returns-clause-writes t c =
    let w0 = c.args.out.now in
    let w1 = c.keep.new.out in
    let w2 = c.write_specified.new.out in
    let w3 = c.keep-2.new.out in
    let w4 = c.emit.new.self in
    spec_writes w0.stop w1.stop w2.stop w3.stop w4.stop w0.list w1.list w2.list w3.list w4.list c.args.place c.args.yields c.args.tagged (behind c.args.id (laid_of (deeper (one_if c.args.tagged) c.args.program.now)) c.args.part)
    c.keep.ensures.list c.keep.ensures.stop c.write_specified.ensures c.keep-2.ensures.list c.keep-2.ensures.stop c.emit.ensures

pub conformity::write_spec-returns-clause-jumps : goal.conformity::write_spec-returns-clause-jumps
conformity::write_spec-returns-clause-jumps t c = λ none.
    let w0 = c.args.out.now in
    let w1 = c.keep.new.out in
    let w2 = c.write_specified.new.out in
    let w3 = c.keep-2.new.out in
    let w4 = c.emit.new.self in
    let end = spec_ends w1.stop w2.stop w3.stop w4.stop w0.list w1.list w2.list w3.list w4.list c.args.place c.args.yields c.args.tagged (behind c.args.id (laid_of (deeper (one_if c.args.tagged) c.args.program.now)) c.args.part)
    c.keep.ensures.list c.write_specified.ensures c.keep-2.ensures.stop c.emit.ensures none in
    c.keep-2.ensures.kept end.0 ∙ ap (λ (k : ℕ). c.args.jumps.now.items ++ k ∷ []) (c.len-jump.ensures.long ∙ end.1)

pub conformity::write_specs-write_spec-requires : goal.conformity::write_specs-write_spec-requires
conformity::write_specs-write_spec-requires t c =
    let b = between-each c.args.id (length c.args.program.now.of.now.tree.nodes) (c.loop-at.at + 1) c.args.specs.now c.requires.between (omega arith) in
    let below = b.0 in
    (omega arith, b)

pub conformity::write_specs-has_tag-tagged-requires : goal.conformity::write_specs-has_tag-tagged-requires
conformity::write_specs-has_tag-tagged-requires t c = (between-each c.args.id (length c.args.program.now.of.now.tree.nodes) c.loop-at.at c.args.specs.now c.requires.between (omega arith)).1

-- no specification is left
all_ahead : (s : Seat) (a : Annotated) (f : ℕ → Tree) (ids : List ℕ) (at place : ℕ) (yields : Bool) (starts jumps : List ℕ) (s0 s1 : Option Stop) (l0 l1 : List Instr) → (at + 1 < length ids → ⊥)
    → SpecsAhead place yields (specs_seated s (specs_of a f ids)) (specs_seated s (specs_of a f (drop at ids))) starts jumps s0 s1 l0 l1
    → SpecsAhead place yields (specs_seated s (specs_of a f ids)) no_specs starts jumps s0 s1 l0 l1
all_ahead s a f ids at place yields starts jumps s0 s1 l0 l1 none ahead =
    subst (λ (z : Specs). SpecsAhead place yields (specs_seated s (specs_of a f ids)) (specs_seated s z) starts jumps s0 s1 l0 l1) (specs_end a f ids at none) ahead

pub conformity::write_specs-returns-clause-writes : goal.conformity::write_specs-returns-clause-writes
conformity::write_specs-returns-clause-writes t c =
    let w1 = c.loop-at.out in
    let none : c.loop-at.at + 1 < length c.args.specs.now → ⊥ = λ less. absurd (omega arith) in
    (all_ahead (seat_of c.args.program.now) c.args.program.now.of.now (behind c.args.id (tree_of c.args.program.now)) c.args.specs.now c.loop-at.at c.args.place c.args.yields c.loop-at.starts.items c.loop-at.jumps.items
    c.args.out.now.stop w1.stop c.args.out.now.list w1.list none c.loop-at.invariant.1).writes w1.stop w1.list (nothing-written w1.stop w1.list)

pub conformity::write_specs-returns-clause-starts : goal.conformity::write_specs-returns-clause-starts
conformity::write_specs-returns-clause-starts t c = λ is.
    let w1 = c.loop-at.out in
    let none : c.loop-at.at + 1 < length c.args.specs.now → ⊥ = λ less. absurd (omega arith) in
    sym (append-nil c.loop-at.starts.items)
    ∙ (all_ahead (seat_of c.args.program.now) c.args.program.now.of.now (behind c.args.id (tree_of c.args.program.now)) c.args.specs.now c.loop-at.at c.args.place c.args.yields c.loop-at.starts.items c.loop-at.jumps.items
    c.args.out.now.stop w1.stop c.args.out.now.list w1.list none c.loop-at.invariant.1).starts_are is

pub conformity::write_specs-returns-clause-jumps : goal.conformity::write_specs-returns-clause-jumps
conformity::write_specs-returns-clause-jumps t c = λ is.
    let w1 = c.loop-at.out in
    let none : c.loop-at.at + 1 < length c.args.specs.now → ⊥ = λ less. absurd (omega arith) in
    sym (append-nil c.loop-at.jumps.items)
    ∙ (all_ahead (seat_of c.args.program.now) c.args.program.now.of.now (behind c.args.id (tree_of c.args.program.now)) c.args.specs.now c.loop-at.at c.args.place c.args.yields c.loop-at.starts.items c.loop-at.jumps.items
    c.args.out.now.stop w1.stop c.args.out.now.list w1.list none c.loop-at.invariant.1).jumps_are is

pub conformity::write_specs-loop-at-preserved : goal.conformity::write_specs-loop-at-preserved
conformity::write_specs-loop-at-preserved t c =
    let v = c.args.program.now in
    let a = v.of.now in
    let f = behind c.args.id (tree_of v) in
    let ids = c.args.specs.now in
    let i = c.loop-at.at in
    let s = get_or ids i 0 in
    let m = made.spec_mode a (made.parts_at a s) in
    let w0 = c.args.out.now in
    let w1 = c.loop-at.out in
    let w2 = c.write_spec.new.out in
    let starts = c.loop-at.starts.items in
    let jumps = c.loop-at.jumps.items in
    let seat = seat_of v in
    let whole = specs_seated seat (specs_of a f ids) in
    let behind_it = specs_of a f (drop (i + 2) ids) in
    let rest = specs_seated seat behind_it in
    let p = get_or ids (i + 1) 0 in
    let tagged = c.has_tag-tagged.result in
    let part = behind c.args.id (laid_of (deeper (one_if tagged) v)) p in
    let ahead : SpecsAhead c.args.place c.args.yields whole (specs_seated seat (specs_of a f (drop i ids))) starts jumps w0.stop w1.stop w0.list w1.list = c.loop-at.invariant.1 in
    let more : specs_of a f (drop i ids) ≡ spec (takes_of (shape_at a.modes m) m) tagged (is_union (shape_at a.modes m)) (f p) behind_it =
    specs_more a f ids i c.loop-at-test.true ∙ ap (λ (b : Bool). spec (takes_of (shape_at a.modes m) m) b (is_union (shape_at a.modes m)) (f p) behind_it) (sym c.has_tag-tagged.ensures) in
    let next : specs_seated seat (specs_of a f (drop i ids)) ≡ spec (takes_of (shape_at a.modes m) m) tagged (is_union (shape_at a.modes m)) part rest =
    ap (λ (z : Specs). specs_seated seat z) more ∙ ap (λ (u : Tree). spec (takes_of (shape_at a.modes m) m) tagged (is_union (shape_at a.modes m)) u rest) (behind_lies (deeper (one_if tagged) v) c.args.id p) in
    let before = subst (λ (z : Specs). SpecsAhead c.args.place c.args.yields whole z starts jumps w0.stop w1.stop w0.list w1.list) next ahead in (
      omega arith,
      specs_on c.args.place c.args.yields whole rest _ c.has_tag-tagged.result _ part starts c.write_spec.new.starts.items jumps c.write_spec.new.jumps.items
          w0.stop w1.stop w2.stop w0.list w1.list w2.list before c.write_spec.ensures.writes c.write_spec.ensures.starts c.write_spec.ensures.jumps,
    )

pub conformity::conform-returns-clause-writes : goal.conformity::conform-returns-clause-writes
conformity::conform-returns-clause-writes t c =
    let v = c.args.program.now in
    let a = v.of.now in
    let f = behind c.args.id (tree_of v) in
    let plain = specs_of a f c.args.specs.now in
    let specs = specs_seated (seat_of v) plain in
    let union = c.args.union in
    let yields = c.args.yields in
    let w0 = c.args.out.now in
    let w1 = c.emit.new.self in
    let w2 = c.write_specs.new.out in
    let w3 = c.aim_member.new.out in
    let member = c.len-member.result in
    let none = c.len-none.result in
    let starts = c.write_specs.new.starts.items in
    let found = c.members_of-members.result.now in
    let members_are : found ≡ members_of (shape_at a.modes union) = c.members_of-members.ensures ∙ ap (λ (ms : List Shape). members_of (shape_at ms union)) c.modes.ensures in
    let each : ((w3.list ≡ put_all w2.list member 0 (member_places found specs starts none)) × (w3.stop ≡ w2.stop)) ⊎ (w3.stop ≡ ran_out w2.stop) =
    subst (λ (l : List ℕ). ((w3.list ≡ put_all w2.list member 0 l) × (w3.stop ≡ w2.stop)) ⊎ (w3.stop ≡ ran_out w2.stop)) (sym (members_seated (seat_of v) found plain starts none))
    (subst (λ (ps : List ℕ). ((w3.list ≡ put_all w2.list member 0 (member_places found plain ps none)) × (w3.stop ≡ w2.stop)) ⊎ (w3.stop ≡ ran_out w2.stop)) c.deref.ensures.value c.aim_member.ensures) in
    let unaimed : IsUnaimed union (length found + 1) (wholes_of found specs) c.in-Ok.does =
    subst (λ (l : List ℕ). IsUnaimed union (length found + 1) l c.in-Ok.does) (sym (wholes_seated (seat_of v) found plain)) c.in-Ok.ensures in
    let all = member_writes w0.stop w1.stop w2.stop w3.stop w0.list w1.list w2.list w3.list c.args.place union member none found starts yields specs c.in-Ok.does
    c.len-member.ensures.long unaimed c.emit.ensures c.write_specs.ensures.writes c.write_specs.ensures.starts c.len-none.ensures.long each in
    subst (λ (ms : List ℕ). Writes w0.stop w3.stop w0.list w3.list (member_front c.args.place union ms yields specs (length w0.list))) members_are all

pub conformity::conform-returns-clause-jumps : goal.conformity::conform-returns-clause-jumps
conformity::conform-returns-clause-jumps t c = λ none.
    let v = c.args.program.now in
    let f = behind c.args.id (tree_of v) in
    let specs = specs_seated (seat_of v) (specs_of v.of.now f c.args.specs.now) in
    let w0 = c.args.out.now in
    let w1 = c.emit.new.self in
    let w2 = c.write_specs.new.out in
    let w3 = c.aim_member.new.out in
    let none2 = put_none w2.stop w3.stop w2.list w3.list _ c.aim_member.ensures none in
    let none1 = had_not w1.stop w2.stop w1.list w2.list _ c.write_specs.ensures.writes none2 in
    let long = ap (λ (l : List Instr). length l) (is_written w0.stop w1.stop w0.list w1.list _ c.emit.ensures none1) ∙ length-append w0.list _ in
    c.write_specs.ensures.jumps none2 ∙ ap (λ (k : ℕ). spec_jumps specs k) long

pub conformity::conform_front-returns : goal.conformity::conform_front-returns
conformity::conform_front-returns t c =
    let v = c.args.program.now in
    let a = v.of.now in
    let id = c.args.id in
    let node = c.node.result.now in
    let note = c.note.result.now in
    let place = c.args.place in
    let goal_mode = c.args.goal in
    let yields = not (is_void (shape_at a.modes goal_mode)) in
    let ids = c.args.parts.now in
    let enquiry = get_or ids 0 0 in
    let specs_in : List ℕ → Specs = λ units. specs_seated (seat_of v) (specs_of a (behind id (tree_of v)) units) in
    let units = c.before_out-specs.result.now in
    let tail = tail_behind a id place goal_mode ids in
    let below = (between-each id (length a.tree.nodes) 0 ids c.requires.between (omega arith)).0 in
    let q = made.phrases_of node.span.from (trees_at (behind enquiry (laid_of v)) c.parts-phrases.result.now) in
    let rest = take (length ids - 1) (drop 1 ids) in
    let rest_is : rest ≡ drop 1 ids = take_rest ids 1 in
    let units_are : units ≡ made.before_out a rest = c.before_out-specs.ensures.parts ∙ ap (λ (x : Annotated). made.before_out x rest) c.annotated.ensures in
    let other_is : tail.other ≡ made.out_of a rest = ap (made.out_of a) (sym rest_is) in
    let other_within : IfSome tail.other (λ p. (id < p) × (p < length a.tree.nodes)) = out_within a id (length a.tree.nodes) (drop 1 ids) (between-rest id (length a.tree.nodes) ids c.requires.between) in
    let union = made.goal_at a enquiry in
    let members = members_of (shape_at a.modes union) in
    let specs = specs_in units in
    let out = out_tree (laid_of v) tail in
    let same = conform_is a (laid_of v) specs_in id place goal_mode yields enquiry rest c.parts-phrases.result.now units tail.other node note c.node.ensures.is c.note.ensures c.parts-phrases.ensures.is
    c.parts-phrases.ensures.behind below units_are other_is other_within in
    let whole = ap (λ (l : List ℕ). laid_conformity v id place goal_mode l) (sym (rest_parts ids c.requires.some)) in
    let void = ap not c.is_void-yields.ensures in
    let w1 = c.enquire.new.out in
    let w2 = c.conform.new.out in
    let written : Writes w1.stop w2.stop w1.list w2.list (member_front place union members (not c.is_void-yields.result) specs (length w1.list)) =
    subst (λ (u : ℕ). Writes w1.stop w2.stop w1.list w2.list (member_front place u (members_of (shape_at a.modes u)) (not c.is_void-yields.result) specs (length w1.list))) c.goal_at-union.ensures c.conform.ensures.writes in
    front_as _ _ _ _ _ _ _ _ _ (ap (λ (b : Bool). framed node.span.from place note.slots b (conformity place union members b q specs out)) void ∙ same ∙ whole) refl
    (conform_front_is c.args.out.now.stop w1.stop w2.stop c.args.out.now.list w1.list w2.list _ node.span.from union members q specs out c.enquire.ensures written c.conform.ensures.jumps)

pub conformity::conformity-choice_chain-requires : goal.conformity::conformity-choice_chain-requires
conformity::conformity-choice_chain-requires t c = (omega arith, (omega arith, c.requires))

pub conformity::conformity-returns-then-parts-eq0 : goal.conformity::conformity-returns-then-parts-eq0
conformity::conformity-returns-then-parts-eq0 t c =
    rw (nil_from_length c.args.parts.now (omega arith)) c.meaningless.ensures

pub conformity::conformity-returns : goal.conformity::conformity-returns
conformity::conformity-returns t c =
    c.choice_chain.ensures

pub conformity::write_specified-write_part-requires : goal.conformity::write_specified-write_part-requires
conformity::write_specified-write_part-requires t c =
    let alike = c.deeper-within.ensures.alike in
    let nodes = alike.nodes in
    let left = alike.left in
    let below = c.requires.0 in
    let less = c.requires.1 in
    (omega arith, still_within c.args.program.now c.deeper-within.result c.args.id c.args.part alike c.requires)

pub conformity::write_specified-write_part-requires-2 : goal.conformity::write_specified-write_part-requires-2
conformity::write_specified-write_part-requires-2 t c =
    let alike = c.deeper-within.ensures.alike in
    let nodes = alike.nodes in
    let left = alike.left in
    let below = c.requires.0 in
    let less = c.requires.1 in
    (omega arith, still_within c.args.program.now c.deeper-within.result c.args.id c.args.part alike c.requires)

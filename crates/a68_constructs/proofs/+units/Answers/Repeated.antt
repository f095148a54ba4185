-- What loops have written.
use Rattle.std.proofs.Common.{◌≡◌, ℕ, zero, suc, Bool, true, false, nat_lt, None, List, ◌+◌, ◌++◌, [], ◌∷◌, length, refl, sym, ◌∙◌, ap, subst, arith, ◌<◌, Some, length-append}
use Rattle.std.specs.Option.{is_some, option_map, option_map_or}
use Rattle.std.proofs.lemmas.Option.{same_Some}
use Rattle.a68_annot.specs.declared.annotated.Annotated.{Annotated}
use Rattle.a68_code.specs.declared.does.Does.TheVariants as does
use Rattle.a68_elab.specs.Made as made
use Rattle.a68_elab.specs.Trees.{Tree, Trees, Test, loop, while_in, depth_of, meaningless}
use Rattle.a68_elab.specs.Trees.{deeper as frames_of}
use Rattle.a68_elab.specs.Made.{trees_at}
use Rattle.a68_elab.specs.Programs.{all_seated, behind, one_if, test_seated}
use Rattle.a68_emit.specs.Listing.{instr, limits, opens, stretch, stretches, test_stretch}
use Rattle.a68_constructs.specs.Loops.{asked, unless_at}
use Rattle.a68_code.specs.declared.code.Instr.{Instr}
use Rattle.a68_emit.specs.Writing.{Writes}
use Rattle.a68_emit.specs.Views.{deeper, laid_of, lying, raised, seat_of, tree_of}
use Rattle.a68_emit.specs.declared.view.View.{View}
use Rattle.a68_constructs.proofs.Lying.{control_lies, controls_lie, enquiry_lies, still_between, still_some, test_depth}
use Rattle.std.proofs.lemmas.Bool.Decides.{nat_tests}
use mir.Val.{bool_byte}
use Rattle.a68_constructs.proofs.Constructs.{control_list, three_list, phrases_whole, asked_whole, enquiry_there, unless_stands, test_is}
use Rattle.a68_parts.proofs.Between.{between-above}
use Rattle.a68_parts.specs.Loops.{AreWithin}
use Rattle.a68_constructs.proofs.Jumping.{loop_all}
use Rattle.a68_emit.proofs.Writing.{and_behind, had_not, is_written, writes-as}
use Rattle.a68_constructs.proofs.+units.Goals as goal
use Rattle.std.specs.Prelude.{pos}
use Rattle.a68_acts.specs.Operations.{constant, skip}
use Rattle.a68_tree.specs.declared.node.Node.{Node}
use Rattle.a68_values.specs.Content.{plain}
use Rattle.a68_values.specs.declared.plain.Plain.TheVariants as value

-- the frame of WHILE
one_frame : (slots n : ℕ) → n ≡ bool_byte (nat_lt 0 slots) → n ≡ frames_of slots 0
one_frame zero n e = let none : nat_lt 0 0 ≡ false = grind (arith, nat_tests) in e ∙ ap bool_byte none
one_frame (suc k) n e = let some : nat_lt 0 (suc k) ≡ true = grind (arith, nat_tests) in e ∙ ap bool_byte some

one_counter : (b : Bool) (n : ℕ) → n ≡ bool_byte b → n ≡ one_if b
one_counter true n e = e
one_counter false n e = e

pub turns::count-returns : goal.turns::count-returns
turns::count-returns t c =
    let v = c.args.program.now in
    let id = c.args.id in
    let v1 = raised v in
    let v2 = raised v1 in
    let place = c.args.place in
    let l = c.args.parts.now in
    let one = constant (plain (value.Int (pos 1))) in
    let x = option_map_or (behind id (laid_of v)) l.from (made.leaf place one) in
    let y = option_map_or (behind id (laid_of v1)) l.by (made.leaf place one) in
    let z = option_map_or (behind id (laid_of v2)) l.to (made.leaf place (skip 1)) in
    let over_from = c.raised-over_from.ensures.view in
    let over_by : c.raised-over_by.result ≡ v2 = c.raised-over_by.ensures.view ∙ ap raised over_from in
    let w0 = c.args.out.now in
    let w1 = c.control.new.out in
    let w2 = c.control-2.new.out in
    let w3 = c.control-3.new.out in
    let w4 = c.limit.new.out in
    let w5 = c.emit.new.self in
    let lim = limits (is_some l.to) place in
    let last = instr place does.Counter ∷ [] in
    let from : Writes w0.stop w1.stop w0.list w1.list (stretch x (length w0.list)) =
    writes-as w0.stop w1.stop w0.list w1.list _ _ (control_list (behind id (laid_of v)) place (length w0.list) l.from one) (rw c.push_int.ensures at c.control.ensures) in
    let by : Writes w1.stop w2.stop w1.list w2.list (stretch y (length w1.list)) =
    writes-as w1.stop w2.stop w1.list w2.list _ _ (control_list (behind id (laid_of v1)) place (length w1.list) l.by one) (rw (over_from, c.push_int-2.ensures) at c.control-2.ensures) in
    let to : Writes w2.stop w3.stop w2.list w3.list (stretch z (length w2.list)) =
    writes-as w2.stop w3.stop w2.list w3.list _ _ (control_list (behind id (laid_of v2)) place (length w2.list) l.to (skip 1)) (rw over_by at c.control-3.ensures) in
    let limit : Writes w3.stop w4.stop w3.list w4.list lim = rw c.is_some.ensures at c.limit.ensures in
    let w35 = and_behind w3.stop w4.stop w5.stop w3.list w4.list w5.list lim (λ n. last) limit c.emit.ensures in
    let w25 = and_behind w2.stop w3.stop w5.stop w2.list w3.list w5.list (stretch z (length w2.list)) (λ n. lim ++ last) to w35 in
    let w15 = and_behind w1.stop w2.stop w5.stop w1.list w2.list w5.list (stretch y (length w1.list)) (λ n. stretch z n ++ (lim ++ last)) by w25 in
    let w05 = and_behind w0.stop w1.stop w5.stop w0.list w1.list w5.list (stretch x (length w0.list)) (λ n. stretch y n ++ (stretch z (n + length (stretch y n)) ++ (lim ++ last))) from w15 in
    let whole = writes-as w0.stop w5.stop w0.list w5.list _ _ (three_list x y z (length w0.list) (lim ++ last)) w05 in
    subst (λ (ts : Trees). Writes w0.stop w5.stop w0.list w5.list (stretches ts (length w0.list) ++ (lim ++ last))) (sym (controls_lie v id place l.from l.by l.to)) whole

pub turns::enquire-returns : goal.turns::enquire-returns
turns::enquire-returns t c =
    let f = behind c.args.id (laid_of c.args.program.now) in
    let place = c.args.place in
    let ts = trees_at f c.args.parts.now in
    let w0 = c.args.out.now in
    let w1 = c.open.new.out in
    let w2 = c.all.new.out in
    let begins = opens c.args.slots place in
    writes-as w0.stop w2.stop w0.list w2.list _ _ (ap (λ (z : List Instr). begins ++ z) (phrases_whole place (length w0.list + length begins) ts))
    (and_behind w0.stop w1.stop w2.stop w0.list w1.list w2.list begins (λ n. stretches ts n) c.open.ensures c.all.ensures)

pub turns::ask-enquire-requires : goal.turns::ask-enquire-requires
turns::ask-enquire-requires t c =
    let there : (c.args.id < c.in-Some.clause) × (c.in-Some.clause < length c.args.program.now.of.now.tree.nodes) = rw c.in-Some.is at c.requires in
    let alike = c.deeper-within.ensures.alike in
    let nodes = alike.nodes in
    let left = alike.left in (
      omega arith,
      still_between c.args.program.now c.deeper-within.result c.args.id c.parts-parts.result.now alike
          (between-above c.args.id c.in-Some.clause (length c.args.program.now.of.now.tree.nodes) c.parts-parts.result.now there.0 c.parts-parts.ensures.behind),
    )

pub turns::ask-returns-in-Some : goal.turns::ask-returns-in-Some
turns::ask-returns-in-Some t c =
    let v = c.args.program.now in
    let a = v.of.now in
    let f = behind c.args.id (tree_of v) in
    let node = c.node.result.now in
    let slots = c.note.result.now.slots in
    let ids = c.parts-parts.result.now in
    let w0 = c.args.out.now in
    let w1 = c.enquire.new.out in
    let same : node.parts ≡ ids = same_Some node.parts ids (sym (ap (option_map (λ (n : Node). n.parts)) c.node.ensures.is) ∙ c.parts-parts.ensures.is) in
    let inner : c.deeper-within.result ≡ deeper (frames_of slots 0) v = c.deeper-within.ensures.view ∙ ap (λ (n : ℕ). deeper n v) (one_frame slots c.from.result c.from.ensures) in
    let seen : Writes w0.stop w1.stop w0.list w1.list (asked (while_in node.span.from slots (made.phrases_of node.span.from (trees_at (behind c.args.id (laid_of (deeper (frames_of slots 0) v))) ids))) (length w0.list)) =
    subst (λ (w : View). Writes w0.stop w1.stop w0.list w1.list (asked (while_in node.span.from slots (made.phrases_of node.span.from (trees_at (behind c.args.id (laid_of w)) ids))) (length w0.list))) inner c.enquire.ensures in
    let lies : Writes w0.stop w1.stop w0.list w1.list (asked (test_seated (seat_of v) (while_in node.span.from slots (made.phrases_of node.span.from (trees_at f ids)))) (length w0.list)) =
    subst (λ (u : Tree). Writes w0.stop w1.stop w0.list w1.list (asked (while_in node.span.from slots u) (length w0.list))) (sym (enquiry_lies v c.args.id node.span.from slots ids)) seen in
    rw (c.in-Some.is, c.node.ensures.is, c.note.ensures, same) lies

pub turns::test-returns-clause-writes : goal.turns::test-returns-clause-writes
turns::test-returns-clause-writes t c =
    let v = c.args.program.now in
    let a = v.of.now in
    let s = seat_of v in
    let f = behind c.args.id (tree_of v) in
    let place = c.args.place in
    let clause = made.only_id c.parts.result.now in
    let enquiry = test_seated s (made.enquiry_at a f clause) in
    let w0 = c.args.out.now in
    let w1 = c.ask.new.out in
    let w2 = c.emit.new.self in
    let first : Writes w0.stop w1.stop w0.list w1.list (asked enquiry (length w0.list)) = rw c.only_id.ensures.only at c.ask.ensures in
    let here = test_is a f c.args.test c.in-Some.part c.parts.result.now c.in-Some.is c.parts.ensures.is in
    writes-as w0.stop w2.stop w0.list w2.list _ _ (asked_whole place (length w0.list) enquiry (enquiry_there s a f clause) ∙ ap (λ (u : Test). test_stretch place 0 (test_seated s u) (length w0.list)) (sym here))
    (and_behind w0.stop w1.stop w2.stop w0.list w1.list w2.list (asked enquiry (length w0.list)) (λ n. instr place (does.Unless 0) ∷ []) first c.emit.ensures)

pub turns::test-returns-clause-unless : goal.turns::test-returns-clause-unless
turns::test-returns-clause-unless t c = λ none.
    let v = c.args.program.now in
    let a = v.of.now in
    let s = seat_of v in
    let f = behind c.args.id (tree_of v) in
    let clause = made.only_id c.parts.result.now in
    let enquiry = test_seated s (made.enquiry_at a f clause) in
    let w0 = c.args.out.now in
    let w1 = c.ask.new.out in
    let at = length w0.list in
    let w2 = c.emit.new.self in
    let what = asked enquiry at in
    let first : Writes w0.stop w1.stop w0.list w1.list what = rw c.only_id.ensures.only at c.ask.ensures in
    let here = test_is a f c.args.test c.in-Some.part c.parts.result.now c.in-Some.is c.parts.ensures.is in
    let list = is_written w0.stop w1.stop w0.list w1.list what first (had_not w1.stop w2.stop w1.list w2.list _ c.emit.ensures none) in
    let long : c.len-unless.result ≡ at + length what = c.len-unless.ensures.long ∙ ap (λ (l : List Instr). length l) list ∙ length-append w0.list what in
    ap (λ n. Some n) long ∙ unless_stands at enquiry (enquiry_there s a f clause) ∙ ap (λ (u : Test). unless_at (test_seated s u) at) (sym here)

pub turns::repeat-returns : goal.turns::repeat-returns
turns::repeat-returns t c =
    let v = c.args.program.now in
    let a = v.of.now in
    let id = c.args.id in
    let f = behind id (tree_of v) in
    let l = c.loop_parts-parts.result in
    let turn = raised v in
    let counting = deeper (one_if l.counts) turn in
    let frames = depth_of l.counts (made.test_of a f l.test) in
    let inner = deeper frames turn in
    let controls = all_seated (seat_of v) true (made.controls_of f c.args.place l.from l.by l.to) in
    let test = test_seated (seat_of counting) (made.test_of a f l.test) in
    let body = option_map_or (behind id (laid_of inner)) l.body meaningless in
    let w0 = c.args.out.now in
    let w1 = c.count.new.out in
    let w2 = c.loop_turn.new.out in
    let w3 = c.test-unless.new.out in
    let w4 = c.body.new.out in
    let w5 = c.leave_frames.new.out in
    let w6 = c.patch.new.self in
    let w7 = c.patch_some.new.self in
    let w8 = c.emit.new.self in
    let w9 = c.emit-2.new.self in
    let w10 = c.leave_frames-2.new.out in
    let w11 = c.emit-3.new.self in
    let deep = c.depth-frames.ensures.frames f in
    let seen : c.deeper-counted.result ≡ counting = c.deeper-counted.ensures.view ∙ ap (λ (n : ℕ). deeper n c.raised-turn.result) (one_counter l.counts c.from.result c.from.ensures) ∙ ap (λ (w : View). deeper (one_if l.counts) w) c.raised-turn.ensures.view in
    let within : c.deeper.result ≡ inner = c.deeper.ensures.view ∙ ap (λ (n : ℕ). deeper n c.raised-turn.result) deep ∙ ap (λ (w : View). deeper frames w) c.raised-turn.ensures.view in
    let asks : Writes w2.stop w3.stop w2.list w3.list (test_stretch c.args.place 0 test (length w2.list)) =
    subst (λ (w : View). Writes w2.stop w3.stop w2.list w3.list (test_stretch c.args.place 0 (test_seated (seat_of w) (made.test_of w.of.now (behind id (tree_of w)) l.test)) (length w2.list))) seen c.test-unless.ensures.writes in
    let unless : w3.stop ≡ None → c.test-unless.result ≡ unless_at test (length w2.list) =
    subst (λ (w : View). w3.stop ≡ None → c.test-unless.result ≡ unless_at (test_seated (seat_of w) (made.test_of w.of.now (behind id (tree_of w)) l.test)) (length w2.list)) seen c.test-unless.ensures.unless in
    let goes : Writes w3.stop w4.stop w3.list w4.list (stretch body (length w3.list)) =
    subst (λ (w : View). Writes w3.stop w4.stop w3.list w4.list (stretch (option_map_or (behind id (laid_of w)) l.body meaningless) (length w3.list))) within c.body.ensures in
    let all = loop_all w0.stop w1.stop w2.stop w3.stop w4.stop w5.stop w6.stop w7.stop w8.stop w9.stop w10.stop w11.stop
    w0.list w1.list w2.list w3.list w4.list w5.list w6.list w7.list w8.list w9.list w10.list w11.list
    c.args.place controls (is_some l.to) l.counts test body
    c.len-step.result (c.len-quit.result + 2) (c.len-quit.result + 2 + c.depth-frames.result) c.depth-frames.result c.test-unless.result
    c.count.ensures c.len-step.ensures.long c.loop_turn.ensures asks unless goes (deep ∙ sym (test_depth (seat_of counting) l.counts (made.test_of a f l.test))) c.leave_frames.ensures
    (ap (λ n. n + 2) c.len-quit.ensures.long) refl c.patch.ensures.list c.patch.ensures.stop c.patch_some.ensures.list c.patch_some.ensures.stop
    c.emit.ensures c.emit-2.ensures c.leave_frames-2.ensures c.emit-3.ensures in
    let is : made.loop_of a f c.args.place c.args.parts.now ≡ made.loop_by a f c.args.place l.counts l.from l.by l.to l.test l.body =
    subst (λ (x : Annotated). made.loop_of x f c.args.place c.args.parts.now ≡ made.loop_by x f c.args.place l.counts l.from l.by l.to l.test l.body) c.annotated.ensures
    (c.loop_parts-parts.ensures.is f c.args.place) in
    let lies : lying v (made.loop_by a f c.args.place l.counts l.from l.by l.to l.test l.body) ≡ loop c.args.place controls (is_some l.to) l.counts test body =
    ap (λ (u : Tree). loop c.args.place controls (is_some l.to) l.counts test u) (control_lies inner id l.body meaningless refl) in
    subst (λ (u : Tree). Writes w0.stop w11.stop w0.list w11.list (stretch u (length w0.list))) (sym (ap (λ (u : Tree). lying v u) is ∙ lies)) all

pub turns::count-control-requires-2 : goal.turns::count-control-requires-2
turns::count-control-requires-2 t c =
    let alike = c.raised-over_from.ensures.alike in
    let nodes = alike.nodes in
    let left = alike.left in
    (omega arith, still_some c.args.program.now c.raised-over_from.result c.args.id c.args.parts.now.by alike c.requires.by)

pub turns::count-control-requires-3 : goal.turns::count-control-requires-3
turns::count-control-requires-3 t c =
    let first = c.raised-over_from.ensures.alike in
    let next = c.raised-over_by.ensures.alike in
    let nodes = first.nodes in
    let left = first.left in
    let more = next.nodes in
    let still = next.left in (
      omega arith,
      still_some c.raised-over_from.result c.raised-over_by.result c.args.id c.args.parts.now.to next
          (still_some c.args.program.now c.raised-over_from.result c.args.id c.args.parts.now.to first c.requires.to),
    )

pub turns::repeat-test-unless-requires : goal.turns::repeat-test-unless-requires
turns::repeat-test-unless-requires t c =
    let v = c.args.program.now in
    let l = c.loop_parts-parts.result in
    let first = c.raised-turn.ensures.alike in
    let next = c.deeper-counted.ensures.alike in
    let nodes = first.nodes in
    let left = first.left in
    let more = next.nodes in
    let still = next.left in
    let within : AreWithin c.args.id (length v.of.now.tree.nodes) l = subst (λ (x : Annotated). AreWithin c.args.id (length x.tree.nodes) l) c.annotated.ensures c.loop_parts-parts.ensures.within in
    (omega arith, still_some c.raised-turn.result c.deeper-counted.result c.args.id l.test next (still_some v c.raised-turn.result c.args.id l.test first within.test))

pub turns::repeat-body-requires : goal.turns::repeat-body-requires
turns::repeat-body-requires t c =
    let v = c.args.program.now in
    let l = c.loop_parts-parts.result in
    let first = c.raised-turn.ensures.alike in
    let next = c.deeper.ensures.alike in
    let nodes = first.nodes in
    let left = first.left in
    let more = next.nodes in
    let still = next.left in
    let within : AreWithin c.args.id (length v.of.now.tree.nodes) l = subst (λ (x : Annotated). AreWithin c.args.id (length x.tree.nodes) l) c.annotated.ensures c.loop_parts-parts.ensures.within in
    (omega arith, still_some c.raised-turn.result c.deeper.result c.args.id l.body next (still_some v c.raised-turn.result c.args.id l.body first within.body))

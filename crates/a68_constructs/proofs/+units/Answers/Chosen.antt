-- What choices by a truth value or a number have written.
use Rattle.std.proofs.lemmas.List.{length-append, nil_from_length, take_rest}
use Rattle.std.proofs.Common.{◌≡◌, None, refl, ◌⊎◌, ℕ, Bool, List, Option, ◌+◌, ◌-◌, ◌++◌, [], ◌∷◌, length, sym, ◌∙◌, ap, subst, drop, take, get_or, arith, ◌<◌}
use Rattle.std.specs.Option.{option_map_or}
use Rattle.a68_annot.specs.declared.annotated.Annotated.{Annotated}
use Rattle.a68_emit.proofs.Linking.{case_is, enquiry_is, link_behind}
use Rattle.a68_elab.specs.Made as made
use Rattle.a68_elab.specs.Trees.{Tree, cases, while_in, ◌and_tree◌, count}
use Rattle.a68_elab.specs.Made.{framed, trees_at}
use Rattle.a68_elab.specs.Programs.{behind}
use Rattle.a68_emit.specs.Listing.{stretch}
use Rattle.a68_constructs.specs.Loops.{asked}
use Rattle.a68_code.specs.declared.code.Instr.{Instr}
use Rattle.a68_emit.specs.Writing.{ran_out, Writes}
use Rattle.a68_emit.specs.Numbers.{arm_jumps, put_all}
use Rattle.a68_emit.specs.Views.{laid_of, lying, tree_of, within}
use Rattle.a68_emit.specs.declared.view.View.{View}
use Rattle.a68_constructs.proofs.Lying.{link_lies, still_between, still_some}
use Rattle.a68_constructs.proofs.Seen.{alike_on, alike_within, choice_lies, out_lies, seen_is_alike, within_is_alike}
use Rattle.a68_emit.specs.Chains.{enquiry_tree, Finishes, IsOpen, LinkIsWithin, TreeIsWritten, jump_of, link_list, link_tree, other_tree}
use Rattle.a68_emit.specs.declared.ends.Opened.{Opened}
use Rattle.a68_emit.proofs.Chaining.{open_more}
use Rattle.a68_constructs.proofs.Constructs.{rest_parts, count_trees}
use Rattle.a68_parts.proofs.Between.{between-each}
use Rattle.a68_constructs.proofs.Awaiting.{between-rest, choice_is, choice_some, front_as, front_is, front_writes, goes_as, goes_further, goes_on, goes_same, goes_to, node_parts, out_within, put_none}
use Rattle.a68_constructs.proofs.Numbering.{ArmsAhead, arm_end, arm_writes, arms_on}
use Rattle.a68_constructs.specs.Endings.{AllEnd, IsSeenAlike, enquiry_slots, TailIsWithin, by_mode, choice_tree, laid_choice, out_tree, tail_behind}
use Rattle.a68_constructs.specs.declared.choices.Tail.{Tail}
use Rattle.a68_constructs.specs.declared.endings.Ending.{Ending}
use Rattle.a68_constructs.proofs.Jumping.{link_all, link_jump}
use Rattle.a68_emit.proofs.Writing.{had_not, is_written, drop_next}
use Rattle.a68_constructs.proofs.+units.Goals as goal
use Rattle.std.specs.Prelude.{not, IfSome}
use Rattle.a68_modes.specs.Nodes.{shape_at, is_void}

-- the phrases of an enquiry, among those behind it and among all
pub choices::write_link-enquire-requires : goal.choices::write_link-enquire-requires
choices::write_link-enquire-requires t c = let below = c.requires.enquiry in (omega arith, c.parts-phrases.ensures.behind)

pub choices::write_link-returns-clause-writes : goal.choices::write_link-returns-clause-writes
choices::write_link-returns-clause-writes t c =
    let v = c.args.program.now in
    let a = v.of.now in
    let l = c.args.link.now in
    let e = enquiry_tree a (laid_of v) l in
    let w0 = c.args.out.now in
    let w1 = c.enquire.new.out in
    let first : Writes w0.stop w1.stop w0.list w1.list (asked (while_in l.at l.slots e) (length w0.list)) =
    subst (λ (u : Tree). Writes w0.stop w1.stop w0.list w1.list (asked (while_in l.at l.slots u) (length w0.list)))
    (enquiry_is a (laid_of v) l.enquiry l.at c.parts-phrases.result.now c.parts-phrases.ensures.is c.parts-phrases.ensures.behind) c.enquire.ensures in
    link_all w0.stop w1.stop c.emit.new.self.stop c.unit.new.out.stop c.emit-2.new.self.stop c.patch.new.self.stop
    w0.list w1.list c.emit.new.self.list c.unit.new.out.list c.emit-2.new.self.list c.patch.new.self.list
    l.at l.slots l.place c.len-unless.result c.len-x.result e (laid_of v l.part)
    first c.len-unless.ensures.long c.emit.ensures c.unit.ensures c.emit-2.ensures c.len-x.ensures.long c.patch.ensures.list c.patch.ensures.stop

pub choices::write_link-returns-clause-jump : goal.choices::write_link-returns-clause-jump
choices::write_link-returns-clause-jump t c = λ is.
    let v = c.args.program.now in
    let a = v.of.now in
    let l = c.args.link.now in
    let e = enquiry_tree a (laid_of v) l in
    let w0 = c.args.out.now in
    let w1 = c.enquire.new.out in
    let first : Writes w0.stop w1.stop w0.list w1.list (asked (while_in l.at l.slots e) (length w0.list)) =
    subst (λ (u : Tree). Writes w0.stop w1.stop w0.list w1.list (asked (while_in l.at l.slots u) (length w0.list)))
    (enquiry_is a (laid_of v) l.enquiry l.at c.parts-phrases.result.now c.parts-phrases.ensures.is c.parts-phrases.ensures.behind) c.enquire.ensures in
    let none = had_not c.unit.new.out.stop c.emit-2.new.self.stop c.unit.new.out.list c.emit-2.new.self.list _ c.emit-2.ensures (sym c.patch.ensures.stop ∙ is) in
    link_jump w0.stop w1.stop c.emit.new.self.stop c.unit.new.out.stop w0.list w1.list c.emit.new.self.list c.unit.new.out.list
    l.at l.slots l.place c.len-jump.result e (laid_of v l.part) first c.emit.ensures c.unit.ensures c.len-jump.ensures.long none

pub choices::write_links-links-init : goal.choices::write_links-links-init
choices::write_links-links-init t c =
    let v = c.args.program.now in
    let a = v.of.now in
    let first = c.args.first in
    let inner = within first.slots v in
    let whole = link_tree a (laid_of inner) first in
    let w0 = c.args.out.now in
    let same = c.within-inner.ensures.view in (
      c.requires.within,
      omega arith,
      subst (λ (w : View). IsSeenAlike v w) (sym same) (alike_within first.slots v v refl),
      subst (λ (w : View). IsOpen (TreeIsWritten whole w0.stop w0.list) c.args.opens.now.items (link_tree a (laid_of w) first) w0.stop w0.list) (sym same)
          (λ s l w. subst (λ (os : List Opened). Finishes os (TreeIsWritten whole w0.stop w0.list) s l) (sym c.requires.empty) w),
    )

pub choices::write_links-links-preserved : goal.choices::write_links-links-preserved
choices::write_links-links-preserved t c =
    let v = c.args.program.now in
    let a = v.of.now in
    let inner = c.links.inner in
    let f = laid_of inner in
    let link = c.links.link in
    let wanted = TreeIsWritten (link_tree a (laid_of (within c.args.first.slots v)) c.args.first) c.args.out.now.stop c.args.out.now.list in
    let alike : IsSeenAlike v inner = c.links.invariant.2 in
    let sa : inner.of.now ≡ a = ap (λ (w : View). w.of.now) alike in
    let w1 = c.links.out in
    let w2 = c.write_link-jump.new.out in
    let w3 = c.keep_open.new.out in
    let os = c.keep_open.new.opens.items in
    let writes = subst (λ (x : Annotated). Writes w1.stop w2.stop w1.list w2.list (link_list link.at link.slots link.place (enquiry_tree x f link) (f link.part) (length w1.list))) sa c.write_link-jump.ensures.writes in
    let jumps = subst (λ (x : Annotated). w2.stop ≡ None → c.write_link-jump.result ≡ jump_of link.at link.slots (enquiry_tree x f link) (f link.part) (length w1.list)) sa c.write_link-jump.ensures.jump in
    let on = open_more wanted c.links.opens.items os link.at link.slots link.place c.write_link-jump.result link.yields (enquiry_tree a f link) (f link.part) (other_tree f link)
    w1.stop w2.stop w3.stop w1.list w2.list c.links.invariant.3 writes jumps c.keep_open.ensures.kept in
    let next = c.in-Some.next in
    let seen = c.within-inner-in-Some.ensures.view in
    let tree : tree_of inner next.id ≡ link_tree a (tree_of inner) next =
    subst (λ (x : Annotated). tree_of inner next.id ≡ link_tree x (tree_of inner) next) sa c.in-Some.ensures.tree in
    let same : other_tree f link ≡ link_tree a (laid_of c.within-inner-in-Some.result) next =
    ap (λ (o : Option ℕ). option_map_or f o (made.left_out link.place link.goal)) c.in-Some.ensures.there.0 ∙ ap (λ (u : Tree). lying inner u) tree ∙ link_lies inner a next
    ∙ ap (λ (w : View). link_tree a (laid_of w) next) (sym seen) in
    let so_far = c.links.invariant.1 in
    let below = c.in-Some.ensures.there.1 in (
      subst (λ (x : Annotated). LinkIsWithin x next) sa c.in-Some.ensures.within,
      omega arith,
      subst (λ (w : View). IsSeenAlike v w) (sym seen) (alike_within next.slots v inner alike),
      subst (λ (l : List Instr). IsOpen wanted os (link_tree a (laid_of c.within-inner-in-Some.result) next) w3.stop l) (sym c.keep_open.ensures.list)
          (subst (λ (u : Tree). IsOpen wanted os u w3.stop w2.list) same on),
    )

pub choices::write_links-returns-in-None-clause-chain : goal.choices::write_links-returns-in-None-clause-chain
choices::write_links-returns-in-None-clause-chain t c =
    let v = c.args.program.now in
    let a = v.of.now in
    let inner = c.links.inner in
    let f = laid_of inner in
    let link = c.links.link in
    let wanted = TreeIsWritten (link_tree a (laid_of (within c.args.first.slots v)) c.args.first) c.args.out.now.stop c.args.out.now.list in
    let alike : IsSeenAlike v inner = c.links.invariant.2 in
    let sa : inner.of.now ≡ a = ap (λ (w : View). w.of.now) alike in
    let w1 = c.links.out in
    let w2 = c.write_link-jump.new.out in
    let w3 = c.keep_open.new.out in
    let os = c.keep_open.new.opens.items in
    let writes = subst (λ (x : Annotated). Writes w1.stop w2.stop w1.list w2.list (link_list link.at link.slots link.place (enquiry_tree x f link) (f link.part) (length w1.list))) sa c.write_link-jump.ensures.writes in
    let jumps = subst (λ (x : Annotated). w2.stop ≡ None → c.write_link-jump.result ≡ jump_of link.at link.slots (enquiry_tree x f link) (f link.part) (length w1.list)) sa c.write_link-jump.ensures.jump in
    let on = open_more wanted c.links.opens.items os link.at link.slots link.place c.write_link-jump.result link.yields (enquiry_tree a f link) (f link.part) (other_tree f link)
    w1.stop w2.stop w3.stop w1.list w2.list c.links.invariant.3 writes jumps c.keep_open.ensures.kept in
    subst (λ (l : List Instr). IsOpen wanted os (other_tree f link) w3.stop l) (sym c.keep_open.ensures.list) on

pub choices::chain-otherwise-requires : goal.choices::chain-otherwise-requires
choices::chain-otherwise-requires t c =
    let v = c.args.program.now in
    let last = c.write_links.result.0 in
    let alike = seen_is_alike v c.write_links.result.1 c.write_links.ensures.seen in
    let nodes = alike.nodes in
    let left = alike.left in
    let behind = c.write_links.ensures.behind in
    (omega arith, still_some v c.write_links.result.1 last.id last.other alike c.write_links.ensures.within.other)

pub choices::chain-returns : goal.choices::chain-returns
choices::chain-returns t c =
    let v = c.args.program.now in
    let a = v.of.now in
    let whole = link_tree a (laid_of (within c.args.first.slots v)) c.args.first in
    let w0 = c.args.out.now in
    let w3 = c.otherwise.new.out in
    let last = c.write_links.ensures.chain w3.stop w3.list c.otherwise.ensures in
    c.close_all.ensures whole w0.stop w0.list
    (subst (λ (os : List Opened). Finishes os (TreeIsWritten whole w0.stop w0.list) w3.stop w3.list) (sym c.deref.ensures.value) last)

pub choices::conditional-chain-requires : goal.choices::conditional-chain-requires
choices::conditional-chain-requires t c = let same = c.in-Some.ensures.node in (omega arith, c.in-Some.ensures.within)

pub choices::conditional-returns-in-Some : goal.choices::conditional-returns-in-Some
choices::conditional-returns-in-Some t c =
    let v = c.args.program.now in
    let a = v.of.now in
    let tree = tree_of v in
    let first = c.in-Some.first in
    let same = c.in-Some.ensures.tree (behind c.args.id tree) ∙ link_behind a c.args.id tree first c.in-Some.ensures.within c.in-Some.ensures.node in
    subst (λ (u : Tree). Writes c.args.out.now.stop c.chain.new.out.stop c.args.out.now.list c.chain.new.out.list (stretch u (length c.args.out.now.list)))
    (sym (ap (λ (u : Tree). lying v u) same ∙ link_lies v a first)) c.chain.ensures

pub choices::conditional-returns-in-None : goal.choices::conditional-returns-in-None
choices::conditional-returns-in-None t c = rw (c.in-None.ensures.tree (behind c.args.id (tree_of c.args.program.now))) c.meaningless.ensures

pub choices::write_arm-returns-clause-writes : goal.choices::write_arm-returns-clause-writes
choices::write_arm-returns-clause-writes t c =
    let w0 = c.args.out.now in
    let w1 = c.keep.new.out in
    let w2 = c.write_part.new.out in
    let w3 = c.keep-2.new.out in
    let w4 = c.emit.new.self in
    arm_writes w0.stop w1.stop w2.stop w3.stop w4.stop w0.list w1.list w2.list w3.list w4.list c.args.place (behind c.args.id (laid_of c.args.program.now) c.args.part)
    c.keep.ensures.list c.keep.ensures.stop c.write_part.ensures c.keep-2.ensures.list c.keep-2.ensures.stop c.emit.ensures

pub choices::write_arm-returns-clause-jumps : goal.choices::write_arm-returns-clause-jumps
choices::write_arm-returns-clause-jumps t c = λ none.
    let w0 = c.args.out.now in
    let w1 = c.keep.new.out in
    let w2 = c.write_part.new.out in
    let w3 = c.keep-2.new.out in
    let w4 = c.emit.new.self in
    let end = arm_end w1.stop w2.stop w3.stop w4.stop w0.list w1.list w2.list w3.list w4.list c.args.place (behind c.args.id (laid_of c.args.program.now) c.args.part)
    c.keep.ensures.list c.write_part.ensures c.keep-2.ensures.stop c.emit.ensures none in
    c.keep-2.ensures.kept end.0 ∙ ap (λ (k : ℕ). c.args.jumps.now.items ++ k ∷ []) (c.len-jump.ensures.long ∙ end.1)

pub choices::write_arms-write_arm-requires : goal.choices::write_arms-write_arm-requires
choices::write_arms-write_arm-requires t c =
    let b = between-each c.args.id (length c.args.program.now.of.now.tree.nodes) c.loop-part.part-index c.args.parts.now c.requires.between c.loop-part-test.true in
    let below = b.0 in
    (omega arith, b)

pub choices::write_arms-loop-part-preserved : goal.choices::write_arms-loop-part-preserved
choices::write_arms-loop-part-preserved t c =
    let f = behind c.args.id (laid_of c.args.program.now) in
    let ids = c.args.parts.now in
    let i = c.loop-part.part-index in
    let rest = trees_at f (drop (i + 1) ids) in
    let w0 = c.args.out.now in
    let w1 = c.loop-part.out in
    let w2 = c.write_arm.new.out in
    let starts = c.loop-part.starts.items in
    let jumps = c.loop-part.jumps.items in
    let before : ArmsAhead c.args.place (trees_at f ids) (f (get_or ids i 0) and_tree rest) starts jumps w0.stop w1.stop w0.list w1.list =
    subst (λ (l : List ℕ). ArmsAhead c.args.place (trees_at f ids) (trees_at f l) starts jumps w0.stop w1.stop w0.list w1.list) (drop_next ids i c.loop-part-test.true) c.loop-part.invariant in
    arms_on c.args.place (trees_at f ids) rest (f (get_or ids i 0)) starts c.write_arm.new.starts.items jumps c.write_arm.new.jumps.items w0.stop w1.stop w2.stop w0.list w1.list w2.list
    before c.write_arm.ensures.writes c.write_arm.ensures.starts c.write_arm.ensures.jumps

pub choices::choose-returns-clause-writes : goal.choices::choose-returns-clause-writes
choices::choose-returns-clause-writes t c =
    let f = behind c.args.id (laid_of c.args.program.now) in
    let ids = c.args.parts.now in
    let w0 = c.args.out.now in
    let w1 = c.emit.new.self in
    let w2 = c.write_arms.new.out in
    let w3 = c.patch_each.new.self in
    let case = c.len-case.result in
    let starts = c.write_arms.new.starts.items in
    let many : length c.in-Ok.items.items ≡ count (trees_at f ids) + 1 = c.in-Ok.ensures ∙ ap (λ (n : ℕ). n + 1) (sym (count_trees f ids)) in
    let each : ((w3.list ≡ put_all w2.list case 0 starts) × (w3.stop ≡ w2.stop)) ⊎ (w3.stop ≡ ran_out w2.stop) =
    subst (λ (ps : List ℕ). ((w3.list ≡ put_all w2.list case 0 ps) × (w3.stop ≡ w2.stop)) ⊎ (w3.stop ≡ ran_out w2.stop)) c.deref.ensures.value c.patch_each.ensures in
    front_writes w0.stop w1.stop w2.stop w3.stop w0.list w1.list w2.list w3.list c.args.place case c.in-Ok.items.items starts (trees_at f ids)
    c.len-case.ensures.long many c.emit.ensures c.write_arms.ensures.writes c.write_arms.ensures.starts each

pub choices::choose-returns-clause-jumps : goal.choices::choose-returns-clause-jumps
choices::choose-returns-clause-jumps t c = λ none.
    let f = behind c.args.id (laid_of c.args.program.now) in
    let ids = c.args.parts.now in
    let w0 = c.args.out.now in
    let w1 = c.emit.new.self in
    let w2 = c.write_arms.new.out in
    let w3 = c.patch_each.new.self in
    let none2 = put_none w2.stop w3.stop w2.list w3.list _ c.patch_each.ensures none in
    let none1 = had_not w1.stop w2.stop w1.list w2.list _ c.write_arms.ensures.writes none2 in
    let long = ap (λ (l : List Instr). length l) (is_written w0.stop w1.stop w0.list w1.list _ c.emit.ensures none1) ∙ length-append w0.list _ in
    c.write_arms.ensures.jumps none2 ∙ ap (λ (k : ℕ). arm_jumps (trees_at f ids) k) long

-- ---- chains of choices by a number

pub choices::write_front-returns : goal.choices::write_front-returns
choices::write_front-returns t c =
    let v = c.args.program.now in
    let a = v.of.now in
    let id = c.args.id in
    let node = c.node.result.now in
    let note = c.note.result.now in
    let place = c.args.place in
    let goal_mode = c.args.goal in
    let yields = not (is_void (shape_at a.modes goal_mode)) in
    let ids = c.args.parts.now in
    let enquiry = get_or ids 0 0 in
    let units = c.before_out-units.result.now in
    let tail = tail_behind a id place goal_mode ids in
    let below = (between-each id (length a.tree.nodes) 0 ids c.requires.between (omega arith)).0 in
    let q = made.phrases_of node.span.from (trees_at (behind enquiry (laid_of v)) c.parts-phrases.result.now) in
    let rest = take (length ids - 1) (drop 1 ids) in
    let rest_is : rest ≡ drop 1 ids = take_rest ids 1 in
    let units_are : units ≡ made.before_out a rest = c.before_out-units.ensures.parts ∙ ap (λ (x : Annotated). made.before_out x rest) c.annotated.ensures in
    let other_is : tail.other ≡ made.out_of a rest = ap (made.out_of a) (sym rest_is) in
    let other_within : IfSome tail.other (λ p. (id < p) × (p < length a.tree.nodes)) = out_within a id (length a.tree.nodes) (drop 1 ids) (between-rest id (length a.tree.nodes) ids c.requires.between) in
    let same = case_is a (laid_of v) id place goal_mode yields enquiry rest c.parts-phrases.result.now units tail.other node note c.node.ensures.is c.note.ensures c.parts-phrases.ensures.is
    c.parts-phrases.ensures.behind below units_are other_is other_within in
    let whole = ap (λ (l : List ℕ). made.case_of a (behind id (laid_of v)) place goal_mode yields l) (sym (rest_parts ids c.requires.some)) in
    let void = ap not c.is_void.ensures in
    front_as _ _ _ _ _ _ _ _ _ (ap (λ (b : Bool). framed node.span.from place note.slots b (cases place q (trees_at (behind id (laid_of v)) units) (out_tree (laid_of v) tail))) void ∙ same ∙ whole) refl
    (front_is c.args.out.now.stop c.enquire.new.out.stop c.choose.new.out.stop c.args.out.now.list c.enquire.new.out.list c.choose.new.out.list _ node.span.from q (trees_at (behind id (laid_of v)) units)
    (out_tree (laid_of v) tail) c.enquire.ensures c.choose.ensures.writes c.choose.ensures.jumps)

pub choices::front_of-returns-then-by_mode : goal.choices::front_of-returns-then-by_mode
choices::front_of-returns-then-by_mode t c = rw c.if-by_mode.true c.conform_front.ensures

pub choices::front_of-returns : goal.choices::front_of-returns
choices::front_of-returns t c = rw c.if-by_mode.false c.write_front.ensures

pub choices::write_choice-front_of-ending-requires : goal.choices::write_choice-front_of-ending-requires
choices::write_choice-front_of-ending-requires t c =
    let a = c.args.program.now.of.now in
    let node = c.node-node.result.now in
    let same = node_parts a c.args.id node c.parts-parts.result.now c.node-node.ensures.is c.parts-parts.ensures.is in
    let some = subst (λ (ids : List ℕ). 0 < length ids) same (choice_some a c.args.id node c.requires.choice c.node-node.ensures.is) in
    let v = c.args.program.now in
    let alike = within_is_alike (enquiry_slots a c.parts-parts.result.now) v c.inner-seen.result c.inner-seen.ensures in
    let nodes = alike.nodes in
    let left = alike.left in
    (omega arith, (some, still_between v c.inner-seen.result c.args.id c.parts-parts.result.now alike c.parts-parts.ensures.behind))

pub choices::write_choice-returns-clause-on : goal.choices::write_choice-returns-clause-on
choices::write_choice-returns-clause-on t c =
    let v = c.args.program.now in
    let a = v.of.now in
    let id = c.args.id in
    let node = c.node-node.result.now in
    let note = c.note-note.result.now in
    let ids = c.parts-parts.result.now in
    let place = node.span.from in
    let by = c.is_by_mode-by_mode.result in
    let seen = c.inner-seen.result in
    let parts = node_parts a id node ids c.node-node.ensures.is c.parts-parts.ensures.is in
    let some = subst (λ (is : List ℕ). 0 < length is) parts (choice_some a id node c.requires.choice c.node-node.ensures.is) in
    let same = choice_is a v.sight id node note c.requires.choice c.node-node.ensures.is c.note-note.ensures
    ∙ ap (λ (is : List ℕ). choice_tree a (tree_of v) (by_mode node.kind) id place note.goal is) parts ∙ ap (λ (b : Bool). choice_tree a (tree_of v) b id place note.goal ids) (sym c.is_by_mode-by_mode.ensures) in
    let lies : laid_of v id ≡ laid_choice seen by id place note.goal ids =
    ap (λ (u : Tree). lying v u) same ∙ choice_lies v by id place note.goal ids some ∙ ap (λ (w : View). laid_choice w by id place note.goal ids) (sym c.inner-seen.ensures) in
    let on = goes_on _ _ _ _ _ _ _ _ _ _ _ c.front_of-ending.ensures c.keep_ending.ensures.kept c.keep_ending.ensures.list in
    goes_to _ _ _ _ _ _ _ _ _ (ap (out_tree (laid_of seen)) (sym c.tail_of-tail.ensures.is)) (goes_as _ _ _ _ _ _ _ _ _ (sym lies) on)

pub choices::write_choices-tails-init : goal.choices::write_choices-tails-init
choices::write_choices-tails-init t c = (c.requires, omega arith, refl, goes_same _ _ _ _)

pub choices::write_choices-tails-preserved : goal.choices::write_choices-tails-preserved
choices::write_choices-tails-preserved t c =
    let v = c.args.program.now in
    let seen = c.tails.seen in
    let next = c.write_choice.result in
    let alike : IsSeenAlike v seen = c.tails.invariant.2 in
    let sa : seen.of.now ≡ v.of.now = ap (λ (w : View). w.of.now) alike in
    let below = c.in-Some.ensures.within in
    let so_far = c.tails.invariant.1 in
    let here = c.write_choice.ensures.node in (
      subst (λ (x : Annotated). TailIsWithin x next.0) sa c.write_choice.ensures.within,
      omega arith,
      alike_on v seen next.1 alike c.write_choice.ensures.seen,
      goes_further _ _ _ _ _ _ _ _ _ _ _ _ _ (out_lies seen c.tails.tail c.in-Some.next c.in-Some.ensures.tree) c.tails.invariant.3 c.write_choice.ensures.on,
    )

pub choices::choice_chain-otherwise-requires : goal.choices::choice_chain-otherwise-requires
choices::choice_chain-otherwise-requires t c =
    let v = c.args.program.now in
    let within = c.inner-within.result in
    let last = c.write_choices.result.0 in
    let seen = c.write_choices.result.1 in
    let inner = within_is_alike (enquiry_slots v.of.now c.args.parts.now) v within c.inner-within.ensures in
    let further = seen_is_alike within seen c.write_choices.ensures.seen in
    let nodes = inner.nodes in
    let left = inner.left in
    let more = further.nodes in
    let still = further.left in
    let behind = c.write_choices.ensures.behind in
    let first = ap (λ (x : Tail). x.id) c.tail_of-first.ensures.is in
    (omega (arith, behind, first, nodes, left, more, still), still_some within seen last.id last.other further c.write_choices.ensures.within)

pub choices::choice_chain-returns : goal.choices::choice_chain-returns
choices::choice_chain-returns t c =
    let v = c.args.program.now in
    let a = v.of.now in
    let by = c.args.by_mode in
    let ids = c.args.parts.now in
    let seen = c.inner-within.result in
    let whole = lying v (choice_tree a (tree_of v) by c.args.id c.args.place c.args.goal ids) in
    let lies : whole ≡ laid_choice seen by c.args.id c.args.place c.args.goal ids =
    choice_lies v by c.args.id c.args.place c.args.goal ids c.requires.some ∙ ap (λ (w : View). laid_choice w by c.args.id c.args.place c.args.goal ids) (sym c.inner-within.ensures) in
    let w0 = c.args.out.now in
    let w3 = c.otherwise.new.out in
    let start = goes_as _ _ _ _ _ _ _ _ _ (sym lies) (goes_on _ _ _ _ _ _ _ _ _ _ _ c.front_of-ending.ensures c.keep_ending.ensures.kept c.keep_ending.ensures.list) in
    let all = goes_further _ _ _ _ _ _ _ _ _ _ _ _ _ (ap (out_tree (laid_of seen)) (sym c.tail_of-first.ensures.is)) start c.write_choices.ensures.on in
    let awaited = all.on whole w0.stop w0.list (λ s l w. subst (λ (es : List Ending). AllEnd es (TreeIsWritten whole w0.stop w0.list) s l) (sym c.new-endings.ensures.items) w) in
    c.end_all.ensures whole w0.stop w0.list
    (subst (λ (es : List Ending). AllEnd es (TreeIsWritten whole w0.stop w0.list) w3.stop w3.list) (sym c.deref.ensures.value) (awaited w3.stop w3.list c.otherwise.ensures))

pub choices::case-choice_chain-requires : goal.choices::case-choice_chain-requires
choices::case-choice_chain-requires t c = (omega arith, (omega arith, c.requires))

pub choices::write_links-write_link-jump-requires : goal.choices::write_links-write_link-jump-requires
choices::write_links-write_link-jump-requires t c =
    let v = c.args.program.now in
    let inner = c.links.inner in
    let link = c.links.link in
    let alike = seen_is_alike v inner c.links.invariant.2 in
    let nodes = alike.nodes in
    let left = alike.left in
    let so_far = c.links.invariant.1 in
    let same : inner.of.now ≡ v.of.now = ap (λ (w : View). w.of.now) c.links.invariant.2 in
    (omega arith, subst (λ (x : Annotated). LinkIsWithin x link) (sym same) c.links.invariant.0)

pub choices::write_links-next_link-requires : goal.choices::write_links-next_link-requires
choices::write_links-next_link-requires t c =
    let v = c.args.program.now in
    let same : c.links.inner.of.now ≡ v.of.now = ap (λ (w : View). w.of.now) c.links.invariant.2 in
    subst (λ (x : Annotated). LinkIsWithin x c.links.link) (sym same) c.links.invariant.0

pub choices::write_links-returns-in-None-clause-within : goal.choices::write_links-returns-in-None-clause-within
choices::write_links-returns-in-None-clause-within t c =
    c.links.invariant.0

pub choices::write_links-returns-in-None-clause-behind : goal.choices::write_links-returns-in-None-clause-behind
choices::write_links-returns-in-None-clause-behind t c =
    c.links.invariant.1

pub choices::write_links-returns-in-None-clause-seen : goal.choices::write_links-returns-in-None-clause-seen
choices::write_links-returns-in-None-clause-seen t c =
    c.links.invariant.2

pub choices::write_choice-tail_of-tail-requires-clause-some : goal.choices::write_choice-tail_of-tail-requires-clause-some
choices::write_choice-tail_of-tail-requires-clause-some t c =
    let a = c.args.program.now.of.now in
    let node = c.node-node.result.now in
    let same = node_parts a c.args.id node c.parts-parts.result.now c.node-node.ensures.is c.parts-parts.ensures.is in
    subst (λ (ids : List ℕ). 0 < length ids) same (choice_some a c.args.id node c.requires.choice c.node-node.ensures.is)

pub choices::write_choice-tail_of-tail-requires-clause-between : goal.choices::write_choice-tail_of-tail-requires-clause-between
choices::write_choice-tail_of-tail-requires-clause-between t c =
    let v = c.args.program.now in
    let alike = within_is_alike (enquiry_slots v.of.now c.parts-parts.result.now) v c.inner-seen.result c.inner-seen.ensures in
    still_between v c.inner-seen.result c.args.id c.parts-parts.result.now alike c.parts-parts.ensures.behind

pub choices::write_choice-returns-clause-within : goal.choices::write_choice-returns-clause-within
choices::write_choice-returns-clause-within t c =
    let same : c.inner-seen.result.of.now ≡ c.args.program.now.of.now = ap (λ (w : View). w.of.now) c.inner-seen.ensures in
    subst (λ (x : Annotated). TailIsWithin x c.tail_of-tail.result) same c.tail_of-tail.ensures.within

pub choices::write_choice-returns-clause-node : goal.choices::write_choice-returns-clause-node
choices::write_choice-returns-clause-node t c =
    ap (λ (x : Tail). x.id) c.tail_of-tail.ensures.is

pub choices::write_choice-returns-clause-seen : goal.choices::write_choice-returns-clause-seen
choices::write_choice-returns-clause-seen t c =
    let v = c.args.program.now in
    subst (λ (w : View). IsSeenAlike v w) (sym c.inner-seen.ensures) (alike_within (enquiry_slots v.of.now c.parts-parts.result.now) v v refl)

pub choices::write_choices-next_choice-requires : goal.choices::write_choices-next_choice-requires
choices::write_choices-next_choice-requires t c =
    let same : c.tails.seen.of.now ≡ c.args.program.now.of.now = ap (λ (w : View). w.of.now) c.tails.invariant.2 in
    subst (λ (x : Annotated). TailIsWithin x c.tails.tail) (sym same) c.tails.invariant.0

pub choices::write_choices-write_choice-requires : goal.choices::write_choices-write_choice-requires
choices::write_choices-write_choice-requires t c =
    let v = c.args.program.now in
    let alike = seen_is_alike v c.tails.seen c.tails.invariant.2 in
    let nodes = alike.nodes in
    let left = alike.left in
    let so_far = c.tails.invariant.1 in
    let below = c.in-Some.ensures.within.0 in
    let less = c.in-Some.ensures.within.1 in
    (omega arith, (less, c.in-Some.ensures.choice))

pub choices::write_choices-returns-in-None-clause-within : goal.choices::write_choices-returns-in-None-clause-within
choices::write_choices-returns-in-None-clause-within t c =
    c.tails.invariant.0

pub choices::write_choices-returns-in-None-clause-behind : goal.choices::write_choices-returns-in-None-clause-behind
choices::write_choices-returns-in-None-clause-behind t c =
    c.tails.invariant.1

pub choices::write_choices-returns-in-None-clause-seen : goal.choices::write_choices-returns-in-None-clause-seen
choices::write_choices-returns-in-None-clause-seen t c =
    c.tails.invariant.2

pub choices::write_choices-returns-in-None-clause-on : goal.choices::write_choices-returns-in-None-clause-on
choices::write_choices-returns-in-None-clause-on t c =
    c.tails.invariant.3

pub choices::choice_chain-front_of-ending-requires : goal.choices::choice_chain-front_of-ending-requires
choices::choice_chain-front_of-ending-requires t c =
    let v = c.args.program.now in
    let alike = within_is_alike (enquiry_slots v.of.now c.args.parts.now) v c.inner-within.result c.inner-within.ensures in
    let nodes = alike.nodes in
    let left = alike.left in
    (omega arith, (c.requires.some, still_between v c.inner-within.result c.args.id c.args.parts.now alike c.requires.between))

pub choices::choice_chain-tail_of-first-requires-clause-between : goal.choices::choice_chain-tail_of-first-requires-clause-between
choices::choice_chain-tail_of-first-requires-clause-between t c =
    let v = c.args.program.now in
    let alike = within_is_alike (enquiry_slots v.of.now c.args.parts.now) v c.inner-within.result c.inner-within.ensures in
    still_between v c.inner-within.result c.args.id c.args.parts.now alike c.requires.between

pub choices::choice_chain-write_choices-requires : goal.choices::choice_chain-write_choices-requires
choices::choice_chain-write_choices-requires t c =
    let v = c.args.program.now in
    let alike = within_is_alike (enquiry_slots v.of.now c.args.parts.now) v c.inner-within.result c.inner-within.ensures in
    let nodes = alike.nodes in
    let left = alike.left in
    let first = ap (λ (x : Tail). x.id) c.tail_of-first.ensures.is in
    (omega arith, c.tail_of-first.ensures.within)

pub choices::case-returns-then-parts-eq0 : goal.choices::case-returns-then-parts-eq0
choices::case-returns-then-parts-eq0 t c =
    rw (nil_from_length c.args.parts.now (omega arith)) c.meaningless.ensures

pub choices::case-returns : goal.choices::case-returns
choices::case-returns t c =
    c.choice_chain.ensures

use Rattle.std.proofs.Common.{List, ℕ, sym, subst}
use Rattle.a68_equiv.specs.Classes.{Classified, AreSame}
use Rattle.a68_equiv.specs.NewNodes.{AreNewKeys}
use Rattle.a68_equiv.proofs.Dimensions.{one_more}
use Rattle.a68_equiv.proofs.Growing.{still_formed}
use Rattle.a68_equiv.proofs.Keeping.{same_kept, room_same, joined_kept}
use Rattle.a68_equiv.proofs.interning.add.Goals as goal

pub returns-then-is_err-clause-kept : goal.returns-then-is_err-clause-kept
returns-then-is_err-clause-kept c =
    let was = c.classes.inside in
    let room = c.make_room.new in
    let e = c.make_room.ensures in
    same_kept c.args.modes.now _ _ (room_same _ room.items.items was.items.items room.keys.entries was.keys.entries room.nodes.entries was.nodes.entries e.items e.keys e.nodes c.classes.view_is) c.requires.kept

pub returns-in_err-id-clause-kept : goal.returns-in_err-id-clause-kept
returns-in_err-id-clause-kept c =
    let was = c.classes.inside in
    let room = c.make_room.new in
    let e = c.make_room.ensures in
    rw c.in_err-id.ensures.stays (same_kept c.args.modes.now _ _ (room_same _ room.items.items was.items.items room.keys.entries was.keys.entries room.nodes.entries was.nodes.entries e.items e.keys e.nodes c.classes.view_is) c.requires.kept)

pub returns-clause-formed : goal.returns-clause-formed
returns-clause-formed c = rw c.in_ok-id.ensures.added (still_formed c.args.modes.now c.args.shape c.requires.nodes c.requires.formed c.requires.within)

pub returns-clause-kept : goal.returns-clause-kept
returns-clause-kept c =
    let nodes = c.args.modes.now in
    let was = c.classes.inside in
    let room = c.make_room.new in
    let e = c.make_room.ensures in
    let seen : Classified = record { of = room.items.items; by_key = room.keys.entries; nodes_by_key = room.nodes.entries } in
    let same : AreSame seen c.args.classes.now = room_same _ room.items.items was.items.items room.keys.entries was.keys.entries room.nodes.entries was.nodes.entries e.items e.keys e.nodes c.classes.view_is in
    let new = subst (λ (xs : List ℕ). AreNewKeys nodes xs c.args.shape c.args.keys) (sym same.of) c.requires.keys in
    rw c.in_ok-id.ensures.added (joined_kept nodes c.args.shape c.requires.nodes c.requires.formed c.requires.within seen (same_kept nodes seen _ same c.requires.kept) c.args.keys new
    c.in_ok-id.id c.join.new.classes.items c.join.new.by_key.entries c.join.new.nodes.entries c.in_ok-id.ensures.id c.join.ensures)

pub returns-clause-rows : goal.returns-clause-rows
returns-clause-rows c = λ have has. rw c.in_ok-id.ensures.added (one_more c.args.modes.now c.args.shape have has)

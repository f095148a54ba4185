use Rattle.a68_denote.proofs.Items.{first_of_two, second_of_two, all_done, inside}
use Rattle.a68_denote.proofs.strings.string_of.Goals as goal

pub loop-byte-preserved-then-is_second : goal.loop-byte-preserved-then-is_second
loop-byte-preserved-then-is_second c = λ bytes s. second_of_two _ _ _ _ c.loop-byte-test.true (rw c.if-is_second.true at (c.loop-byte.invariant bytes s))

pub loop-byte-preserved : goal.loop-byte-preserved
loop-byte-preserved c = λ bytes s. rw c.in_ok-push.ensures.items (first_of_two _ _ _ _ c.loop-byte-test.true (rw c.if-is_second.false at (c.loop-byte.invariant bytes s)))

pub returns : goal.returns
returns c =
    let d = c.requires.1 in
    let e = inside _ _ d in
    rw (all_done _ _ c.requires.0 _ _ c.loop-byte-test.false (c.loop-byte.invariant c.requires.0 (rw e d.stand_for))) d

use Rattle.std.proofs.Common.{◌∙◌, sym, arith, true}
use Rattle.std.proofs.lemmas.Bool.{false≢true}
use Rattle.a68_declarers.proofs.Counting.{number_below}
use Rattle.a68_declarers.proofs.Setting.{begun, passed, set_both, all_set, two_apart}
use Rattle.a68_declarers.proofs.raw.set_all.Goals as goal
use Rattle.a68_declarers.proofs.raw.set_all.Goals.{then-is_declarer+in_ok-set_one+in_ok-set_one-2, else-is_declarer}

pub loop-id-init : goal.loop-id-init
loop-id-init c = record { long = c.requires.long; set = begun c.args.tree.now c.args.numbers.now c.requires.numbers c.args.modes.now c.requires.blank }

pub loop-id-preserved : goal.loop-id-preserved
loop-id-preserved c =
    let tree = c.args.tree.now in
    let numbers = c.args.numbers.now in
    elim c.if-is_declarer.branch [
      | then-is_declarer+in_ok-set_one+in_ok-set_one-2 w ↦ rw w.modes-is (record {
        long = w.in_ok-set_one-2.ensures.long ∙ w.in_ok-set_one.ensures.long ∙ c.loop-id.invariant.long;
        set = set_both tree numbers c.requires.numbers c.loop-id.id c.loop-id.modes w.set_one.new.modes w.set_one-then-is_declarer.new.modes (sym c.is_declarer.ensures ∙ w.if-is_declarer.true)
            (record { shape = w.in_ok-set_one.ensures.set; others = w.in_ok-set_one.ensures.others })
            (record { shape = w.in_ok-set_one-2.ensures.set; others = w.in_ok-set_one-2.ensures.others }) c.loop-id.invariant.set;
      })
      | else-is_declarer w ↦ rw w.modes-is (record {
        long = c.loop-id.invariant.long;
        set = passed tree numbers c.requires.numbers c.loop-id.id c.loop-id.modes (λ is. false≢true (sym w.if-is_declarer.false ∙ c.is_declarer.ensures ∙ is)) c.loop-id.invariant.set;
      })
    ]

pub set_one-requires-clause-within : goal.set_one-requires-clause-within
set_one-requires-clause-within c d fixed = rw c.loop-id.invariant.long (number_below c.args.tree.now c.args.numbers.now c.requires.numbers d fixed)

pub set_one-requires-then-is_declarer-clause-within : goal.set_one-requires-then-is_declarer-clause-within
set_one-requires-then-is_declarer-clause-within c d fixed =
    rw (c.in_ok-set_one.ensures.long, c.loop-id.invariant.long) (number_below c.args.tree.now c.args.numbers.now c.requires.numbers d fixed)

pub set_one-requires-then-is_declarer-clause-blank : goal.set_one-requires-then-is_declarer-clause-blank
set_one-requires-then-is_declarer-clause-blank c =
    let is = sym c.is_declarer.ensures ∙ c.if-is_declarer.true in
    c.in_ok-set_one.ensures.others _ (two_apart c.args.tree.now c.args.numbers.now c.requires.numbers c.loop-id.id is) ∙ c.loop-id.invariant.set.blank c.loop-id.id true (omega arith) is

pub returns-clause-declared : goal.returns-clause-declared
returns-clause-declared c = all_set c.args.tree.now c.args.numbers.now c.requires.numbers c.loop-id.id c.loop-id.modes (omega arith) c.loop-id.invariant.long c.loop-id.invariant.set

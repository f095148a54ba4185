use Rattle.std.proofs.Common.{◌≡◌, ◌∙◌, sym, subst, arith, below_more, ℕ, false, nat_eq}
use Rattle.std.specs.List.{list_any}
use Rattle.std.proofs.lemmas.Bool.{false≢true}
use Rattle.std.proofs.lemmas.List.{get_or_default}
use Rattle.a68_equiv.specs.Classes.{class_of}
use Rattle.a68_equiv.specs.Related.{as_it_stands}
use Rattle.a68_identify.proofs.apart.knows_any.Goals as goal

pub returns-then-knows : goal.returns-then-knows
returns-then-knows c = λ e. absurd (false≢true (sym e))

pub loop-member-preserved : goal.loop-member-preserved
loop-member-preserved c = below_more _ _ c.loop-member.invariant (sym c.knows.ensures ∙ c.if-knows.false)

pub returns : goal.returns
returns c = λ e x i.
    subst (λ (m : ℕ). list_any (nat_eq (class_of c.args.classes.now.of (as_it_stands m))) c.args.met.now.classes.keys ≡ false) (get_or_default c.args.members.now i.0 0 x i.1 ∙ i.2)
    (let h = i.1 in c.loop-member.invariant i.0 (omega arith))

use Rattle.std.proofs.Common.{◌≡◌, ◌∙◌, ℕ, true, false, sym, ap, subst, get_or}
use Rattle.a68_declare.proofs.Clashing.{away, nowhere, onwards}
use Rattle.a68_declare.specs.Unions.{has_other}
use Rattle.a68_equiv.specs.Classes.{class_of}
use Rattle.a68_equiv.specs.Related.{as_it_stands}
use Rattle.a68_equiv.proofs.Meekly.{shorter, id_of}
use Rattle.a68_declare.proofs.unions.clashes.Goals as goal

pub meekly-init : goal.meekly-init
meekly-init c = rw c.as_it_stands-at.ensures (record { there = c.requires.members c.args.place 0 c.requires.there; same = (λ w. w, λ w. w) })

pub returns-then-is_other : goal.returns-then-is_other
returns-then-is_other c =
    let one : ℕ = get_or c.args.members.now c.args.place 0 in
    let own : c.class-own.result ≡ class_of c.args.classes.now.of (as_it_stands one) = c.class-own.ensures ∙ ap (class_of c.args.classes.now.of) c.as_it_stands-at.ensures in
    away c.args.modes.now c.args.classes.now.of c.requires.exact c.args.members.now c.args.known.now.keys c.requires.members c.requires.known one (c.requires.members c.args.place 0 c.requires.there)
    c.meekly.at c.meekly.invariant.there c.meekly.invariant.same
    (subst (λ (k : ℕ). has_other c.args.classes.now.of c.args.known.now.keys k c.meekly.at ≡ true) own (sym c.is_other.ensures ∙ c.if-is_other.true))

pub returns-in_default : goal.returns-in_default
returns-in_default c =
    let one : ℕ = get_or c.args.members.now c.args.place 0 in
    let own : c.class-own.result ≡ class_of c.args.classes.now.of (as_it_stands one) = c.class-own.ensures ∙ ap (class_of c.args.classes.now.of) c.as_it_stands-at.ensures in
    nowhere c.args.modes.now c.args.classes.now.of c.requires.exact c.args.members.now c.args.known.now.keys c.requires.members c.requires.known one
    (c.requires.members c.args.place 0 c.requires.there) c.meekly.at c.meekly.invariant.there c.meekly.invariant.same (sym c.meek.ensures.step ∙ c.in_default.is)
    (subst (λ (k : ℕ). has_other c.args.classes.now.of c.args.known.now.keys k c.meekly.at ≡ false) own (sym c.is_other.ensures ∙ c.if-is_other.false))

pub meekly-smaller : goal.meekly-smaller
meekly-smaller c = shorter c.args.modes.now c.meek.ensures.nodes c.requires.formed c.meekly.at.id c.in-Some.next.id c.meekly.invariant.there (ap id_of (sym c.meek.ensures.step ∙ c.in-Some.is))

pub meekly-preserved : goal.meekly-preserved
meekly-preserved c =
    let one : ℕ = get_or c.args.members.now c.args.place 0 in
    let own : c.class-own.result ≡ class_of c.args.classes.now.of (as_it_stands one) = c.class-own.ensures ∙ ap (class_of c.args.classes.now.of) c.as_it_stands-at.ensures in
    record {
      there = c.in-Some.ensures.there;
      same = onwards c.args.modes.now c.args.classes.now.of c.requires.exact c.args.members.now c.args.known.now.keys c.requires.members c.requires.known one
          (c.requires.members c.args.place 0 c.requires.there) c.meekly.at c.meekly.invariant.there c.meekly.invariant.same c.in-Some.next (sym c.meek.ensures.step ∙ c.in-Some.is)
          (subst (λ (k : ℕ). has_other c.args.classes.now.of c.args.known.now.keys k c.meekly.at ≡ false) own (sym c.is_other.ensures ∙ c.if-is_other.false));
    }

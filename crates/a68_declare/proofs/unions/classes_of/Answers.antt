use Rattle.std.proofs.Common.{◌≡◌, ◌<◌, ℕ, true, length, ap, ◌∙◌, arith, nat_eq, get_or, subst}
use Rattle.std.specs.Prelude.{cond}
use Rattle.std.specs.List.{list_any}
use Rattle.std.proofs.lemmas.List.{take_more}
use Rattle.std.proofs.Math.Seq.{take-length}
use Rattle.a68_declare.proofs.Clashing.{class_added}
use Rattle.a68_equiv.specs.Classes.{class_of}
use Rattle.a68_equiv.specs.Related.{as_it_stands}
use Rattle.a68_declare.proofs.unions.classes_of.Goals as goal

pub loop-member-init : goal.loop-member-init
loop-member-init c = λ class. ap (list_any (nat_eq class)) c.new-known.ensures.empty

pub loop-member-preserved : goal.loop-member-preserved
loop-member-preserved c =
    let lt : c.loop-member.member-index < length c.args.members.now = omega arith in
    let m : ℕ = get_or c.args.members.now c.loop-member.member-index 0 in
    let class : c.class-class.result ≡ class_of c.args.classes.now.of (as_it_stands m) = c.class-class.ensures ∙ ap (class_of c.args.classes.now.of) c.as_it_stands.ensures in
    let added =
    subst (λ (k : ℕ). (x : ℕ) → list_any (nat_eq x) c.insert.new.self.keys ≡ cond (nat_eq k x) true (list_any (nat_eq x) c.loop-member.known.keys)) class c.in_ok-insert.ensures.updates.0
    in
    rw (take_more c.args.members.now c.loop-member.member-index 0 lt) (class_added c.args.classes.now.of _ c.loop-member.known.keys _ m c.loop-member.invariant added)

pub returns : goal.returns
returns c =
    let all : c.loop-member.member-index ≡ length c.args.members.now = omega arith in
    rw (all, take-length) at c.loop-member.invariant

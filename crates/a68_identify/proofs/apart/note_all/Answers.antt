use Rattle.std.proofs.Common.{◌≡◌, ◌∙◌, ap, sym, subst, true, ℕ, nat_eq}
use Rattle.std.specs.Prelude.{◌||◌, cond}
use Rattle.std.specs.List.{list_any}
use Rattle.a68_equiv.proofs.Meekly.{shorter, id_of}
use Rattle.a68_equiv.specs.Classes.{class_of}
use Rattle.a68_identify.proofs.Missing.{all_on, all_end, grows_none, grows_on, grows_one, own_known}
use Rattle.a68_equiv.specs.Unfolding.{is_union, unfolded}
use Rattle.a68_identify.specs.Apart.{IsKnown}
use Rattle.a68_identify.proofs.apart.note_all.Goals as goal

pub meekly-smaller : goal.meekly-smaller
meekly-smaller c = shorter c.args.modes.now c.meek.ensures.nodes c.requires.formed c.meekly.at.id c.in-Some.next.id c.meekly.invariant.there (ap id_of (sym c.meek.ensures.step ∙ c.in-Some.is))

pub meekly-init : goal.meekly-init
meekly-init c = rw c.as_it_stands-at.ensures (record { there = c.requires.from; rest = λ final flag grows known. known })

pub returns-in_default : goal.returns-in_default
returns-in_default c =
    let nodes = c.args.modes.now in
    let classes = c.args.classes.now.of in
    let at = c.meekly.at in
    let old = c.meekly.known.keys in
    let now = c.insert.new.self.keys in
    let added = subst (λ (k : ℕ). (x : ℕ) → list_any (nat_eq x) now ≡ cond (nat_eq k x) true (list_any (nat_eq x) old)) c.class.ensures c.in_ok-insert.ensures.updates.0 in
    let met : c.either-union.result ≡ (c.meekly.union || is_union (unfolded nodes at.id)) = c.either-union.ensures ∙ ap (λ b. c.meekly.union || b) c.is_union.ensures in
    c.meekly.invariant.rest now c.either-union.result (grows_one nodes classes old now c.meekly.union c.either-union.result at c.meekly.invariant.there added met)
    (all_end nodes (IsKnown nodes classes now c.either-union.result) at (sym c.meek.ensures.step ∙ c.in_default.is)
    (own_known nodes classes old now c.meekly.union c.either-union.result at c.meekly.invariant.there added met now c.either-union.result (grows_none now c.either-union.result)))

pub meekly-preserved : goal.meekly-preserved
meekly-preserved c =
    let nodes = c.args.modes.now in
    let classes = c.args.classes.now.of in
    let at = c.meekly.at in
    let old = c.meekly.known.keys in
    let now = c.insert.new.self.keys in
    let was = c.meekly.union in
    let is = c.either-union.result in
    let added = subst (λ (k : ℕ). (x : ℕ) → list_any (nat_eq x) now ≡ cond (nat_eq k x) true (list_any (nat_eq x) old)) c.class.ensures c.in_ok-insert.ensures.updates.0 in
    let met : is ≡ (was || is_union (unfolded nodes at.id)) = c.either-union.ensures ∙ ap (λ b. was || b) c.is_union.ensures in
    record {
      there = c.in-Some.ensures.there;
      rest = λ final flag grows known. c.meekly.invariant.rest final flag
          (grows_on old now final was is flag (grows_one nodes classes old now was is at c.meekly.invariant.there added met) grows)
          (all_on nodes (IsKnown nodes classes final flag) at c.in-Some.next (sym c.meek.ensures.step ∙ c.in-Some.is)
          (own_known nodes classes old now was is at c.meekly.invariant.there added met final flag grows) known);
    }

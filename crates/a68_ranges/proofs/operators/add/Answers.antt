use Rattle.std.proofs.Common.{rules, ◌≡◌, ◌∙◌, ◌∷◌, ◌++◌, [], ℕ, List, Option, ap, sym}
use Rattle.std.specs.Prelude.{unwrap_or}
use Rattle.a68_ranges.proofs.Keys.{apart}
use Rattle.a68_ranges.specs.Tables.{at_sign}
use Rattle.a68_ranges.proofs.operators.add.Goals as goal

pub returns-in-Some : goal.returns-in-Some
returns-in-Some c =
    let u = (c.get_mut.follows.holds c.push_to.new.list).3 (search rules) in
    let there : at_sign c.args.index.now.entries c.args.range c.args.sign ≡ c.in-Some.list.now = sym (ap (λ (o : Option (List ℕ)). unwrap_or o []) c.in-Some.ensures.value) in (
      ap (λ (o : Option (List ℕ)). unwrap_or o []) u.1 ∙ c.in_ok-push_to.ensures ∙ ap (λ (xs : List ℕ). xs ++ c.args.id ∷ []) (sym there),
      λ r n h. ap (λ (o : Option (List ℕ)). unwrap_or o []) (u.2 (r, n) (apart r n c.args.range c.args.sign h)),
    )

pub returns : goal.returns
returns c =
    let u = c.in_ok-insert.ensures.updates in
    let list : c.push_to-2.new.list ≡ c.args.id ∷ [] = search rules in
    let none : at_sign c.args.index.now.entries c.args.range c.args.sign ≡ [] = sym (ap (λ (o : Option (List ℕ)). unwrap_or o []) c.in_default.ensures.value) in (
      ap (λ (o : Option (List ℕ)). unwrap_or o []) u.1 ∙ list ∙ ap (λ (xs : List ℕ). xs ++ c.args.id ∷ []) (sym none),
      λ r n h.
          let kept = rw c.get_mut.follows.holds-at-none at (u.2 (r, n) (apart r n c.args.range c.args.sign h)) in
          ap (λ (o : Option (List ℕ)). unwrap_or o []) kept,
    )

-- One rule is broken first, or none.
use Rattle.std.proofs.Common.{◌≡◌, ℕ, inl, inr, Bool, false, nat_eq, nat_lt, if◌then◌else◌, Option, Some, None, refl, sym, ap, ◌∙◌, arith}
use Rattle.std.proofs.lemmas.Bool.{false≢true}
use Rattle.std.proofs.lemmas.Bool.Decides.{nat_tests}
use Rattle.a68_refusals.proofs.Ordering.{less_below, less_equal, three}
use Rattle.a68_refusals.specs.Order.{IsFirstOf, is_before, less, rank}
use Rattle.a68_refusals.specs.declared.rule.NodeRule.{NodeRule}
use Rattle.a68_refusals.specs.declared.rule.NodeRule.TheVariants.{N1, N4, O1, C1, C2, C3, P1, P2, J1, J2}
use Rattle.a68_refusals.specs.declared.turn.Broken.{Broken}

-- neither of two numbers comes before the other
pub record AreLevel (a b : ℕ) (r s : Bool) : Type 0 where
  pub equal : a ≡ b
  pub left : r ≡ false
  pub right : s ≡ false

level : (a b : ℕ) (r s : Bool) → less a b r ≡ false → less b a s ≡ false → AreLevel a b r s
level a b r s p q = elim (three a b) [
  | inl lt ↦ absurd (false≢true (sym p ∙ less_below a b r lt))
  | inr (inl e) ↦ record { equal = e; left = sym (less_equal a b r e) ∙ p; right = sym (less_equal b a s (sym e)) ∙ q }
  | inr (inr gt) ↦ absurd (false≢true (sym q ∙ less_below b a s gt))
]

level_place : (a b : ℕ) → nat_lt a b ≡ false → nat_lt b a ≡ false → a ≡ b
level_place a b p q = grind (arith, nat_tests)

abbrev of_rank : ℕ → NodeRule
of_rank n = if nat_eq n 0 then N1 else (if nat_eq n 1 then N4 else (if nat_eq n 2 then O1 else (if nat_eq n 3 then C1 else (if nat_eq n 4 then C2 else (if nat_eq n 5 then C3 else (if nat_eq n 6 then P1 else (if nat_eq n 7 then P2 else (if nat_eq n 8 then J1 else J2))))))))

ranked : (r : NodeRule) → of_rank (rank r) ≡ r
ranked N1 = refl
ranked N4 = refl
ranked O1 = refl
ranked C1 = refl
ranked C2 = refl
ranked C3 = refl
ranked P1 = refl
ranked P2 = refl
ranked J1 = refl
ranked J2 = refl

same_rank : (r s : NodeRule) → rank r ≡ rank s → r ≡ s
same_rank r s e = sym (ranked r) ∙ ap of_rank e ∙ ranked s

made : (operand node : ℕ) → NodeRule → (place : ℕ) → Broken
made o n r p = record { operand = o; node = n; rule = r; place = p }

same_broken : (a b : Broken) → a.operand ≡ b.operand → a.node ≡ b.node → a.rule ≡ b.rule → a.place ≡ b.place → a ≡ b
unfolding made
same_broken a b o n r p =
    let one : made a.operand a.node a.rule a.place ≡ made b.operand a.node a.rule a.place = ap (λ x. made x a.node a.rule a.place) o in
    let two : made b.operand a.node a.rule a.place ≡ made b.operand b.node a.rule a.place = ap (λ x. made b.operand x a.rule a.place) n in
    let three : made b.operand b.node a.rule a.place ≡ made b.operand b.node b.rule a.place = ap (λ x. made b.operand b.node x a.place) r in
    let four : made b.operand b.node b.rule a.place ≡ made b.operand b.node b.rule b.place = ap (λ x. made b.operand b.node b.rule x) p in
    one ∙ two ∙ three ∙ four

neither : (f g : Broken) → is_before f g ≡ false → is_before g f ≡ false → f ≡ g
neither f g p q =
    let by_operand = level g.operand f.operand _ _ p q in
    let by_node = level g.node f.node _ _ by_operand.left by_operand.right in
    let by_rule = level (rank f.rule) (rank g.rule) _ _ by_node.left by_node.right in
    same_broken f g (sym by_operand.equal) (sym by_node.equal) (same_rank f.rule g.rule by_rule.equal) (level_place f.place g.place by_rule.left by_rule.right)

pub one_first : (Holds : Broken → Type 0) (f g : Option Broken) → IsFirstOf Holds f → IsFirstOf Holds g → f ≡ g
one_first Holds None None p q = refl
one_first Holds None (Some g) p q = absurd (p g q.0)
one_first Holds (Some f) None p q = absurd (q f p.0)
one_first Holds (Some f) (Some g) p q = ap Some (neither f g (q.1 f p.0) (p.1 g q.0))

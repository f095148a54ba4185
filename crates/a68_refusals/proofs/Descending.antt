-- Going down the last operands of formulas.
use Rattle.std.proofs.Common.{◌≡◌, ℕ, ◌<◌, ◌+◌, ◌-◌, suc, zero, true, false, ap, sym, ◌∙◌, refl, arith, if◌then◌else◌}
use Rattle.a68_definitions.specs.Defined.{part_from_end}
use Rattle.a68_ranges.specs.Nodes.{kind_at, parts_at}
use Rattle.a68_refusals.specs.Order.{is_formula, last_operand}
use Rattle.a68_tree.specs.Trees.{Built}

-- what is no formula is its own
pub stays : (tree : Built) (depth n : ℕ) → is_formula (kind_at tree n) ≡ false → last_operand tree depth n ≡ n
stays tree zero n e = refl
stays tree (suc depth) n e = ap (λ b. if b then last_operand tree depth (part_from_end (parts_at tree n) 1) else n) e

pub goes_down : (tree : Built) (depth n : ℕ) → is_formula (kind_at tree n) ≡ true → last_operand tree (suc depth) n ≡ last_operand tree depth (part_from_end (parts_at tree n) 1)
goes_down tree depth n e = ap (λ b. if b then last_operand tree depth (part_from_end (parts_at tree n) 1) else n) e

-- one step of the loop
pub step : (tree : Built) (end counter n : ℕ) → counter < end → is_formula (kind_at tree n) ≡ true
    → last_operand tree (end - (counter + 1)) (part_from_end (parts_at tree n) 1) ≡ last_operand tree (end - counter) n
step tree end counter n lt e =
    let less : end - counter ≡ suc (end - (counter + 1)) = omega arith in
    sym (ap (λ d. last_operand tree d n) less ∙ goes_down tree (end - (counter + 1)) n e)

pub ends : (tree : Built) (end counter n : ℕ) → end ≡ counter → last_operand tree (end - counter) n ≡ n
ends tree end counter n e = let none : end - counter ≡ 0 = omega arith in ap (λ d. last_operand tree d n) none

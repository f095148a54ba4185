-- The numbers of declarers.
use Rattle.std.proofs.Common.{◌≡◌, ◌<◌, ◌≤◌, ◌+◌, ◌-◌, ◌*◌, ◌^◌, ℕ, zero, suc, List, [], ◌∷◌, ◌++◌, Bool, true, false, nat_eq, length, refl, sym, ap, ◌∙◌, arith, subst, ⊎_elim, add-one, eqb-true}
use Rattle.std.specs.Prelude.{slice_index_or, if◌then◌else◌}
use Rattle.std.proofs.lemmas.Bool.Decides.{eqb_tells}
use Rattle.std.specs.List.{All}
use Rattle.std.proofs.lemmas.List.{length-append}
use Rattle.std.proofs.lemmas.List.Elements.{All-push}
use Rattle.std.proofs.Math.ListN.{get_or-append}
use Rattle.std.proofs.Math.Seq.{get_or-append_seam}
use Rattle.a68_declarers.specs.Declarers.{is_declarer, IsDeclarerAt, IsVoidWord}
use Rattle.a68_declarers.specs.Modes.{AreOrdered}
use Rattle.a68_declarers.specs.Numbers.{one_if, declarers, first_number, of_two, number_at, AreNumbers}
use Rattle.a68_declarers.proofs.There.{declarer_there, kind_past}
use Rattle.a68_modes.specs.declared.shape.Shape.{Shape}
use Rattle.a68_ranges.proofs.Taking.{below_or}
use Rattle.a68_ranges.specs.Nodes.{kind_at}
use Rattle.a68_tree.specs.Trees.{Built}

module _ (tree : Built) where
  pub declarers_grow : (i j : ℕ) → i ≤ j → declarers tree i ≤ declarers tree j
  declarers_grow i zero h = let e : i ≡ 0 = omega arith in subst (λ k. declarers tree k ≤ 0) (sym e) (omega arith)
  declarers_grow i (suc j) h = ⊎_elim
      (λ l. let r = declarers_grow i j (omega arith) in omega arith)
      (λ g. let e : i ≡ suc j = omega arith in subst (λ k. declarers tree k ≤ declarers tree (suc j)) (sym e) (omega arith))
      (below_or i (suc j))

  next_is : (d : ℕ) → IsDeclarerAt tree d → declarers tree (suc d) ≡ declarers tree d + 1
  next_is d is = ap (λ b. declarers tree d + one_if b) is

  pub declarers_pass : (d j : ℕ) → IsDeclarerAt tree d → d < j → declarers tree d + 1 ≤ declarers tree j
  declarers_pass d j is h = let r = declarers_grow (suc d) j (omega arith) in let e = next_is d is in omega arith

  pub each_counted : (n k : ℕ) → k < declarers tree n → (d : ℕ) × (d < n) × IsDeclarerAt tree d × (declarers tree d ≡ k)
  each_counted zero k h = absurd (omega arith)
  each_counted (suc n) k h = ⊎_elim
      (λ l. let r = each_counted n k l in let s = r.1 in (r.0, omega arith, r.2, r.3))
      (λ g. go (is_declarer (kind_at tree n)) refl h g)
      (below_or k (declarers tree n))
    where
      go : (b : Bool) → is_declarer (kind_at tree n) ≡ b → k < declarers tree n + one_if b → declarers tree n ≤ k → (d : ℕ) × (d < suc n) × IsDeclarerAt tree d × (declarers tree d ≡ k)
      go true e h g = (n, omega arith, e, omega arith)
      go false e h g = absurd (omega arith)

  pub first_is : (d : ℕ) → IsDeclarerAt tree d → first_number tree d ≡ 15 + 2 * declarers tree d
  first_is d is = ap (λ b. if b then 15 + 2 * declarers tree d else 0) is

  pub first_none : (d : ℕ) → is_declarer (kind_at tree d) ≡ false → first_number tree d ≡ 0
  first_none d is = ap (λ b. if b then 15 + 2 * declarers tree d else 0) is

  pub two : (fixed : Bool) (n : ℕ) → of_two fixed (15 + n) ≡ 15 + n + one_if fixed
  two false n = omega arith
  two true n = go (nat_eq (15 + n) 0) refl
    where
      go : (b : Bool) → nat_eq (15 + n) 0 ≡ b → (if b then 0 else 15 + n + 1) ≡ 15 + n + one_if true
      go false e = refl
      go true e = absurd (let h : 15 + n ≡ 0 = eqb-true (15 + n) 0 e in omega arith)

  module _ (numbers : List ℕ) (are : AreNumbers tree numbers) where
    pub number_is : (d : ℕ) (fixed : Bool) → IsDeclarerAt tree d → number_at numbers d fixed ≡ 15 + 2 * declarers tree d + one_if fixed
    number_is d fixed is = ap (of_two fixed) (are.each d ∙ first_is d is) ∙ two fixed (2 * declarers tree d)

    pub number_none : (d : ℕ) (fixed : Bool) → is_declarer (kind_at tree d) ≡ false → number_at numbers d fixed ≡ 0
    number_none d fixed is = ap (of_two fixed) (are.each d ∙ first_none d is) ∙ none fixed
      where
        none : (fixed : Bool) → of_two fixed 0 ≡ 0
        none true = refl
        none false = refl

    low_one : (b : Bool) → one_if b ≤ 1
    low_one true = omega arith
    low_one false = omega arith

    not_declarer : (d : ℕ) → (IsDeclarerAt tree d → ⊥) → is_declarer (kind_at tree d) ≡ false
    not_declarer d never = go (is_declarer (kind_at tree d)) refl
      where
        go : (b : Bool) → is_declarer (kind_at tree d) ≡ b → is_declarer (kind_at tree d) ≡ false
        go true e = absurd (never e)
        go false e = e

    pub number_below : (d : ℕ) (fixed : Bool) → number_at numbers d fixed < 15 + 2 * declarers tree (length tree.nodes)
    number_below d fixed = go (is_declarer (kind_at tree d)) refl
      where
        go : (b : Bool) → is_declarer (kind_at tree d) ≡ b → number_at numbers d fixed < 15 + 2 * declarers tree (length tree.nodes)
        go true e = let n = number_is d fixed e in let p = declarers_pass d (length tree.nodes) e (declarer_there tree d e) in let l = low_one fixed in omega arith
        go false e = let n = number_none d fixed e in omega arith

    pub number_void : (d : ℕ) (fixed : Bool) → IsVoidWord tree d → number_at numbers d fixed ≡ 0
    number_void d fixed is = number_none d fixed (ap is_declarer is)

    odd_or : (m : ℕ) → (k : ℕ) × (b : Bool) × (m ≡ 2 * k + one_if b)
    odd_or zero = (0, false, refl)
    odd_or (suc m) = go (odd_or m)
      where
        go : ((k : ℕ) × (b : Bool) × (m ≡ 2 * k + one_if b)) → (k : ℕ) × (b : Bool) × (suc m ≡ 2 * k + one_if b)
        go (k, false, e) = (k, true, omega arith)
        go (k, true, e) = (suc k, false, omega arith)

    pub ordered : (nodes : List Shape) → length nodes ≡ 15 + 2 * declarers tree (length tree.nodes) → AreOrdered tree nodes (number_at numbers)
    ordered nodes long = record {
      standard = omega arith;
      low = λ d fixed is. let n = number_is d fixed is in omega arith;
      onto = λ m low less. go m low less (odd_or (m - 15));
      grows = λ d e fixed other is also h.
          let n = number_is d fixed is in
          let m = number_is e other also in
          let p = declarers_pass d e is h in
          let l = low_one fixed in
          omega arith;
      none = λ d fixed never. number_none d fixed (not_declarer d never);
    }
      where
        go : (m : ℕ) → 15 ≤ m → m < length nodes → ((k : ℕ) × (b : Bool) × (m - 15 ≡ 2 * k + one_if b)) → (d : ℕ) × (fixed : Bool) × IsDeclarerAt tree d × (number_at numbers d fixed ≡ m)
        go m low less (k, b, e) =
            let r = each_counted (length tree.nodes) k (omega arith) in
            let n = number_is r.0 b r.2 in
            let s = r.3 in
            (r.0, b, r.2, omega arith)

-- the numbers of one node more
pub record NumbersMore (tree : Built) (items : List ℕ) (count next : ℕ) : Type 0 where
  pub long : length items ≡ count
  pub next_is : next ≡ 15 + 2 * declarers tree count
  pub each : (d : ℕ) → d < count → slice_index_or items d 0 ≡ first_number tree d
  pub small : All (λ m. m < 2 ^ 24) items

abbrev pub number_or : (b : Bool) → (next : ℕ) → ℕ
number_or true next = next
number_or false next = 0

abbrev pub next_or : (b : Bool) → (next : ℕ) → ℕ
next_or true next = next + 2
next_or false next = next

pub numbers_more : (tree : Built) (items : List ℕ) (i next number after : ℕ) (b : Bool) → is_declarer (kind_at tree i) ≡ b → length items ≡ i → next ≡ 15 + 2 * declarers tree i
    → ((d : ℕ) → d < i → slice_index_or items d 0 ≡ first_number tree d) → All (λ m. m < 2 ^ 24) items → next < 2 ^ 24 → number ≡ number_or b next → after ≡ next_or b next
    → NumbersMore tree (items ++ number ∷ []) (i + 1) after
numbers_more tree items i next number after b is long next_is each small low number_is after_is = record {
  long = omega (arith, length-append items (number ∷ []));
  next_is = declared b is after_is;
  each = λ d h. ⊎_elim
      (λ s. subst (λ k. slice_index_or (items ++ number ∷ []) k 0 ≡ first_number tree k) (sym s.1)
      (subst (λ k. slice_index_or (items ++ number ∷ []) k 0 ≡ first_number tree i) long (get_or-append_seam items number [] 0 ∙ first b is number_is)))
      (λ s. let n = s.1 in get_or-append items (number ∷ []) 0 d (omega arith) ∙ each d (omega arith))
      (eqb_tells d i);
  small = All-push (λ m. m < 2 ^ 24) items number small (less b number_is);
}
  where
    declared : (b : Bool) → is_declarer (kind_at tree i) ≡ b → after ≡ next_or b next → after ≡ 15 + 2 * declarers tree (i + 1)
    declared true e f = let g = ap (declarers tree) (add-one i) in let h = ap (λ b. declarers tree i + one_if b) e in omega (arith, g, h)
    declared false e f = let g = ap (declarers tree) (add-one i) in let h = ap (λ b. declarers tree i + one_if b) e in omega (arith, g, h)

    first : (b : Bool) → is_declarer (kind_at tree i) ≡ b → number ≡ number_or b next → number ≡ first_number tree i
    first true e f = f ∙ next_is ∙ sym (first_is tree i e)
    first false e f = f ∙ sym (first_none tree i e)

    less : (b : Bool) → number ≡ number_or b next → number < 2 ^ 24
    less true f = omega arith
    less false f = omega arith

pub numbers_all : (tree : Built) (items : List ℕ) → length items ≡ length tree.nodes → ((d : ℕ) → d < length tree.nodes → slice_index_or items d 0 ≡ first_number tree d) → AreNumbers tree items
numbers_all tree items long each = record {
  long = long;
  each = λ d. ⊎_elim (each d) (λ h. past_or items d (omega arith) ∙ sym (first_none tree d (ap is_declarer (kind_past tree d h)))) (below_or d (length tree.nodes));
}
  where
    past_or : (xs : List ℕ) (d : ℕ) → length xs ≤ d → slice_index_or xs d 0 ≡ 0
    past_or [] d h = refl
    past_or (x ∷ xs) zero h = absurd (omega arith)
    past_or (x ∷ xs) (suc d) h = past_or xs d (omega arith)

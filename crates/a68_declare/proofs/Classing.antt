-- The classes of modes, as they are numbered.
use Rattle.std.proofs.Common.{◌≡◌, ◌<◌, ◌≤◌, ◌+◌, ℕ, List, [], ◌∷◌, ◌++◌, Option, Some, None, length, get_or, refl, sym, ap, ◌∙◌, arith, subst, ⊎_elim}
use Rattle.std.proofs.lemmas.List.{length-append}
use Rattle.std.proofs.lemmas.Bool.Decides.{eqb_tells}
use Rattle.std.proofs.Math.ListN.{get_or-append}
use Rattle.std.proofs.Math.Seq.{get_or-append_seam}
use Rattle.a68_declare.proofs.Standing.{standard_apart, fifteen}
use Rattle.a68_declare.specs.Numbering.{class_at, at_class, IsNumberOf, IsNumbering, NodesAreNumbered}
use Rattle.a68_equiv.specs.Classes.{AreExact}
use Rattle.a68_equiv.specs.Related.{as_it_stands}
use Rattle.a68_modes.specs.Nodes.{HoldsNodes}
use Rattle.a68_modes.specs.declared.shape.Shape.{Shape}
use Rattle.a68_ranges.proofs.Taking.{some_one, below_or}

module _ (nodes : List Shape) (classes : List ℕ) (holds : HoldsNodes nodes) (exact : AreExact nodes classes) where
  -- no two standard nodes have one class
  apart : (a b : ℕ) → a < 15 → b < 15 → class_at classes a ≡ class_at classes b → a ≡ b
  apart a b h g e =
      let t = fifteen nodes holds in
      standard_apart nodes holds a b h g ((exact.exact (as_it_stands a) (as_it_stands b) (omega arith) (omega arith)).0 e)

  module _ (count : ℕ) (table : List (ℕ × ℕ)) (to firsts : List ℕ) (so : NodesAreNumbered nodes classes count table to firsts) where
    last : (number : ℕ) → get_or (to ++ number ∷ []) count 0 ≡ number
    last number = subst (λ k. get_or (to ++ number ∷ []) k 0 ≡ number) so.long (get_or-append_seam to number [] 0)

    before : (number m : ℕ) → m < count → get_or (to ++ number ∷ []) m 0 ≡ get_or to m 0
    before number m h = let l = so.long in get_or-append to (number ∷ []) 0 m (omega arith)

    longer : (number : ℕ) → length (to ++ number ∷ []) ≡ count + 1
    longer number = let l = so.long in omega (arith, length-append to (number ∷ []))

    -- the numbers before that of one more node are those of nodes before it
    in_order_on : (number : ℕ) → number ≤ length firsts → (m i : ℕ) → m < count + 1 → i < get_or (to ++ number ∷ []) m 0 → (a : ℕ) × (a < m) × (get_or (to ++ number ∷ []) a 0 ≡ i)
    in_order_on number most m i h l = ⊎_elim
        (λ s.
        let n = s.1 in
        let e : get_or (to ++ number ∷ []) m 0 ≡ number = ap (λ k. get_or (to ++ number ∷ []) k 0) s.1 ∙ last number in
        let f = so.first i (omega arith) in
        let below = f.0 in
        (get_or firsts i 0, omega arith, before number (get_or firsts i 0) f.0 ∙ f.1))
        (λ s.
        let n = s.1 in
        let e = before number m (omega arith) in
        let r = so.in_order m i (omega arith) (omega arith) in
        let below = r.1 in
        (r.0, r.1, before number r.0 (omega arith) ∙ r.2))
        (eqb_tells m count)

    pub again : (j : ℕ) → at_class table (class_at classes count) ≡ Some j → NodesAreNumbered nodes classes (count + 1) table (to ++ j ∷ []) firsts
    again j e = record {
      long = longer j;
      few = let f = so.few in omega arith;
      found = λ m h. ⊎_elim
          (λ s. subst (λ k. at_class table (class_at classes k) ≡ Some (get_or (to ++ j ∷ []) k 0)) (sym s.1) (e ∙ ap Some (sym (last j))))
          (λ s. let n = s.1 in so.found m (omega arith) ∙ ap Some (sym (before j m (omega arith)))) (eqb_tells m count);
      only = so.only;
      first = λ k h. let f = so.first k h in let l = f.0 in (omega arith, before j (get_or firsts k 0) l ∙ f.1);
      standard = λ m h l. ⊎_elim (λ s. absurd (old (let n = s.1 in omega arith))) (λ s. let n = s.1 in before j m (omega arith) ∙ so.standard m (omega arith) l) (eqb_tells m count);
      begun = λ h. absurd (old (omega arith));
      enough = λ h. ⊎_elim (λ l. absurd (old l)) (λ g. so.enough g) (below_or count 15);
      in_order = in_order_on j (let o = so.only (class_at classes count) j e in let l = o.0 in omega arith);
    }
      where
        old : count < 15 → ⊥
        old h =
            let o = so.only (class_at classes count) j e in
            let f = so.first j o.0 in
            let l = f.0 in
            let same = apart (get_or firsts j 0) count (omega arith) h o.1 in
            omega arith

    module _ (new : List (ℕ × ℕ)) (fresh : at_class table (class_at classes count) ≡ None) (put : at_class new (class_at classes count) ≡ Some (length firsts))
        (others : (c : ℕ) → (c ≡ class_at classes count → ⊥) → at_class new c ≡ at_class table c) where
      more : length (firsts ++ count ∷ []) ≡ length firsts + 1
      more = length-append firsts (count ∷ [])

      at_end : get_or (firsts ++ count ∷ []) (length firsts) 0 ≡ count
      at_end = get_or-append_seam firsts count [] 0

      in_front : (j : ℕ) → j < length firsts → get_or (firsts ++ count ∷ []) j 0 ≡ get_or firsts j 0
      in_front j h = get_or-append firsts (count ∷ []) 0 j h

      stays : (m : ℕ) → m < count → at_class new (class_at classes m) ≡ at_class table (class_at classes m)
      stays m h = others (class_at classes m) (λ e. let f : None ≡ Some (get_or to m 0) = sym fresh ∙ ap (at_class table) (sym e) ∙ so.found m h in absurd (cc))

      only_new : (class j : ℕ) → at_class new class ≡ Some j → (j < length (firsts ++ count ∷ [])) × (class_at classes (get_or (firsts ++ count ∷ []) j 0) ≡ class)
      only_new class j e = ⊎_elim
          (λ s.
          let f : length firsts ≡ j = some_one (sym put ∙ ap (at_class new) (sym s.1) ∙ e) in
          let m = more in
          (omega arith, subst (λ k. class_at classes (get_or (firsts ++ count ∷ []) k 0) ≡ class) f (ap (class_at classes) at_end ∙ sym s.1)))
          (λ s.
          let o = so.only class j (sym (others class s.1) ∙ e) in
          let l = o.0 in
          let m = more in
          (omega arith, ap (class_at classes) (in_front j o.0) ∙ o.1))
          (eqb_tells class (class_at classes count))

      first_new : (j : ℕ) → j < length (firsts ++ count ∷ []) → (get_or (firsts ++ count ∷ []) j 0 < count + 1) × (get_or (to ++ length firsts ∷ []) (get_or (firsts ++ count ∷ []) j 0) 0 ≡ j)
      first_new j h = ⊎_elim
          (λ s. subst (λ k. (get_or (firsts ++ count ∷ []) k 0 < count + 1) × (get_or (to ++ length firsts ∷ []) (get_or (firsts ++ count ∷ []) k 0) 0 ≡ k)) (sym s.1)
          ((let e = at_end in omega arith), ap (λ k. get_or (to ++ length firsts ∷ []) k 0) at_end ∙ last (length firsts)))
          (λ s.
          let n = s.1 in
          let m = more in
          let lt : j < length firsts = omega arith in
          let f = so.first j lt in
          let l = f.0 in
          let e = in_front j lt in
          (omega arith, ap (λ k. get_or (to ++ length firsts ∷ []) k 0) e ∙ before (length firsts) (get_or firsts j 0) l ∙ f.1))
          (eqb_tells j (length firsts))

      pub anew : NodesAreNumbered nodes classes (count + 1) new (to ++ length firsts ∷ []) (firsts ++ count ∷ [])
      anew = record {
        long = longer (length firsts);
        few = let f = so.few in let m = more in omega arith;
        found = λ m h. ⊎_elim
            (λ s. subst (λ k. at_class new (class_at classes k) ≡ Some (get_or (to ++ length firsts ∷ []) k 0)) (sym s.1) (put ∙ ap Some (sym (last (length firsts)))))
            (λ s. let n = s.1 in stays m (omega arith) ∙ so.found m (omega arith) ∙ ap Some (sym (before (length firsts) m (omega arith)))) (eqb_tells m count);
        only = only_new;
        first = first_new;
        standard = λ m h l. ⊎_elim
            (λ s. let n = s.1 in subst (λ k. get_or (to ++ length firsts ∷ []) k 0 ≡ k) (sym s.1) (last (length firsts) ∙ so.begun (omega arith)))
            (λ s. let n = s.1 in before (length firsts) m (omega arith) ∙ so.standard m (omega arith) l) (eqb_tells m count);
        begun = λ h. let b = so.begun (omega arith) in let m = more in omega arith;
        enough = λ h. let m = more in ⊎_elim (λ l. let b = so.begun (omega arith) in omega arith) (λ g. let e = so.enough g in omega arith) (below_or count 15);
        in_order = in_order_on (length firsts) (omega arith);
      }

    -- one node more
    pub numbered_on : (new : List (ℕ × ℕ)) (grown : List ℕ) (number : ℕ) → IsNumberOf table new firsts grown (class_at classes count) count number (at_class table (class_at classes count))
        → NodesAreNumbered nodes classes (count + 1) new (to ++ number ∷ []) grown
    numbered_on new grown number is = go (at_class table (class_at classes count)) refl is
      where
        go : (o : Option ℕ) → at_class table (class_at classes count) ≡ o → IsNumberOf table new firsts grown (class_at classes count) count number o → NodesAreNumbered nodes classes (count + 1) new (to ++ number ∷ []) grown
        go (Some j) e is = rw (is.0, is.1, is.2) (again j e)
        go None e is = rw (is.0, is.1) (anew new e is.2 is.3)

  -- all nodes
  pub all_numbered : (table : List (ℕ × ℕ)) (to firsts : List ℕ) → NodesAreNumbered nodes classes (length nodes) table to firsts → IsNumbering nodes to firsts
  all_numbered table to firsts so = record {
    long = so.long;
    there = λ m h. (so.only (class_at classes m) (get_or to m 0) (so.found m h)).0;
    firsts_there = λ j h. (so.first j h).0;
    back = λ j h. (so.first j h).1;
    same = λ a b h g. (
      λ e.
          let f = (so.only (class_at classes a) (get_or to a 0) (so.found a h)).1 in
          let k = (so.only (class_at classes b) (get_or to b 0) (so.found b g)).1 in
          (exact.exact (as_it_stands a) (as_it_stands b) h g).0 (sym f ∙ ap (λ j. class_at classes (get_or firsts j 0)) e ∙ k),
      λ eq.
          let e = (exact.exact (as_it_stands a) (as_it_stands b) h g).1 eq in
          some_one (sym (so.found a h) ∙ ap (at_class table) e ∙ so.found b g),
    );
    standard = λ m h. let t = fifteen nodes holds in so.standard m (omega arith) h;
    enough = so.enough (fifteen nodes holds);
    few = so.few;
    in_order = so.in_order;
  }

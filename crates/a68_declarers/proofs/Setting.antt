-- The nodes of declarers, as they get their shapes.
use Rattle.std.proofs.Common.{◌≡◌, ◌<◌, ◌≤◌, ◌+◌, ◌*◌, ℕ, List, Bool, true, false, length, sym, ◌∙◌, arith, subst, ⊎_elim}
use Rattle.std.proofs.lemmas.Bool.Decides.{eqb_tells}
use Rattle.a68_declarers.specs.Modes.{ModesAreDeclared}
use Rattle.a68_declarers.specs.Declarers.{form_at, IsDeclarerAt}
use Rattle.a68_declarers.specs.Numbers.{one_if, declarers, number_at, AreNumbers}
use Rattle.a68_declarers.specs.Shapes.{IsShapeOf}
use Rattle.a68_declarers.proofs.Counting.{number_is, number_below, number_void, declarers_pass}
use Rattle.a68_declarers.proofs.There.{declarer_there}
use Rattle.a68_modes.specs.Nodes.{shape_at}
use Rattle.a68_modes.specs.declared.shape.Shape.{Shape}
use Rattle.a68_modes.specs.declared.shape.Shape.TheVariants.{Blank}
use Rattle.a68_tree.specs.Trees.{Built}

-- the declarers before a node have their shapes, and those from there on none yet
pub record AreSet (tree : Built) (numbers : List ℕ) (count : ℕ) (nodes : List Shape) : Type 0 where
  pub done : (d : ℕ) (fixed : Bool) → d < count → IsDeclarerAt tree d → IsShapeOf tree (number_at numbers) d fixed (form_at tree d) (shape_at nodes (number_at numbers d fixed))
  pub blank : (d : ℕ) (fixed : Bool) → count ≤ d → IsDeclarerAt tree d → shape_at nodes (number_at numbers d fixed) ≡ Blank

-- one node has its shape, and the others are as they were
pub record IsSet (tree : Built) (numbers : List ℕ) (d : ℕ) (fixed : Bool) (old new : List Shape) : Type 0 where
  pub shape : IsShapeOf tree (number_at numbers) d fixed (form_at tree d) (shape_at new (number_at numbers d fixed))
  pub others : (m : ℕ) → (m ≡ number_at numbers d fixed → ⊥) → shape_at new m ≡ shape_at old m

module _ (tree : Built) (numbers : List ℕ) (are : AreNumbers tree numbers) where
  pub begun : (nodes : List Shape) → ((m : ℕ) → 15 ≤ m → shape_at nodes m ≡ Blank) → AreSet tree numbers 0 nodes
  begun nodes none = record {
    done = λ d fixed h. absurd (omega arith);
    blank = λ d fixed h is. none (number_at numbers d fixed) (let n = number_is tree numbers are d fixed is in omega arith);
  }

  pub passed : (i : ℕ) (nodes : List Shape) → (IsDeclarerAt tree i → ⊥) → AreSet tree numbers i nodes → AreSet tree numbers (i + 1) nodes
  passed i nodes never so = record {
    done = λ d fixed h is. ⊎_elim (λ s. absurd (never (subst (IsDeclarerAt tree) s.1 is))) (λ s. let n = s.1 in so.done d fixed (omega arith) is) (eqb_tells d i);
    blank = λ d fixed h is. so.blank d fixed (omega arith) is;
  }

  low_one : (b : Bool) → one_if b ≤ 1
  low_one true = omega arith
  low_one false = omega arith

  apart : (d e : ℕ) (fixed other : Bool) → IsDeclarerAt tree d → IsDeclarerAt tree e → d < e → number_at numbers d fixed < number_at numbers e other
  apart d e fixed other is also h =
      let n = number_is tree numbers are d fixed is in
      let m = number_is tree numbers are e other also in
      let p = declarers_pass tree d e is h in
      let l = low_one fixed in
      omega arith

  two_of : (d : ℕ) → IsDeclarerAt tree d → number_at numbers d false < number_at numbers d true
  two_of d is = let n = number_is tree numbers are d false is in let m = number_is tree numbers are d true is in omega arith

  pub two_apart : (d : ℕ) → IsDeclarerAt tree d → number_at numbers d true ≡ number_at numbers d false → ⊥
  two_apart d is e = let l = two_of d is in omega arith

  pub set_both : (i : ℕ) (one two three : List Shape) → IsDeclarerAt tree i → IsSet tree numbers i false one two → IsSet tree numbers i true two three
      → AreSet tree numbers i one → AreSet tree numbers (i + 1) three
  set_both i one two three is a b so = record {
    done = λ d fixed h dec. ⊎_elim
        (λ s. subst (λ k. IsShapeOf tree (number_at numbers) k fixed (form_at tree k) (shape_at three (number_at numbers k fixed))) (sym s.1) (here fixed))
        (λ s.
        let n = s.1 in
        subst (IsShapeOf tree (number_at numbers) d fixed (form_at tree d)) (sym (stays (number_at numbers d fixed)
        (λ e. let l = apart d i fixed false dec is (omega arith) in omega arith) (λ e. let l = apart d i fixed true dec is (omega arith) in omega arith)))
        (so.done d fixed (omega arith) dec))
        (eqb_tells d i);
    blank = λ d fixed h dec.
        stays (number_at numbers d fixed) (λ e. let l = apart i d false fixed is dec (omega arith) in omega arith) (λ e. let l = apart i d true fixed is dec (omega arith) in omega arith)
        ∙ so.blank d fixed (omega arith) dec;
  }
    where
      stays : (m : ℕ) → (m ≡ number_at numbers i false → ⊥) → (m ≡ number_at numbers i true → ⊥) → shape_at three m ≡ shape_at one m
      stays m f t = b.others m t ∙ a.others m f

      here : (fixed : Bool) → IsShapeOf tree (number_at numbers) i fixed (form_at tree i) (shape_at three (number_at numbers i fixed))
      here true = b.shape
      here false = subst (IsShapeOf tree (number_at numbers) i false (form_at tree i)) (sym (b.others (number_at numbers i false) (λ e. let l = two_of i is in omega arith))) a.shape

  pub all_set : (i : ℕ) (nodes : List Shape) → length tree.nodes ≤ i → length nodes ≡ 15 + 2 * declarers tree (length tree.nodes) → AreSet tree numbers i nodes → ModesAreDeclared tree nodes (number_at numbers)
  all_set i nodes h long so = record {
    there = λ d fixed. let b = number_below tree numbers are d fixed in omega arith;
    void = number_void tree numbers are;
    shapes = λ d fixed is. so.done d fixed (let l = declarer_there tree d is in omega arith) is;
  }

-- The graph of the modes is what it is to be.
use Rattle.std.proofs.Common.{◌≡◌, ◌<◌, ◌*◌, ◌+◌, ◌++◌, ℕ, List, [], ◌∷◌, Bool, true, false, length, get_or, refl, sym, ap, ◌∙◌, arith, subst, below_more, length-append}
use Rattle.std.specs.List.{All}
use Rattle.std.proofs.lemmas.List.Elements.{All-from_get_or, Contains-get_or}
use Rattle.std.proofs.Math.ListN.{get_or-append}
use Rattle.std.proofs.Math.Seq.{get_or-append_seam}
use Rattle.a68_modes.specs.declared.shape.Shape.{Shape}
use Rattle.a68_modes.specs.Nodes.{shape_at, HoldsNodes}
use Rattle.a68_equiv.specs.declared.mode.Mode.{Mode}
use Rattle.a68_equiv.specs.declared.steps.Inward.TheVariants.{WithinUnions}
use Rattle.a68_equiv.specs.Ways.{steps_of}
use Rattle.a68_equiv.specs.Unfolding.{unfolded, is_union, SameConstructor}
use Rattle.a68_partition.specs.Rows.{Stands, row_at}
use Rattle.a68_equiv.specs.Graph.{number_of, mode_of, AreBehind, code_of, HasCode, IsRowOf, IsShapeRow, AreRows, IsGraphOf}
use Rattle.a68_partition.specs.Rounds.{ByFirst, IsWired}
use Rattle.a68_equiv.proofs.Grasp.{behind_below}
use Rattle.a68_partition.proofs.Numbering.{OneKey}
use Rattle.a68_equiv.proofs.Parting.{row_here}
use Rattle.a68_equiv.proofs.Numbers.{mode_number, number_below, mode_below}
use Rattle.a68_equiv.proofs.Coding.{from_code, to_code, union_made}

pub one_code : (nodes : List Shape) → OneKey (HasCode nodes)
one_code nodes m x y p q = p ∙ sym q

pub head_below : (nodes : List Shape) (behind : List ℕ) → HoldsNodes nodes → AreBehind nodes behind → (m : ℕ) → m < length nodes → get_or behind m 0 < length nodes
head_below nodes behind holds are m h = rw (are.each m h) (behind_below nodes holds (length nodes) m h)

pub mode_there : (nodes : List Shape) (i : ℕ) (m : Mode) → m ≡ mode_of i → i < 2 * length nodes → m.id < length nodes
mode_there nodes i m e h = subst (λ (n : Mode). n.id < length nodes) (sym e) (mode_below (length nodes) i h)

pub has_code : (nodes : List Shape) (behind : List ℕ) → AreBehind nodes behind → (i : ℕ) (m : Mode) (s : Shape) (key : List ℕ) → m ≡ mode_of i → m.id < length nodes → s ≡ shape_at nodes (get_or behind m.id 0) → key ≡ code_of m.fixed s → HasCode nodes i key
has_code nodes behind are i m s key e lt se k =
    subst (λ (n : Mode). key ≡ code_of n.fixed (unfolded nodes n.id)) e (k ∙ ap (code_of m.fixed) (se ∙ ap (shape_at nodes) (are.each m.id lt)))

-- one row more
pub rows_more : (nodes : List Shape) (rows : List (Bool × List ℕ)) (i : ℕ) (m : Mode) (row : Bool × List ℕ) → AreRows nodes i rows → m ≡ mode_of i → IsRowOf nodes m row → row.0 ≡ is_union (unfolded nodes m.id) → AreRows nodes (i + 1) (rows ++ row ∷ [])
rows_more nodes rows i m row so e is kind = record {
  long = let l = so.long in omega (arith, length-append rows (row ∷ []));
  rows_are = below_more _ _ (λ j h. rw (earlier j h) (so.rows_are j h)) (rw last (subst (λ (n : Mode). IsRowOf nodes n row) e is));
  kinds = below_more _ _ (λ j h. rw (earlier j h) (so.kinds j h)) (rw last (subst (λ (n : Mode). row.0 ≡ is_union (unfolded nodes n.id)) e kind));
}
  where
    earlier : (j : ℕ) → j < i → row_at (rows ++ row ∷ []) j ≡ row_at rows j
    earlier j h = let l = so.long in get_or-append rows (row ∷ []) (false, []) j (omega arith)

    last : row_at (rows ++ row ∷ []) i ≡ row
    last = subst (λ (k : ℕ). row_at (rows ++ row ∷ []) k ≡ row) so.long (get_or-append_seam rows row [] (false, []))

-- both rows of one node more
pub both_more : (nodes : List Shape) → HoldsNodes nodes → (rows one two : List (Bool × List ℕ)) (id : ℕ) (start : List ℕ) (s : Shape) (kept taken : Bool × List ℕ) → id < length nodes → AreRows nodes (2 * id) rows
    → start ≡ steps_of WithinUnions (unfolded nodes id) → s ≡ unfolded nodes id → IsShapeRow nodes start s false kept → IsShapeRow nodes start s true taken
    → one ≡ rows ++ kept ∷ [] → two ≡ one ++ taken ∷ [] → AreRows nodes (2 * (id + 1)) two
both_more nodes holds rows one two id start s kept taken less so from is k t first second =
    let free : Mode = record { id = id; fixed = false } in
    let bound : Mode = record { id = id; fixed = true } in
    let a : IsShapeRow nodes (steps_of WithinUnions (unfolded nodes id)) (unfolded nodes id) false kept = rw (← from, ← is) k in
    let b : IsShapeRow nodes (steps_of WithinUnions (unfolded nodes id)) (unfolded nodes id) true taken = rw (← from, ← is) t in
    let here : free ≡ mode_of (2 * id) = sym (mode_number free) ∙ ap mode_of (let e : number_of free ≡ 2 * id = omega arith in e) in
    let next : bound ≡ mode_of (2 * id + 1) = sym (mode_number bound) in
    let once = rows_more nodes rows (2 * id) free kept so here (row_here nodes holds free kept less a) a.kind in
    let twice = rows_more nodes (rows ++ kept ∷ []) (2 * id + 1) bound taken once next (row_here nodes holds bound taken less b) b.kind in
    let count : 2 * id + 1 + 1 ≡ 2 * (id + 1) = omega arith in
    rw (second, first) (subst (λ (n : ℕ). AreRows nodes n ((rows ++ kept ∷ []) ++ taken ∷ [])) count twice)

abbrev code_at : List Shape → ℕ → List ℕ
code_at nodes i = code_of (mode_of i).fixed (unfolded nodes (mode_of i).id)

pub stands_at : (u : Bool) (items : List ℕ) (k : ℕ) → k < length items → (place : ℕ) × Stands u items place (get_or items k 0)
stands_at true items k h = (0, (refl, Contains-get_or items k 0 h))
stands_at false items k h = (k, (h, refl))

-- a row has numbers of modes that are there
pub row_below : (nodes : List Shape) (a : Mode) (row : Bool × List ℕ) → IsRowOf nodes a row → All (λ w. w < 2 * length nodes) row.1
row_below nodes a row is = All-from_get_or (λ w. w < 2 * length nodes) row.1 0 (λ k lt.
    let s = stands_at row.0 row.1 k lt in
    let p = is.only s.0 (get_or row.1 k 0) s.1 in
    rw p.3 (number_below (length nodes) p.0 p.1))

module _ (nodes : List Shape) (heads : List ℕ) (rows : List (Bool × List ℕ)) (by : ByFirst (2 * length nodes) (HasCode nodes) heads) (are : AreRows nodes (2 * length nodes) rows) where
  same_code : (i j : ℕ) → i < 2 * length nodes → j < 2 * length nodes → get_or heads i 0 ≡ get_or heads j 0 → code_at nodes i ≡ code_at nodes j
  same_code i j h g e =
      let p = (by.first i h).1 in
      let q = (by.first j g).1 in
      sym p.1 ∙ p.2 ∙ ap (code_at nodes) e ∙ sym q.2 ∙ q.1

  same_made : (i j : ℕ) → i < 2 * length nodes → j < 2 * length nodes → get_or heads i 0 ≡ get_or heads j 0 → SameConstructor nodes (mode_of i) (mode_of j)
  same_made i j h g e = from_code (mode_of i).fixed (mode_of j).fixed (unfolded nodes (mode_of i).id) (unfolded nodes (mode_of j).id) (same_code i j h g e)

  same_kind : (i j : ℕ) → i < 2 * length nodes → j < 2 * length nodes → SameConstructor nodes (mode_of i) (mode_of j) → (row_at rows i).0 ≡ (row_at rows j).0
  same_kind i j h g e =
      are.kinds i h ∙ sym (union_made (mode_of i).fixed (unfolded nodes (mode_of i).id)) ∙ ap is_union e ∙ union_made (mode_of j).fixed (unfolded nodes (mode_of j).id) ∙ sym (are.kinds j g)

  pub graph : IsGraphOf nodes heads rows
  graph = record {
    heads_long = by.long;
    rows_long = are.long;
    low = λ v h. let l = by.long in (by.first v (omega arith)).0;
    heads_tell = λ a b h g. (
      λ e. subst (λ (m : Mode). SameConstructor nodes m b) (mode_number a) (subst (λ (m : Mode). SameConstructor nodes (mode_of (number_of a)) m) (mode_number b) (same_made (number_of a) (number_of b) (number_below (length nodes) a h) (number_below (length nodes) b g) e)),
      λ e. by.same (number_of a) (number_of b) (number_below (length nodes) a h) (number_below (length nodes) b g)
          (code_at nodes (number_of a), refl, to_code (mode_of (number_of a)).fixed (mode_of (number_of b)).fixed (unfolded nodes (mode_of (number_of a)).id) (unfolded nodes (mode_of (number_of b)).id) (back a b e)),
    );
    rows_are = λ a h. subst (λ (m : Mode). IsRowOf nodes m (row_at rows (number_of a))) (mode_number a) (are.rows_are (number_of a) (number_below (length nodes) a h));
    kinds = λ a h. subst (λ (m : Mode). (row_at rows (number_of a)).0 ≡ is_union (unfolded nodes m.id)) (mode_number a) (are.kinds (number_of a) (number_below (length nodes) a h));
    unions = λ a b h g e. same_kind (number_of a) (number_of b) (number_below (length nodes) a h) (number_below (length nodes) b g) (back a b e);
  }
    where
      back : (a b : Mode) → SameConstructor nodes a b → SameConstructor nodes (mode_of (number_of a)) (mode_of (number_of b))
      back a b e = subst (λ (m : Mode). SameConstructor nodes m (mode_of (number_of b))) (sym (mode_number a)) (subst (λ (m : Mode). SameConstructor nodes a m) (sym (mode_number b)) e)

  pub wired : IsWired heads rows
  wired = record {
    long = by.long ∙ sym are.long;
    low = λ v h. (by.first v (within v h)).0;
    closed = λ v h. rw are.long (row_below nodes (mode_of v) (row_at rows v) (are.rows_are v (within v h)));
    kinds = λ v w h g e. same_kind v w (within v h) (within w g) (same_made v w (within v h) (within w g) e);
  }
    where
      within : (v : ℕ) → v < length rows → v < 2 * length nodes
      within v h = let l = are.long in omega arith

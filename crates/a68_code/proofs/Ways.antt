-- What the walk keeps, and why it decides.
use Rattle.std.proofs.Common.{◌≡◌, ◌<◌, ◌≤◌, ◌⊎◌, ◌++◌, ◌+◌, ℕ, suc, Bool, true, false, cond, refl, List, [], ◌∷◌, IsTrue, length, get_or, replicate, sym, ap, ◌∙◌, arith, subst, inl, inr, Option, Some, None, ⊎_elim}
use Rattle.std.proofs.lemmas.List.{length-replicate, get_or-replicate, get_or_past, nil_from_length}
use Rattle.std.proofs.lemmas.Option.{none-some, same_Some}
use Rattle.std.proofs.lemmas.Bool.{cases_lt}
use Rattle.std.specs.List.{Contains}
use Rattle.std.proofs.lemmas.List.Elements.{Contains-push_cases, Contains-push, Contains-append_left}
use Rattle.a68_modes.specs.declared.shape.Shape.{Shape}
use Rattle.std.specs.Prelude.{◌||◌, nat_eq}
use Rattle.a68_code.specs.Flow.{does_at, one_if, takes, leaves, leaves_to, last_place, landings, entrances, Reaches, MayMeet}
use Rattle.a68_code.specs.Flow.Reaches.{begins, goes_on, lands}
use Rattle.a68_code.specs.Operands.{is_well_made}
use Rattle.a68_modes.specs.Nodes.{shape_at, is_void}
use Rattle.a68_code.specs.Valid.{IsValid}
use Rattle.a68_code.proofs.Mapping.{contains_map, from_map}
use Rattle.a68_code.specs.Walk.{Heights, Places, Knows, ways, at_height, unknown, FitsAt, NotesAll, AnyClashes, NotesWays, StepFails, AreHeights, Agree, AllAgree}
use Rattle.a68_code.proofs.Noting.{unknown-replicate}
use Rattle.a68_code.specs.declared.code.Code.{Code}
use Rattle.a68_code.specs.declared.does.Does.{Does}
use Rattle.a68_code.specs.declared.does.Does.TheVariants.{Apply, Skip, Leave, Call, Goto, Member}
use Rattle.a68_code.specs.declared.owner.Owner.{Owner}
use Rattle.a68_code.specs.declared.owner.Owner.TheVariants as owner

-- the owner may meet the instruction at this place, which finds what it takes, and each place where the machine goes on has
-- its height
pub record Passed (code : Code) (whose : Owner) (heights : Heights) (at height : ℕ) : Type 0 where
  pub does : Does
  pub is : does_at code.list at ≡ Some does
  pub meets : MayMeet whose does height
  pub below : ℕ
  pub finds : below + takes does ≡ height
  pub onward : (to known : ℕ) → Contains (ways code.modes at does below) (to, known) → Knows heights to known

none_left : (q : ℕ × ℕ) → Contains [] q → ⊥
none_left q i = let h = i.1 in omega arith

pub record Halfway (code : Code) (whose : Owner) (heights : Heights) (todo : Places) : Type 0 where
  pub long : length heights ≡ length code.list
  pub first : (at : ℕ) → Contains (entrances code whose) at → Knows heights at 0
  pub sound : (at height : ℕ) → Knows heights at height → Reaches code whose at height
  pub noted : (at height : ℕ) → Contains todo (at, height) → Knows heights at height
  pub closed : (at height : ℕ) → Knows heights at height → Contains todo (at, height) ⊎ Passed code whose heights at height
  pub small : (at height : ℕ) → Knows heights at height → height + unknown heights < length heights

-- a place is taken off
pub taken : (code : Code) (whose : Owner) (heights : Heights) (todo rest : Places) (at height : ℕ) → todo ≡ rest ++ (at, height) ∷ [] → Halfway code whose heights todo → Knows heights at height
taken code whose heights todo rest at height e h = h.noted at height (subst (λ (t : Places). Contains t (at, height)) (sym e) (Contains-push rest (at, height)))

within_table : (heights : Heights) (at height : ℕ) → Knows heights at height → at < length heights
within_table heights at height k = ⊎_elim (λ lt. lt) (λ ge. absurd (let e : get_or heights at None ≡ None = get_or_past heights at None ge in cc)) (cases_lt at (length heights))

pub taken_within : (code : Code) (whose : Owner) (heights : Heights) (todo rest : Places) (at height : ℕ) → todo ≡ rest ++ (at, height) ∷ [] → Halfway code whose heights todo → at < length code.list
taken_within code whose heights todo rest at height e h = let k = within_table heights at height (taken code whose heights todo rest at height e h) in let l = h.long in omega arith

pub taken_small : (code : Code) (whose : Owner) (heights : Heights) (todo rest : Places) (at height : ℕ) → todo ≡ rest ++ (at, height) ∷ [] → Halfway code whose heights todo → height < length code.list
taken_small code whose heights todo rest at height e h = let k = h.small at height (taken code whose heights todo rest at height e h) in let l = h.long in omega arith

-- a place among those where the machine goes on stands among the ways with its height
pub way_to : (modes : List Shape) (at : ℕ) (does : Does) (below to : ℕ) → Contains (landings at does) to → Contains (ways modes at does below) (to, below + leaves_to modes does to)
way_to modes at (Goto place frames height gives) below to i =
    let next = contains_map (λ (x : ℕ). (x, below + leaves modes (Goto place frames height gives))) ((at + 1) ∷ []) to i in
    (suc next.0, let inside = next.1 in omega arith, next.2)
way_to modes at does below to i = contains_map (λ (x : ℕ). (x, below + leaves_to modes does x)) (landings at does) to i

-- and so does that of a jump to a label
pub way_of_jump : (modes : List Shape) (at to frames height : ℕ) (gives : Bool) (below : ℕ) → Contains (ways modes at (Goto to frames height gives) below) (to, height)
way_of_jump modes at to frames height gives below = (0, omega arith, refl)

-- the instruction is a jump to this place, which leaves so many values
abbrev LandsAt : Does → (to height : ℕ) → Type 0
LandsAt does to height = (frames : ℕ) × (gives : Bool) × (does ≡ Goto to frames height gives)

-- and what stands among the ways is one of these
way_from : (modes : List Shape) (at : ℕ) (does : Does) (below to height : ℕ) → Contains (ways modes at does below) (to, height)
    → (Contains (landings at does) to × (height ≡ below + leaves_to modes does to)) ⊎ LandsAt does to height
way_from modes at (Goto place frames kept gives) below to height i = ⊎_elim
    (λ first. ⊎_elim (λ none. absurd (none_left (to, height) none)) (λ e. inr (lands_so e)) (Contains-push_cases [] (place, kept) (to, height) first))
    (λ e. inl (behind e, sym (ap (λ (q : ℕ × ℕ). q.1) e)))
    (Contains-push_cases ((place, kept) ∷ []) (at + 1, below + leaves modes (Goto place frames kept gives)) (to, height) i)
  where
    lands_so : ◌≡◌ {A = ℕ × ℕ} (place, kept) (to, height) → LandsAt (Goto place frames kept gives) to height
    lands_so e =
        let there : place ≡ to = ap (λ (q : ℕ × ℕ). q.0) e in
        let left : kept ≡ height = ap (λ (q : ℕ × ℕ). q.1) e in
        (frames, gives, ap (λ (n : ℕ). Goto n frames kept gives) there ∙ ap (λ (n : ℕ). Goto to frames n gives) left)

    behind : ◌≡◌ {A = ℕ × ℕ} (at + 1, below + leaves modes (Goto place frames kept gives)) (to, height) → Contains ((at + 1) ∷ []) to
    behind e = (0, omega arith, ap (λ (q : ℕ × ℕ). q.0) e)
way_from modes at does below to height i =
    let w = from_map (λ (x : ℕ). (x, below + leaves_to modes does x)) (landings at does) (to, height) i in
    let here : to ≡ w.0 = ap (λ (q : ℕ × ℕ). q.0) w.2 in
    inl (subst (Contains (landings at does)) (sym here) w.1, ap (λ (q : ℕ × ℕ). q.1) w.2 ∙ ap (λ (x : ℕ). below + leaves_to modes does x) (sym here))

-- nowhere does an instruction leave more values than it leaves at most
leaves_to_most : (modes : List Shape) (does : Does) (to : ℕ) → leaves_to modes does to ≤ leaves modes does
leaves_to_most modes (Member mode places whole) to = most (nat_eq to (last_place places))
  where
    most : (b : Bool) → cond b 0 1 ≤ 1
    most true = omega arith
    most false = omega arith
leaves_to_most modes does to = omega arith

-- and the walk goes on from it
module _ (code : Code) (whose : Owner) (heights : Heights) (todo rest : Places) (at height : ℕ) (does : Does)
    (e : todo ≡ rest ++ (at, height) ∷ []) (h : Halfway code whose heights todo) (is : does_at code.list at ≡ Some does) where
  before : (x k : ℕ) → Contains rest (x, k) → Contains todo (x, k)
  before x k i = subst (λ (t : Places). Contains t (x, k)) (sym e) (Contains-append_left rest ((at, height) ∷ []) (x, k) i)

  here : Knows heights at height
  here = taken code whose heights todo rest at height e h

  onward : (below to : ℕ) → below + takes does ≡ height → Contains (landings at does) to → Reaches code whose to (below + leaves_to code.modes does to)
  onward below to finds i = goes_on below (subst (λ (n : ℕ). Reaches code whose at n) (sym finds) (h.sound at height here)) is i

  led : (below : ℕ) → below + takes does ≡ height → (x k : ℕ) → Contains (ways code.modes at does below) (x, k) → Reaches code whose x k
  led below finds x k i = ⊎_elim
      (λ w. subst (λ (n : ℕ). Reaches code whose x n) (sym w.1) (onward below x finds w.0))
      (λ l. let cut : takes does ≡ k = ap takes l.2 in lands below (subst (λ (n : ℕ). Reaches code whose at n) (omega arith) (h.sound at height here)) (is ∙ ap (λ (d : Does). Some d) l.2))
      (way_from code.modes at does below x k i)

  leaving_few : (below x k : ℕ) → Contains (ways code.modes at does below) (x, k) → k ≤ below + leaves code.modes does
  leaving_few below x k i = ⊎_elim
      (λ w. let e = w.1 in let m = leaves_to_most code.modes does x in omega arith)
      (λ l. let e : leaves code.modes does ≡ k + one_if l.1 = ap (leaves code.modes) l.2 in omega arith)
      (way_from code.modes at does below x k i)

  pub halfway_on : (heights' : Heights) (todo' : Places) → leaves code.modes does ≤ takes does + 1 → NotesWays code.modes whose at does height heights rest heights' todo' → Halfway code whose heights' todo'
  halfway_on heights' todo' one (meets, (below, finds, v)) = record {
    long = v.long ∙ h.long;
    first = λ x i. v.kept x 0 (h.first x i);
    sound = λ x k g. ⊎_elim (λ old. h.sound x k old) (λ new. led below finds x k new.0) (v.only x k g);
    noted = λ x k i. ⊎_elim (λ old. v.kept x k (h.noted x k (before x k old))) (λ g. g) (v.noted x k i);
    closed = λ x k g. ⊎_elim (λ old. was x k (h.closed x k old)) (λ new. inl new.1) (v.only x k g);
    small = λ x k g. ⊎_elim (λ old. let a = h.small x k old in let b = v.fewer in let c = v.long in omega arith) (λ new. let a = h.small at height here in let b = leaving_few below x k new.0 in let d = new.2 in let c = v.long in omega arith) (v.only x k g);
  }
    where
      was : (x k : ℕ) → Contains todo (x, k) ⊎ Passed code whose heights x k → Contains todo' (x, k) ⊎ Passed code whose heights' x k
      was x k (inr p) = inr (record { does = p.does; is = p.is; meets = p.meets; below = p.below; finds = p.finds; onward = λ to known i. v.kept to known (p.onward to known i) })
      was x k (inl i) = ⊎_elim (λ j. inl (v.onward x k j)) (λ same. inr (just x k same)) (Contains-push_cases rest (at, height) (x, k) (subst (λ (t : Places). Contains t (x, k)) e i))
        where
          just : (x k : ℕ) → ◌≡◌ {A = ℕ × ℕ} (at, height) (x, k) → Passed code whose heights' x k
          just x k same = subst (λ (q : ℕ × ℕ). Passed code whose heights' q.0 q.1) same (record { does = does; is = is; meets = meets; below = below; finds = finds; onward = λ to known i. v.all to known i })

  pub not_valid : StepFails code.modes whose at does height heights → IsValid code → ⊥
  not_valid (inl never) valid = never (valid.ends whose at height does (h.sound at height here) is)
  not_valid (inr (inl few)) valid = let enough = valid.supplied whose at height does (h.sound at height here) is in absurd (omega arith)
  not_valid (inr (inr (below, finds, inl (to, k, i, inl past)))) valid = let inside = valid.within whose to k (led below finds to k i) in let long = h.long in absurd (omega arith)
  not_valid (inr (inr (below, finds, inl (to, k, i, inr (other, knows, differs))))) valid = differs (valid.agreed whose whose to other k (h.sound to other knows) (led below finds to k i))
  not_valid (inr (inr (below, finds, inr (to, one, other, i, j, differs)))) valid = differs (valid.agreed whose whose to one other (led below finds to one i) (led below finds to other j))

-- an instruction with operands that it may have leaves at most one value more than it takes
pub leaves_one : (modes : List Shape) (texts count : ℕ) (does : Does) → IsTrue (is_well_made modes texts count does) → leaves modes does ≤ takes does + 1
leaves_one modes texts count (Leave kept) w = omega arith
leaves_one modes texts count (Skip mode) w = cond_of (is_void (shape_at modes mode))
  where
    cond_of : (b : Bool) → cond b 0 1 ≤ 1
    cond_of true = omega arith
    cond_of false = omega arith
leaves_one modes texts count (Apply r) w = cond_of (nat_eq r 35 || nat_eq r 36)
  where
    cond_of : (b : Bool) → cond b 0 1 ≤ takes (Apply r) + 1
    cond_of true = omega arith
    cond_of false = omega arith
leaves_one modes texts count (Call n true) w = omega arith
leaves_one modes texts count (Call n false) w = omega arith
leaves_one modes texts count (Goto to frames height true) w = omega arith
leaves_one modes texts count (Goto to frames height false) w = omega arith
leaves_one modes texts count _ w = omega arith

-- nothing is left to do
pub heights_from : (code : Code) (whose : Owner) (heights : Heights) (todo : Places) → length todo ≡ 0 → Halfway code whose heights todo → AreHeights code whose heights
heights_from code whose heights todo none h = record {
  long = h.long;
  sound = h.sound;
  complete = λ at height r. complete r;
  supplied = λ at height does k is. supplied at height does is (passed at height k);
  ends = λ at height does k is. let p = passed at height k in subst (λ (d : Does). MayMeet whose d height) (same_Some p.does does (sym p.is ∙ is)) p.meets;
}
  where
    passed : (at height : ℕ) → Knows heights at height → Passed code whose heights at height
    passed at height k = ⊎_elim (λ i. absurd (none_left (at, height) (subst (λ (t : Places). Contains t (at, height)) (nil_from_length todo none) i))) (λ p. p) (h.closed at height k)

    supplied : (at height : ℕ) (does : Does) → does_at code.list at ≡ Some does → Passed code whose heights at height → takes does ≤ height
    supplied at height does is p = let same : p.does ≡ does = same_Some p.does does (sym p.is ∙ is) in let f = p.finds in let g : takes p.does ≡ takes does = ap takes same in omega arith

    goes : (at below to known : ℕ) (does : Does) → does_at code.list at ≡ Some does → Contains (ways code.modes at does below) (to, known) → Passed code whose heights at (below + takes does) → Knows heights to known
    goes at below to known does is i p =
        let same : p.does ≡ does = same_Some p.does does (sym p.is ∙ is) in
        let f = p.finds in
        let g : takes p.does ≡ takes does = ap takes same in
        let e : p.below ≡ below = omega arith in
        let there : Contains (ways code.modes at does p.below) (to, known) = subst (λ (n : ℕ). Contains (ways code.modes at does n) (to, known)) (sym e) i in
        p.onward to known (subst (λ (d : Does). Contains (ways code.modes at d p.below) (to, known)) (sym same) there)

    complete : {at height : ℕ} → Reaches code whose at height → Knows heights at height
    complete (begins i) = h.first _ i
    complete (goes_on {at = at} {to = to} {does = does} below r is i) =
        goes at below to (below + leaves_to code.modes does to) does is (way_to code.modes at does below to i) (passed at (below + takes does) (complete r))
    complete (lands {at = at} {to = to} {frames = frames} {height = height} {gives = gives} below r is) =
        goes at below to height (Goto to frames height gives) is (way_of_jump code.modes at to frames height gives below) (passed at (below + height) (complete r))

-- ---- the walk before its first step

no_height : (count at height : ℕ) → Knows (replicate count None) at height → ⊥
no_height count at height k = none-some height (sym none ∙ k)
  where
    unset : Option ℕ
    unset = None

    none : get_or (replicate count unset) at None ≡ None
    none = ⊎_elim (λ lt. get_or-replicate count at None None lt) (λ ge. get_or_past (replicate count unset) at None (let l = length-replicate count unset in omega arith)) (cases_lt at count)

at_entrance : (places : List ℕ) (at height : ℕ) → Contains (at_height 0 places) (at, height) → Contains places at × (height ≡ 0)
at_entrance places at height i =
    let w = from_map (λ (x : ℕ). (x, 0)) places (at, height) i in
    (subst (Contains places) (sym (ap (λ (q : ℕ × ℕ). q.0) w.2)) w.1, ap (λ (q : ℕ × ℕ). q.1) w.2)

-- the walk comes to the entrances
pub halfway_first : (code : Code) (whose : Owner) (places : List ℕ) (heights : Heights) (todo : Places) → places ≡ entrances code whose
    → NotesAll (at_height 0 places) (replicate (length code.list) None) [] heights todo → Halfway code whose heights todo
halfway_first code whose places heights todo same v = record {
  long = v.long ∙ length-replicate (length code.list) unset;
  first = λ at i. v.all at 0 (contains_map (λ (x : ℕ). (x, 0)) places at (subst (λ (ps : List ℕ). Contains ps at) (sym same) i));
  sound = λ at height k. ⊎_elim (λ old. absurd (no_height (length code.list) at height old))
      (λ new. let w = at_entrance places at height new.0 in subst (λ (n : ℕ). Reaches code whose at n) (sym w.1) (begins (subst (λ (ps : List ℕ). Contains ps at) same w.0))) (v.only at height k);
  noted = λ at height i. ⊎_elim (λ old. absurd (none_left (at, height) old)) (λ k. k) (v.noted at height i);
  closed = λ at height k. ⊎_elim (λ old. absurd (no_height (length code.list) at height old)) (λ new. inl new.1) (v.only at height k);
  small = λ at height k. ⊎_elim (λ old. absurd (no_height (length code.list) at height old))
      (λ new. let a = (at_entrance places at height new.0).1 in let b = new.2 in let c = unknown-replicate (length code.list) in let l = length-replicate (length code.list) unset in let m = v.long in omega arith) (v.only at height k);
}
  where
    unset : Option ℕ
    unset = None

-- an entrance is behind the list, or has another height than 0
pub no_entrance : (code : Code) (whose : Owner) (places : List ℕ) → places ≡ entrances code whose → AnyClashes (at_height 0 places) (replicate (length code.list) None) → IsValid code → ⊥
no_entrance code whose places same (inl (to, height, i, inl past)) valid =
    let inside = valid.within whose to 0 (begins (subst (λ (ps : List ℕ). Contains ps to) same (at_entrance places to height i).0)) in
    let l = length-replicate (length code.list) unset in absurd (omega arith)
  where
    unset : Option ℕ
    unset = None
no_entrance code whose places same (inl (to, height, i, inr (other, knows, differs))) valid = absurd (no_height (length code.list) to other knows)
no_entrance code whose places same (inr (to, one, other, i, j, differs)) valid = differs ((at_entrance places to one i).1 ∙ sym (at_entrance places to other j).1)

-- ---- all owners

-- tables of the heights that the ways of all owners come to
pub record AllHeights (code : Code) (program yielding others units : Heights) : Type 0 where
  pub of_program : AreHeights code owner.Program program
  pub of_yielding : AreHeights code (owner.Texts true) yielding
  pub of_others : AreHeights code (owner.Texts false) others
  pub of_units : AreHeights code owner.Units units

table_of : (program yielding others units : Heights) → Owner → Heights
table_of program yielding others units owner.Program = program
table_of program yielding others units (owner.Texts true) = yielding
table_of program yielding others units (owner.Texts false) = others
table_of program yielding others units owner.Units = units

known_in : (code : Code) (program yielding others units : Heights) → AllHeights code program yielding others units → (whose : Owner) → AreHeights code whose (table_of program yielding others units whose)
unfolding table_of
known_in code program yielding others units all owner.Program = all.of_program
known_in code program yielding others units all (owner.Texts true) = all.of_yielding
known_in code program yielding others units all (owner.Texts false) = all.of_others
known_in code program yielding others units all owner.Units = all.of_units

agrees_with_itself : (heights : Heights) → Agree heights heights
agrees_with_itself heights at one other k l = same_Some one other (sym k ∙ l)

pub valid_from : (code : Code) (program yielding others units : Heights) → 0 < length code.list → ((at : ℕ) → FitsAt code at) → AllHeights code program yielding others units
    → AllAgree program yielding others units → IsValid code
unfolding table_of
valid_from code program yielding others units first fits all (py, po, pu, yo, yu, ou) = record {
  begins = λ e. let n : length code.list ≡ 0 = ap length e in omega arith;
  well_made = λ at does is. (fits at does is).0;
  in_order = λ at does is. (fits at does is).1;
  within = λ whose at height r. let h = known whose in let k = within_table (table whose) at height (h.complete at height r) in let l = h.long in omega arith;
  supplied = λ whose at height does r is. let h = known whose in h.supplied at height does (h.complete at height r) is;
  ends = λ whose at height does r is. let h = known whose in h.ends at height does (h.complete at height r) is;
  agreed = λ whose whom at one other r q. agree whose whom at one other ((known whose).complete at one r) ((known whom).complete at other q);
}
  where
    table : Owner → Heights
    table = table_of program yielding others units

    known : (whose : Owner) → AreHeights code whose (table_of program yielding others units whose)
    known = known_in code program yielding others units all

    agree : (whose whom : Owner) → Agree (table_of program yielding others units whose) (table_of program yielding others units whom)
    agree owner.Program owner.Program = agrees_with_itself program
    agree owner.Program (owner.Texts true) = py
    agree owner.Program (owner.Texts false) = po
    agree owner.Program owner.Units = pu
    agree (owner.Texts true) owner.Program = λ at one other k l. sym (py at other one l k)
    agree (owner.Texts true) (owner.Texts true) = agrees_with_itself yielding
    agree (owner.Texts true) (owner.Texts false) = yo
    agree (owner.Texts true) owner.Units = yu
    agree (owner.Texts false) owner.Program = λ at one other k l. sym (po at other one l k)
    agree (owner.Texts false) (owner.Texts true) = λ at one other k l. sym (yo at other one l k)
    agree (owner.Texts false) (owner.Texts false) = agrees_with_itself others
    agree (owner.Texts false) owner.Units = ou
    agree owner.Units owner.Program = λ at one other k l. sym (pu at other one l k)
    agree owner.Units (owner.Texts true) = λ at one other k l. sym (yu at other one l k)
    agree owner.Units (owner.Texts false) = λ at one other k l. sym (ou at other one l k)
    agree owner.Units owner.Units = agrees_with_itself units

pub agree_where_valid : (code : Code) (whose whom : Owner) (heights others : Heights) → AreHeights code whose heights → AreHeights code whom others → IsValid code → Agree heights others
agree_where_valid code whose whom heights others h o valid at one other k l = valid.agreed whose whom at one other (h.sound at one k) (o.sound at other l)

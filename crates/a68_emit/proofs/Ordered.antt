-- Routine texts and units of parallel clauses, numbered in order of text.
use Rattle.std.proofs.Common.{◌≡◌, ◌<◌, ◌≤◌, ◌+◌, ℕ, zero, suc, Bool, true, false, List, [], ◌∷◌, ◌++◌, length, drop, get_or, refl, sym, ◌∙◌, ap, subst, arith, add-one, append_assoc, length-append, None, Some, slice_get, slice_set, ⊎_elim}
use Rattle.std.proofs.lemmas.Bool.{cases_lt, eqb-true, eqb-false}
use Rattle.std.proofs.lemmas.List.{drop_all}
use Rattle.std.proofs.lemmas.Option.{same_Some, slice_get_read, slice_get_within}
use Rattle.std.specs.Option.{option_map_or}
use Rattle.std.specs.Prelude.{map, max, nat_eq, slice_index_or, ◌&&◌, if◌then◌else◌}
use Rattle.std.specs.declared.option.Option.{Option}
use Rattle.a68_annot.specs.declared.annotated.Annotated.{Annotated}
use Rattle.a68_elab.specs.Made.{beginning_at, behind_all, bytes_of, is_parallel, is_routine_text, or_other, text_among, text_number, texts_before, unit_among, unit_in, unit_number, units_before}
use Rattle.a68_elab.specs.Programs.{apart_before, body_of, parallel_unit_of}
use Rattle.a68_elab.specs.Trees.{Apart, routine_text, parallel_unit}
use Rattle.a68_emit.proofs.Entering.{map-behind}
use Rattle.a68_emit.specs.declared.entered.Entered.{Entered}
use Rattle.a68_emit.specs.declared.entered.UnitNode.{UnitNode}
use Rattle.a68_emit.proofs.Fronts.{get-front, get-behind}
use Rattle.a68_emit.specs.Texts.{AreFirsts, AreFirstUnits, AreInside, AreNumbered, IsInside, apart_of, entered_text, entered_unit, listed, listed_unit, up_to}
use Rattle.a68_tree.specs.declared.node.Node.{Node}

-- the list from one of its items on
pub drop_at : {X : Type 0} (xs : List X) (i : ℕ) (x : X) → slice_get xs i ≡ Some x → drop i xs ≡ x ∷ drop (i + 1) xs
drop_at [] i x e = absurd (cc)
drop_at (y ∷ xs) zero x e = ap (λ z. z ∷ xs) (same_Some y x e)
drop_at (y ∷ xs) (suc i) x e = let z : suc i + 1 ≡ suc (i + 1) = omega arith in rw z (drop_at xs i x e)

-- one node more
pub behind_more : (nodes : List Node) (i end : ℕ) (n : Node) → slice_get nodes i ≡ Some n → end ≡ behind_all (drop (i + 1) nodes) → max (suc n.span.from) end ≡ behind_all (drop i nodes)
behind_more nodes i end n e is = rw (drop_at nodes i n e, is) refl

pub behind_none : (nodes : List Node) → 0 ≡ behind_all (drop (length nodes) nodes)
behind_none nodes = let all : drop (length nodes) nodes ≡ [] = drop_all (length nodes) nodes (omega arith) in rw all refl

-- each node begins before the last byte
pub all-before : (ns : List Node) (i : ℕ) (n : Node) → slice_get ns i ≡ Some n → n.span.from < behind_all ns
all-before [] i n e = absurd (cc)
all-before (m ∷ ns) zero n e = let s = ap (λ (x : Node). x.span.from) (same_Some m n e) in omega arith
all-before (m ∷ ns) (suc i) n e = let s = all-before ns i n e in omega arith

-- ---- the first routine text at each byte

index-set : {X : Type 0} (xs : List X) (i : ℕ) (x d : X) → i < length xs → slice_index_or (slice_set xs i x) i d ≡ x
index-set [] i x d less = absurd (omega arith)
index-set (y ∷ xs) zero x d less = refl
index-set (y ∷ xs) (suc i) x d less = index-set xs i x d (omega arith)

index-kept : {X : Type 0} (xs : List X) (i j : ℕ) (x d : X) → (i ≡ j → ⊥) → slice_index_or (slice_set xs i x) j d ≡ slice_index_or xs j d
index-kept [] i j x d other = refl
index-kept (y ∷ xs) zero zero x d other = absurd (other refl)
index-kept (y ∷ xs) zero (suc j) x d other = refl
index-kept (y ∷ xs) (suc i) zero x d other = refl
index-kept (y ∷ xs) (suc i) (suc j) x d other = index-kept xs i j x d (λ e. other (ap (λ (n : ℕ). suc n) e))

pub set-long : {X : Type 0} (xs : List X) (i : ℕ) (x : X) → length (slice_set xs i x) ≡ length xs
set-long [] i x = refl
set-long (y ∷ xs) zero x = refl
set-long (y ∷ xs) (suc i) x = ap (λ (n : ℕ). suc n) (set-long xs i x)

-- what begins at a byte, from a node on
among_at : (a : Annotated) (byte i : ℕ) (n : Node) → slice_get a.tree.nodes i ≡ Some n
    → text_among byte i (drop i a.tree.nodes) ≡ (if is_routine_text n.kind && nat_eq n.span.from byte then i ∷ [] else text_among byte (suc i) (drop (i + 1) a.tree.nodes))
among_at a byte i n e = ap (λ (ns : List Node). text_among byte i ns) (drop_at a.tree.nodes i n e)

next : (i : ℕ) → i + 1 ≡ suc i
next i = omega arith

-- a routine text is noted where it begins
pub firsts_more : (a : Annotated) (table : List (Option ℕ)) (i : ℕ) (n : Node) → slice_get a.tree.nodes i ≡ Some n → is_routine_text n.kind ≡ true → AreFirsts a (i + 1) table
    → AreFirsts a i (slice_set table n.span.from (Some i))
firsts_more a table i n e k f = record {
  long = set-long table n.span.from (Some i) ∙ f.long;
  each = λ byte less. let short : byte < length table = (let l = set-long table n.span.from (Some i) in omega arith) in go byte short (nat_eq n.span.from byte) refl;
}
  where
    go : (byte : ℕ) → byte < length table → (t : Bool) → nat_eq n.span.from byte ≡ t
        → listed (slice_index_or (slice_set table n.span.from (Some i)) byte None) ≡ text_among byte i (drop i a.tree.nodes)
    go byte less true w =
        let here : n.span.from ≡ byte = eqb-true n.span.from byte w in
        let found : slice_index_or (slice_set table n.span.from (Some i)) byte None ≡ Some i =
        subst (λ (z : ℕ). slice_index_or (slice_set table n.span.from (Some i)) z None ≡ Some i) here (index-set table n.span.from (Some i) None (let x = here in omega arith)) in
        ap listed found ∙ sym (among_at a byte i n e ∙ ap (λ (t : Bool). if t && nat_eq n.span.from byte then i ∷ [] else text_among byte (suc i) (drop (i + 1) a.tree.nodes)) k
        ∙ ap (λ (t : Bool). if t then i ∷ [] else text_among byte (suc i) (drop (i + 1) a.tree.nodes)) w)
    go byte less false w =
        ap listed (index-kept table n.span.from byte (Some i) None (eqb-false n.span.from byte w)) ∙ f.each byte less
        ∙ ap (λ (z : ℕ). text_among byte z (drop (i + 1) a.tree.nodes)) (next i)
        ∙ sym (among_at a byte i n e ∙ ap (λ (t : Bool). if t && nat_eq n.span.from byte then i ∷ [] else text_among byte (suc i) (drop (i + 1) a.tree.nodes)) k
        ∙ ap (λ (t : Bool). if t then i ∷ [] else text_among byte (suc i) (drop (i + 1) a.tree.nodes)) w)

-- another node changes nothing
pub firsts_same : (a : Annotated) (table : List (Option ℕ)) (i : ℕ) (n : Node) → slice_get a.tree.nodes i ≡ Some n → is_routine_text n.kind ≡ false → AreFirsts a (i + 1) table → AreFirsts a i table
firsts_same a table i n e k f = record {
  long = f.long;
  each = λ byte less.
      f.each byte less ∙ ap (λ (z : ℕ). text_among byte z (drop (i + 1) a.tree.nodes)) (next i)
      ∙ sym (among_at a byte i n e ∙ ap (λ (t : Bool). if t && nat_eq n.span.from byte then i ∷ [] else text_among byte (suc i) (drop (i + 1) a.tree.nodes)) k);
}

-- behind the last node none is noted
pub firsts_none : (a : Annotated) (table : List (Option ℕ)) → length table ≡ behind_all a.tree.nodes → ((byte : ℕ) → byte < length table → slice_index_or table byte None ≡ None)
    → AreFirsts a (length a.tree.nodes) table
firsts_none a table long none = record {
  long = long;
  each = λ byte less.
      let all : drop (length a.tree.nodes) a.tree.nodes ≡ [] = drop_all (length a.tree.nodes) a.tree.nodes (omega arith) in
      ap listed (none byte less) ∙ sym (ap (λ (ns : List Node). text_among byte (length a.tree.nodes) ns) all);
}

-- ---- the first unit at each byte

-- what begins at a byte, from a node on
units_at : (a : Annotated) (byte i : ℕ) (n : Node) → slice_get a.tree.nodes i ≡ Some n
    → unit_among a byte (drop i a.tree.nodes) ≡ or_other (unit_in a byte n) (unit_among a byte (drop (i + 1) a.tree.nodes))
units_at a byte i n e = ap (λ (ns : List Node). unit_among a byte ns) (drop_at a.tree.nodes i n e)

-- one unit of a parallel clause in front of others
unit_more : (a : Annotated) (place from p : ℕ) (ps : List ℕ) (m : Node) (table : List (Option UnitNode)) → slice_get a.tree.nodes p ≡ Some m → AreFirstUnits a place ps from table
    → AreFirstUnits a place (p ∷ ps) from (slice_set table m.span.from (Some (record { place = place; id = p })))
unit_more a place from p ps m table e f = record {
  long = set-long table at (Some u) ∙ f.long;
  each = λ byte less. go byte (short byte less) (nat_eq at byte) refl;
  inside = λ byte less. go_inside byte (short byte less) (nat_eq at byte) refl;
}
  where
    at : ℕ
    at = m.span.from

    u : UnitNode
    u = record { place = place; id = p }

    others : ℕ → List (ℕ × ℕ)
    others byte = unit_among a byte (drop from a.tree.nodes)

    short : (byte : ℕ) → byte < length (slice_set table m.span.from (Some (record { place = place; id = p }))) → byte < length table
    short byte less = let l = set-long table m.span.from (Some (record { place = place; id = p })) in omega arith

    begins : (bytes_of a p).from ≡ m.span.from
    begins = ap (λ (o : Option Node). (option_map_or (λ (n : Node). n.span) o (record { from = 0; to = 0 })).from) e

    found : (byte : ℕ) → byte < length table → nat_eq m.span.from byte ≡ true
        → slice_index_or (slice_set table m.span.from (Some (record { place = place; id = p }))) byte None ≡ Some (record { place = place; id = p })
    found byte less w =
        let here : m.span.from ≡ byte = eqb-true m.span.from byte w in
        let one : Option UnitNode = Some (record { place = place; id = p }) in
        subst (λ (z : ℕ). slice_index_or (slice_set table m.span.from one) z None ≡ one) here (index-set table m.span.from one None (omega (arith, here, less)))

    go : (byte : ℕ) → byte < length table → (t : Bool) → nat_eq m.span.from byte ≡ t
        → listed_unit (slice_index_or (slice_set table m.span.from (Some (record { place = place; id = p }))) byte None)
        ≡ or_other (map (λ id. (place, id)) (if nat_eq (bytes_of a p).from byte then p ∷ [] else beginning_at a byte ps)) (unit_among a byte (drop from a.tree.nodes))
    go byte less true w =
        let front : Bool → List (ℕ × ℕ) = λ t. or_other (map (λ id. (place, id)) (if t then p ∷ [] else beginning_at a byte ps)) (unit_among a byte (drop from a.tree.nodes)) in
        ap listed_unit (found byte less w) ∙ sym (ap (λ (z : ℕ). front (nat_eq z byte)) begins ∙ ap front w)
    go byte less false w =
        let front : Bool → List (ℕ × ℕ) = λ t. or_other (map (λ id. (place, id)) (if t then p ∷ [] else beginning_at a byte ps)) (unit_among a byte (drop from a.tree.nodes)) in
        ap listed_unit (index-kept table m.span.from byte (Some (record { place = place; id = p })) None (eqb-false m.span.from byte w)) ∙ f.each byte less
        ∙ sym (ap (λ (z : ℕ). front (nat_eq z byte)) begins ∙ ap front w)

    go_inside : (byte : ℕ) → byte < length table → (t : Bool) → nat_eq m.span.from byte ≡ t
        → IsInside (length a.tree.nodes) (slice_index_or (slice_set table m.span.from (Some (record { place = place; id = p }))) byte None)
    go_inside byte less true w = subst (λ (o : Option UnitNode). IsInside (length a.tree.nodes) o) (sym (found byte less w)) (slice_get_within a.tree.nodes p m e)
    go_inside byte less false w =
        subst (λ (o : Option UnitNode). IsInside (length a.tree.nodes) o)
        (sym (index-kept table m.span.from byte (Some (record { place = place; id = p })) None (eqb-false m.span.from byte w))) (f.inside byte less)

pub units_more : (a : Annotated) (place from j p : ℕ) (parts : List ℕ) (m : Node) (table : List (Option UnitNode)) → slice_get a.tree.nodes p ≡ Some m → slice_get parts j ≡ Some p
    → AreFirstUnits a place (drop (j + 1) parts) from table → AreFirstUnits a place (drop j parts) from (slice_set table m.span.from (Some (record { place = place; id = p })))
units_more a place from j p parts m table e there f =
    subst (λ (ps : List ℕ). AreFirstUnits a place ps from (slice_set table m.span.from (Some (record { place = place; id = p })))) (sym (drop_at parts j p there))
    (unit_more a place from p (drop (j + 1) parts) m table e f)

-- none of the units of a parallel clause is noted yet
pub units_begin : (a : Annotated) (place from : ℕ) (parts : List ℕ) (table : List (Option UnitNode)) → AreFirstUnits a 0 [] from table → AreFirstUnits a place (drop (length parts) parts) from table
units_begin a place from parts table f =
    let none : drop (length parts) parts ≡ [] = drop_all (length parts) parts (omega arith) in
    subst (λ (ps : List ℕ). AreFirstUnits a place ps from table) (sym none) (record { long = f.long; each = f.each; inside = f.inside })

-- all of them are
pub units_node : (a : Annotated) (table : List (Option UnitNode)) (i : ℕ) (n : Node) → slice_get a.tree.nodes i ≡ Some n → is_parallel n.kind ≡ true
    → AreFirstUnits a n.span.from n.parts (i + 1) table → AreFirstUnits a 0 [] i table
units_node a table i n e k f = record {
  long = f.long;
  each = λ byte less.
      f.each byte less
      ∙ sym (units_at a byte i n e
      ∙ ap (λ (t : Bool). or_other (if t then map (λ id. (n.span.from, id)) (beginning_at a byte n.parts) else []) (unit_among a byte (drop (i + 1) a.tree.nodes))) k);
  inside = f.inside;
}

-- another node changes nothing
pub units_same : (a : Annotated) (table : List (Option UnitNode)) (i : ℕ) (n : Node) → slice_get a.tree.nodes i ≡ Some n → is_parallel n.kind ≡ false
    → AreFirstUnits a 0 [] (i + 1) table → AreFirstUnits a 0 [] i table
units_same a table i n e k f = record {
  long = f.long;
  each = λ byte less.
      f.each byte less
      ∙ sym (units_at a byte i n e
      ∙ ap (λ (t : Bool). or_other (if t then map (λ id. (n.span.from, id)) (beginning_at a byte n.parts) else []) (unit_among a byte (drop (i + 1) a.tree.nodes))) k);
  inside = f.inside;
}

-- behind the last node none is noted
pub units_none : (a : Annotated) (table : List (Option UnitNode)) → length table ≡ behind_all a.tree.nodes → ((byte : ℕ) → byte < length table → slice_index_or table byte None ≡ None)
    → AreFirstUnits a 0 [] (length a.tree.nodes) table
units_none a table long none = record {
  long = long;
  each = λ byte less.
      let all : drop (length a.tree.nodes) a.tree.nodes ≡ [] = drop_all (length a.tree.nodes) a.tree.nodes (omega arith) in
      ap listed_unit (none byte less) ∙ sym (ap (λ (ns : List Node). unit_among a byte ns) all);
  inside = λ byte less. subst (λ (o : Option UnitNode). IsInside (length a.tree.nodes) o) (sym (none byte less)) tt;
}

-- ---- the numbers

-- what stands apart and begins before a byte, and the numbers so far
pub record Numbers (a : Annotated) (byte : ℕ) (apart : List Entered) (texts units : List ℕ) (text_count unit_count : ℕ) : Type 0 where
  pub are : map (apart_of a) apart ≡ apart_before a byte
  pub inside : AreInside (length a.tree.nodes) apart
  pub texts_by_byte : texts ≡ up_to (text_number a) byte
  pub units_by_byte : units ≡ up_to (unit_number a) byte
  pub texts_are : text_count ≡ text_number a byte
  pub units_are : unit_count ≡ unit_number a byte
  pub few_texts : text_count ≤ byte
  pub few_units : unit_count ≤ byte

inside-append : (n : ℕ) (xs ys : List Entered) → AreInside n xs → AreInside n ys → AreInside n (xs ++ ys)
inside-append n [] ys p q = q
inside-append n (x ∷ xs) ys p q = (p.0, inside-append n xs ys p.1 q)

unit_inside : (n : ℕ) (u : Option UnitNode) → IsInside n u → AreInside n (entered_unit u)
unit_inside n None i = tt
unit_inside n (Some u) i = (i, tt)

-- a routine text that begins at a byte is one of the nodes
among_inside : (byte from : ℕ) (ns : List Node) (id : ℕ) → text_among byte from ns ≡ id ∷ [] → id < from + length ns
among_inside byte from [] id e = absurd (cc)
among_inside byte from (n ∷ ns) id e = go (is_routine_text n.kind && nat_eq n.span.from byte) e (among_inside byte (suc from) ns id)
  where
    go : (t : Bool) → (if t then from ∷ [] else text_among byte (suc from) ns) ≡ id ∷ [] → (text_among byte (suc from) ns ≡ id ∷ [] → id < suc from + length ns) → id < from + length (n ∷ ns)
    go true e later = let h : from ≡ id = (cc) in omega arith
    go false e later = let l = later e in omega arith

text_inside : (a : Annotated) (byte : ℕ) (t : Option ℕ) → listed t ≡ text_among byte 0 a.tree.nodes → AreInside (length a.tree.nodes) (entered_text t)
text_inside a byte None e = tt
text_inside a byte (Some id) e = (let l = among_inside byte 0 a.tree.nodes id (sym e) in omega arith, tt)

of_unit : (a : Annotated) (u : Option UnitNode) → map (apart_of a) (entered_unit u) ≡ map (λ x. parallel_unit (parallel_unit_of a x)) (listed_unit u)
of_unit a None = refl
of_unit a (Some u) = refl

of_text : (a : Annotated) (t : Option ℕ) → map (apart_of a) (entered_text t) ≡ map (λ id. routine_text (body_of a id)) (listed t)
of_text a None = refl
of_text a (Some id) = refl

one_text : (t : Option ℕ) → length (listed t) ≤ 1
one_text None = omega arith
one_text (Some x) = omega arith

one_unit : (u : Option UnitNode) → length (listed_unit u) ≤ 1
one_unit None = omega arith
one_unit (Some x) = omega arith

-- one byte more
pub numbers_more : (a : Annotated) (byte : ℕ) (t : Option ℕ) (u : Option UnitNode) (apart more : List Entered) (texts texts' units units' : List ℕ) (tc tc' uc uc' : ℕ)
    → Numbers a byte apart texts units tc uc → listed t ≡ text_among byte 0 a.tree.nodes → listed_unit u ≡ unit_among a byte a.tree.nodes → IsInside (length a.tree.nodes) u
    → more ≡ (apart ++ entered_unit u) ++ entered_text t → texts' ≡ texts ++ tc ∷ [] → units' ≡ units ++ uc ∷ [] → tc' ≡ tc + length (listed t) → uc' ≡ uc + length (listed_unit u)
    → Numbers a (byte + 1) more texts' units' tc' uc'
numbers_more a byte t u apart more texts texts' units units' tc tc' uc uc' n et eu inside em ts us ct cu =
    rw add-one (record {
      are =
          ap (λ (l : List Entered). map (apart_of a) l) em
          ∙ map-behind (apart_of a) (apart ++ entered_unit u) (entered_text t)
          ∙ ap (λ (l : List Apart). l ++ map (apart_of a) (entered_text t)) (map-behind (apart_of a) apart (entered_unit u))
          ∙ append_assoc (map (apart_of a) apart) (map (apart_of a) (entered_unit u)) (map (apart_of a) (entered_text t))
          ∙ ap (λ (l : List Apart). l ++ (map (apart_of a) (entered_unit u) ++ map (apart_of a) (entered_text t))) n.are
          ∙ ap (λ (l : List Apart). apart_before a byte ++ (l ++ map (apart_of a) (entered_text t))) (of_unit a u ∙ ap (λ (l : List (ℕ × ℕ)). map (λ x. parallel_unit (parallel_unit_of a x)) l) eu)
          ∙ ap (λ (l : List Apart). apart_before a byte ++ (map (λ x. parallel_unit (parallel_unit_of a x)) (unit_among a byte a.tree.nodes) ++ l))
          (of_text a t ∙ ap (λ (l : List ℕ). map (λ id. routine_text (body_of a id)) l) et);
      inside =
          subst (λ (l : List Entered). AreInside (length a.tree.nodes) l) (sym em)
          (inside-append (length a.tree.nodes) (apart ++ entered_unit u) (entered_text t)
          (inside-append (length a.tree.nodes) apart (entered_unit u) n.inside (unit_inside (length a.tree.nodes) u inside)) (text_inside a byte t et));
      texts_by_byte = ts ∙ ap (λ (l : List ℕ). l ++ tc ∷ []) n.texts_by_byte ∙ ap (λ (k : ℕ). up_to (text_number a) byte ++ k ∷ []) n.texts_are;
      units_by_byte = us ∙ ap (λ (l : List ℕ). l ++ uc ∷ []) n.units_by_byte ∙ ap (λ (k : ℕ). up_to (unit_number a) byte ++ k ∷ []) n.units_are;
      texts_are =
          ct ∙ ap (λ (k : ℕ). k + length (listed t)) n.texts_are ∙ ap (λ (l : List ℕ). text_number a byte + length l) et
          ∙ sym (length-append (texts_before a byte) (text_among byte 0 a.tree.nodes));
      units_are =
          cu ∙ ap (λ (k : ℕ). k + length (listed_unit u)) n.units_are ∙ ap (λ (l : List (ℕ × ℕ)). unit_number a byte + length l) eu
          ∙ sym (length-append (units_before a byte) (unit_among a byte a.tree.nodes));
      few_texts = (let l = one_text t in let f = n.few_texts in omega arith);
      few_units = (let l = one_unit u in let f = n.few_units in omega arith);
    })

-- before the first byte
pub numbers_none : (a : Annotated) (apart : List Entered) (texts units : List ℕ) → apart ≡ [] → texts ≡ [] → units ≡ [] → Numbers a 0 apart texts units 0 0
numbers_none a apart texts units ea et eu = record {
  are = ap (λ (l : List Entered). map (apart_of a) l) ea;
  inside = subst (λ (l : List Entered). AreInside (length a.tree.nodes) l) (sym ea) tt;
  texts_by_byte = et;
  units_by_byte = eu;
  texts_are = refl;
  units_are = refl;
  few_texts = omega arith;
  few_units = omega arith;
}

-- behind the last one
pub all_numbered : (a : Annotated) (end : ℕ) (apart : List Entered) (texts units : List ℕ) (tc uc : ℕ) → end ≡ behind_all a.tree.nodes → Numbers a end apart texts units tc uc → AreNumbered a apart texts units
all_numbered a end apart texts units tc uc e n = record {
  are = n.are ∙ ap (λ (k : ℕ). apart_before a k) e;
  inside = n.inside;
  texts_by_byte = n.texts_by_byte ∙ ap (λ (k : ℕ). up_to (text_number a) k) e;
  units_by_byte = n.units_by_byte ∙ ap (λ (k : ℕ). up_to (unit_number a) k) e;
}

module _ (f : ℕ → ℕ) where
  pub up_to_long : (end : ℕ) → length (up_to f end) ≡ end
  up_to_long zero = refl
  up_to_long (suc end) = let l = up_to_long end in omega (arith, length-append (up_to f end) (f end ∷ []))

  below : (i n : ℕ) → i < suc n → (i ≡ n → ⊥) → i < n
  below i n l other = ⊎_elim (λ lt. lt) (λ ge. absurd (other (omega (arith, l, ge)))) (cases_lt i n)

  -- the number at one of them
  up_to_at : (end byte : ℕ) → byte < end → slice_get (up_to f end) byte ≡ Some (f byte)
  up_to_at zero byte less = absurd (omega arith)
  up_to_at (suc end) byte less = go (nat_eq byte end) refl (λ l. up_to_at end byte l)
    where
      go : (t : Bool) → nat_eq byte end ≡ t → (byte < end → slice_get (up_to f end) byte ≡ Some (f byte)) → slice_get (up_to f end ++ f end ∷ []) byte ≡ Some (f byte)
      go true w earlier =
          let here : byte ≡ end = eqb-true byte end w in
          let place : byte ≡ length (up_to f end) + 0 = (let l = up_to_long end in omega arith) in
          ap (λ (z : ℕ). slice_get (up_to f end ++ f end ∷ []) z) place ∙ get-behind (up_to f end) (f end ∷ []) 0 ∙ ap (λ (z : ℕ). Some (f z)) (sym here)
      go false w earlier = get-front (up_to f end) (f end ∷ []) byte (f byte) (earlier (below byte end less (eqb-false byte end w)))

  -- what is read there
  pub number_is : (numbers : List ℕ) (end byte n : ℕ) → numbers ≡ up_to f end → byte < end → n ≡ get_or numbers byte n → n ≡ f byte
  number_is numbers end byte n are less e =
      let long : length numbers ≡ end = ap (λ (l : List ℕ). length l) are ∙ up_to_long end in
      let there = slice_get_read numbers (length numbers) byte n refl (omega arith) e in
      same_Some n (f byte) (sym there ∙ ap (λ (l : List ℕ). slice_get l byte) are ∙ up_to_at end byte less)

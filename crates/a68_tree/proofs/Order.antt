-- In the order of adding, every part stands before its node; in the turned list, behind it.
use Rattle.std.proofs.Common.{◌≡◌, ℕ, suc, zero, ◌+◌, ◌-◌, ◌<◌, ◌≤◌, List, [], ◌∷◌, ◌++◌, length, map, reverse, slice_get, Option, None, Some, refl, sym, ap, subst, ◌∙◌, arith, length-append}
use Rattle.std.specs.Option.{option_map}
use Rattle.std.proofs.lemmas.List.{map_push, reverse-append, length-map, length-reverse}
use Rattle.std.proofs.lemmas.Option.{slice_get-map}
use Rattle.a68_symbols.specs.declared.symbol.Symbol.{Symbol}
use Rattle.a68_tree.specs.declared.kind.NodeKind.{NodeKind}
use Rattle.a68_tree.specs.declared.kind.NodeKind.TheVariants.{Sign}
use Rattle.a68_tree.specs.declared.node.Node.{Node}
use Rattle.a68_symbols.specs.declared.sym.Sym.{Sym}
use Rattle.a68_symbols.specs.declared.sym.Sym.TheVariants.{Closes, Is}
use Rattle.a68_tree.specs.Forest.{Forest, end, mark, group, part, sign, aside, shared, forget, spells}
use Rattle.a68_tree.specs.Nodes.{Entry, signs, signed, nodes, numbers, with_under, entry_of, with_node, turned, turned_entry, node_of}
use Rattle.a68_tree.specs.Trees.{AllBetween, entries}

abbrev AllBelow : ℕ → List ℕ → Type 0
AllBelow n [] = Unit {0}
AllBelow n (p ∷ ps) = (p < n) × AllBelow n ps

below_more : (n m : ℕ) (ps : List ℕ) → n ≤ m → AllBelow n ps → AllBelow m ps
below_more n m [] h b = tt
below_more n m (p ∷ ps) h b = (omega (arith, b.0, h), below_more n m ps h b.1)

below_append : (n : ℕ) (ps qs : List ℕ) → AllBelow n ps → AllBelow n qs → AllBelow n (ps ++ qs)
below_append n [] qs a b = b
below_append n (p ∷ ps) qs a b = (a.0, below_append n ps qs a.1 b)

data Ordered : List Entry → Type 0 where
  nothing : Ordered []
  one_more : {es : List Entry} (e : Entry) → Ordered es → AllBelow (length es) e.parts → Ordered (es ++ e ∷ [])

length_signed : (old : List Entry) (f : Forest) (r : List Sym) → length (signed old f r) ≡ length old + signs f
length_signed old end r = omega arith
length_signed old (mark t f) r = length_signed old f r
length_signed old (group b i f) r = omega (arith, length_signed (signed old f r) i (Closes b ∷ spells f r), length_signed old f r)
length_signed old (part k u f) r = length_signed old f r
length_signed old (sign t f) r = length_one old f r (record { kind = Sign; before = length (Is t ∷ spells f r); after = length (spells f r); named = length (Is t ∷ spells f r); parts = [] }) (length_signed old f r)
  where
    length_one : (old : List Entry) (f : Forest) (r : List Sym) (e : Entry) → length (signed old f r) ≡ length old + signs f → length (signed old f r ++ e ∷ []) ≡ length old + (signs f + 1)
    length_one old f r e h = let a = length-append (signed old f r) (e ∷ []) in omega (arith, a, h)
length_signed old (aside k u f) r = length_signed old f r
length_signed old (shared f) r = length_signed old f r
length_signed old (forget f) r = length_signed old f r

pub length_under : (old : List Entry) (kept : List ℕ) (u : Forest) (r : List Sym) → length (with_under old kept u r) ≡ length (nodes old kept u r) + signs u
length_under old kept u r = length_signed (nodes old kept u r) u r

pub length_with : (old : List Entry) (kept : List ℕ) (k : NodeKind) (u : Forest) (r : List Sym) → length (with_node old kept k u r) ≡ length (nodes old kept u r) + signs u + 1
length_with old kept k u r =
    let a = length-append (with_under old kept u r) (entry_of old kept k u r ∷ []) in
    let b = length_under old kept u r in omega (arith, a, b)

grows : (old : List Entry) (kept : List ℕ) (f : Forest) (r : List Sym) → length old ≤ length (nodes old kept f r)
grows old kept end r = omega arith
grows old kept (mark t f) r = grows old kept f r
grows old kept (group b i f) r =
    let x = grows old kept i (Closes b ∷ spells f r) in
    let y = grows (nodes old kept i (Closes b ∷ spells f r)) kept f r in omega (arith, x, y)
grows old kept (part k u f) r =
    let x = grows old kept u (spells f r) in
    let y = grows (with_node old kept k u (spells f r)) kept f r in
    let z = length_with old kept k u (spells f r) in omega (arith, x, y, z)
grows old kept (sign t f) r = grows old kept f r
grows old kept (aside k u f) r =
    let x = grows old kept u (spells f r) in
    let y = grows (with_node old kept k u (spells f r)) (kept ++ length (with_under old kept u (spells f r)) ∷ []) f r in
    let z = length_with old kept k u (spells f r) in omega (arith, x, y, z)
grows old kept (shared f) r = grows old kept f r
grows old kept (forget f) r = grows old [] f r

-- what is kept stays below
kept_more : (old : List Entry) (kept : List ℕ) (k : NodeKind) (u : Forest) (r : List Sym) → AllBelow (length old) kept → AllBelow (length (with_node old kept k u r)) kept
kept_more old kept k u r h = below_more (length old) (length (with_node old kept k u r)) kept (let x = grows old kept u r in let z = length_with old kept k u r in omega (arith, x, z)) h

kept_aside : (old : List Entry) (kept : List ℕ) (k : NodeKind) (u : Forest) (r : List Sym) → AllBelow (length old) kept → AllBelow (length (with_node old kept k u r)) (kept ++ length (with_under old kept u r) ∷ [])
kept_aside old kept k u r h = below_append (length (with_node old kept k u r)) kept (length (with_under old kept u r) ∷ []) (kept_more old kept k u r h)
    (let z = length_with old kept k u r in let y = length_under old kept u r in omega (arith, z, y), tt)

below : (old : List Entry) (kept : List ℕ) (first : ℕ) (f : Forest) (r : List Sym) → AllBelow (length old) kept → length (nodes old kept f r) ≤ first → AllBelow (first + signs f) (numbers old kept first f r)
below old kept first end r h g = tt
below old kept first (mark t f) r h g = below old kept first f r h g
below old kept first (group b i f) r h g =
    let mid : List Entry = nodes old kept i (Closes b ∷ spells f r) in
    let y = grows mid kept f r in
    let x = grows old kept i (Closes b ∷ spells f r) in
    let inside = below old kept (first + signs f) i (Closes b ∷ spells f r) h (omega (arith, y, g)) in
    let behind = below mid kept first f r (below_more (length old) (length mid) kept x h) g in
    below_append (first + (signs i + signs f)) (numbers old kept (first + signs f) i (Closes b ∷ spells f r)) (numbers mid kept first f r)
    (below_more (first + signs f + signs i) (first + (signs i + signs f)) (numbers old kept (first + signs f) i (Closes b ∷ spells f r)) (omega arith) inside)
    (below_more (first + signs f) (first + (signs i + signs f)) (numbers mid kept first f r) (omega arith) behind)
below old kept first (part k u f) r h g =
    let y = grows (with_node old kept k u (spells f r)) kept f r in
    let z = length_with old kept k u (spells f r) in
    let w = length_under old kept u (spells f r) in
    (omega (arith, y, z, w, g), below (with_node old kept k u (spells f r)) kept first f r (kept_more old kept k u (spells f r) h) g)
below old kept first (sign t f) r h g = (omega arith, below_more (first + signs f) (first + (signs f + 1)) (numbers old kept first f r) (omega arith) (below old kept first f r h g))
below old kept first (aside k u f) r h g = below (with_node old kept k u (spells f r)) (kept ++ length (with_under old kept u (spells f r)) ∷ []) first f r (kept_aside old kept k u (spells f r) h) g
below old kept first (shared f) r h g =
    let x = grows old kept f r in
    below_append (first + signs f) kept (numbers old kept first f r) (below_more (length old) (first + signs f) kept (omega (arith, x, g)) h) (below old kept first f r h g)
below old kept first (forget f) r h g = below old [] first f r tt g

ordered_signs : (old : List Entry) (f : Forest) (r : List Sym) → Ordered old → Ordered (signed old f r)
ordered_signs old end r o = o
ordered_signs old (mark t f) r o = ordered_signs old f r o
ordered_signs old (group b i f) r o = ordered_signs (signed old f r) i (Closes b ∷ spells f r) (ordered_signs old f r o)
ordered_signs old (part k u f) r o = ordered_signs old f r o
ordered_signs old (sign t f) r o =
    one_more (record { kind = Sign; before = length (Is t ∷ spells f r); after = length (spells f r); named = length (Is t ∷ spells f r); parts = [] }) (ordered_signs old f r o) tt
ordered_signs old (aside k u f) r o = ordered_signs old f r o
ordered_signs old (shared f) r o = ordered_signs old f r o
ordered_signs old (forget f) r o = ordered_signs old f r o

node_ordered : (old : List Entry) (kept : List ℕ) (k : NodeKind) (u : Forest) (r : List Sym) → AllBelow (length old) kept → Ordered (nodes old kept u r) → Ordered (with_node old kept k u r)
node_ordered old kept k u r h o =
    let b : AllBelow (length (nodes old kept u r) + signs u) (numbers old kept (length (nodes old kept u r)) u r) = below old kept (length (nodes old kept u r)) u r h (omega arith) in
    one_more (entry_of old kept k u r) (ordered_signs (nodes old kept u r) u r o)
    (subst (λ (n : ℕ). AllBelow n (numbers old kept (length (nodes old kept u r)) u r)) (sym (length_under old kept u r)) b)

ordered : (old : List Entry) (kept : List ℕ) (f : Forest) (r : List Sym) → AllBelow (length old) kept → Ordered old → Ordered (nodes old kept f r)
ordered old kept end r h o = o
ordered old kept (mark t f) r h o = ordered old kept f r h o
ordered old kept (group b i f) r h o =
    ordered (nodes old kept i (Closes b ∷ spells f r)) kept f r (below_more (length old) (length (nodes old kept i (Closes b ∷ spells f r))) kept (grows old kept i (Closes b ∷ spells f r)) h) (ordered old kept i (Closes b ∷ spells f r) h o)
ordered old kept (part k u f) r h o = ordered (with_node old kept k u (spells f r)) kept f r (kept_more old kept k u (spells f r) h) (node_ordered old kept k u (spells f r) h (ordered old kept u (spells f r) h o))
ordered old kept (sign t f) r h o = ordered old kept f r h o
ordered old kept (aside k u f) r h o =
    ordered (with_node old kept k u (spells f r)) (kept ++ length (with_under old kept u (spells f r)) ∷ []) f r (kept_aside old kept k u (spells f r) h) (node_ordered old kept k u (spells f r) h (ordered old kept u (spells f r) h o))
ordered old kept (shared f) r h o = ordered old kept f r h o
ordered old kept (forget f) r h o = ordered old [] f r tt o

-- ---- turned

abbrev PartsBehind : ℕ → ℕ → List Entry → Type 0
PartsBehind i count [] = Unit {0}
PartsBehind i count (e ∷ es) = AllBetween i count e.parts × PartsBehind (suc i) count es

above : (n m : ℕ) (ps : List ℕ) → m + 1 ≤ n → AllBelow m ps → AllBetween (n - (m + 1)) n (map (λ p. n - 1 - p) ps)
above n m [] h b = tt
above n m (p ∷ ps) h b = (omega (arith, b.0, h), omega (arith, h), above n m ps h b.1)

behind : (n : ℕ) {es : List Entry} → Ordered es → length es ≤ n → PartsBehind (n - length es) n (reverse (map (turned_entry (n - 1)) es))
behind n nothing h = tt
behind n (one_more {es = es} e o b) h =
    let len = length-append es (e ∷ []) in
    let last : length (es ++ e ∷ []) ≡ length es + 1 = omega (arith, len) in
    let front : reverse (map (turned_entry (n - 1)) (es ++ e ∷ [])) ≡ turned_entry (n - 1) e ∷ reverse (map (turned_entry (n - 1)) es) =
    ap reverse (map_push (turned_entry (n - 1)) es e) ∙ reverse-append (map (turned_entry (n - 1)) es) (turned_entry (n - 1) e ∷ []) in
    let room : length es + 1 ≤ n = omega (arith, last, h) in
    let place : n - length es ≡ suc (n - (length es + 1)) = omega (arith, room) in
    let rest : PartsBehind (n - length es) n (reverse (map (turned_entry (n - 1)) es)) = behind n o (omega (arith, room)) in
    rw (last, front) (above n (length es) e.parts room b, rw place at rest)

at_place : (i count : ℕ) (es : List Entry) → PartsBehind i count es → (k : ℕ) (e : Entry) → slice_get es k ≡ Some e → AllBetween (i + k) count e.parts
at_place i count [] h k e f = cc
at_place i count (x ∷ es) h zero e f =
    let same : x ≡ e = cc in
    let there : i + zero ≡ i = omega arith in
    rw (there, ← same) h.0
at_place i count (x ∷ es) h (suc k) e f =
    let there : i + suc k ≡ suc i + k = omega arith in
    rw there (at_place (suc i) count es h.1 k e f)

entries_behind : (k : NodeKind) (u : Forest) → PartsBehind 0 (length (entries k u)) (entries k u)
entries_behind k u =
    let es : List Entry = with_node [] [] k u [] in
    let b : PartsBehind (length es - length es) (length es) (turned es) =
    behind (length es) (ordered [] [] (part k u end) [] tt nothing) (omega arith) in
    let z : length es - length es ≡ 0 = omega arith in
    let n : length (turned es) ≡ length es = length-reverse (map (turned_entry (length es - 1)) es) ∙ length-map es (turned_entry (length es - 1)) in
    rw n (rw z at b)

opened : (symbols : List Symbol) (i count : ℕ) (o : Option Entry) (n : Node) → option_map (node_of symbols) o ≡ Some n
    → ((e : Entry) → o ≡ Some e → AllBetween i count e.parts) → AllBetween i count n.parts
opened symbols i count None n at h = cc
opened symbols i count (Some e) n at h =
    let same : node_of symbols e ≡ n = cc in
    rw (← same) (h e refl)

pub listed_behind : (symbols : List Symbol) (kind : NodeKind) (under : Forest) (list : List Node) → list ≡ map (node_of symbols) (entries kind under)
    → (i : ℕ) (n : Node) → slice_get list i ≡ Some n → AllBetween i (length list) n.parts
listed_behind symbols kind under list l i n e =
    let es : List Entry = entries kind under in
    let at : option_map (node_of symbols) (slice_get es i) ≡ Some n = sym (slice_get-map (node_of symbols) es i) ∙ ap (λ (l : List Node). slice_get l i) (sym l) ∙ e in
    let size : length list ≡ length es = ap length l ∙ length-map es (node_of symbols) in
    let z : 0 + i ≡ i = omega arith in
    rw size (opened symbols i (length es) (slice_get es i) n at (λ x f. rw z at (at_place 0 (length es) es (entries_behind kind under) i x f)))

-- Drafts turned into nodes, and the spellings of names.
use Rattle.std.proofs.Common.{◌≡◌, ℕ, suc, ◌+◌, ◌++◌, take, ap, ◌<◌, ◌≤◌, ◌⊎◌, inl, inr, List, [], ◌∷◌, Some, None, length, map, reverse, refl, sym, ◌∙◌, arith, slice_get}
use Rattle.std.specs.Option.{option_map}
use Rattle.a68_symbols.specs.declared.symbol.Symbol.{Symbol}
use Rattle.std.proofs.lemmas.List.{length-map, take_more, map-append}
use Rattle.std.proofs.lemmas.Option.{slice_get_past, slice_get-map, slice_get_within, get_or_from_slice_get}
use Rattle.a68_parse.specs.Drafted.{SpellsAlike}
use Rattle.a68_symbols.specs.Names.{Named, Spelled}
use Rattle.a68_tree.specs.declared.node.Node.{Node}
use Rattle.a68_tree.specs.Nodes.{Entry, turned_entry, node_of}

-- the nodes of entries, backwards
abbrev pub back : List Symbol → ℕ → List Entry → List Node
back symbols last es = map (node_of symbols) (reverse (map (turned_entry last) es))

-- what the first elements give, and the next one
pub map_more : {X Y : Type 0} (f : X → Y) (xs : List X) (i : ℕ) (x : X) → slice_get xs i ≡ Some x → map f (take (i + 1) xs) ≡ map f (take i xs) ++ f x ∷ []
map_more f xs i x e =
    ap (map f) (take_more xs i x (slice_get_within xs i x e)) ∙ map-append f (take i xs) _ ∙ ap (λ y. map f (take i xs) ++ f y ∷ []) (get_or_from_slice_get xs i x x e)

-- ---- spellings

-- the first names have their spellings
pub record SpellFirst (found : Named) (list : List (List ℕ)) (count : ℕ) : Type 0 where
  pub size : length list ≡ count
  pub alike : (n : ℕ) → n < count → slice_get list n ≡ option_map (λ spelled. spelled.bytes) (slice_get found.spellings n)

same_lists : {A : Type 0} (xs ys : List A) → ((i : ℕ) → slice_get xs i ≡ slice_get ys i) → xs ≡ ys
same_lists [] [] same = refl
same_lists [] (y ∷ ys) same = let e : None ≡ Some y = same 0 in absurd (cc e)
same_lists (x ∷ xs) [] same = let e : Some x ≡ None = same 0 in absurd (cc e)
same_lists (x ∷ xs) (y ∷ ys) same =
    let head : Some x ≡ Some y = same 0 in
    let tail = same_lists xs ys (λ i. same (suc i)) in
    cc (head, tail)

less_or_not : (a b : ℕ) → (a < b) ⊎ (b ≤ a)
less_or_not a b = grind arith

-- all names have their spellings
pub all_alike : (found : Named) (list : List (List ℕ)) (count : ℕ) → count ≡ length found.spellings → SpellFirst found list count → SpellsAlike found list
all_alike found list count all first =
    let long = length-map found.spellings (λ (s : Spelled). s.bytes) in
    let size = first.size in
    same_lists list (map (λ (s : Spelled). s.bytes) found.spellings) (λ i. elim (less_or_not i count) [
      | inl lt ↦ first.alike i lt ∙ sym (slice_get-map (λ (s : Spelled). s.bytes) found.spellings i)
      | inr past ↦ slice_get_past list i (omega (arith, size, past)) ∙ sym (slice_get_past (map (λ (s : Spelled). s.bytes) found.spellings) i (omega (arith, long, all, past)))
    ])

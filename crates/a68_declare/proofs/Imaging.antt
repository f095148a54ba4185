-- Shapes with other numbers for the modes within them.
use Rattle.std.proofs.Common.{◌≡◌, ◌<◌, ℕ, zero, suc, List, [], ◌∷◌, ◌++◌, Bool as Truth, true, false, length, get_or, refl, sym, ap, ◌∙◌, arith, length-append}
use Rattle.std.specs.Prelude.{map, slice_index_or}
use Rattle.std.specs.List.{Contains}
use Rattle.std.proofs.lemmas.Bool.{false≢true}
use Rattle.std.proofs.lemmas.List.{map-append, length-map}
use Rattle.a68_declare.specs.Clean.{IsBare, renumbered, IsUnionImage, IsImage}
use Rattle.a68_equiv.specs.declared.steps.Inward.{Inward}
use Rattle.a68_equiv.specs.declared.steps.Inward.TheVariants.{BesidesNames, BesidesStructures, WithinUnions}
use Rattle.a68_equiv.specs.Dimensions.{HasDimensions}
use Rattle.a68_equiv.specs.Unfolding.{constructor, leads_within, is_union, passes_on, IsMember, IsInMode}
use Rattle.a68_equiv.specs.Ways.{steps_of}
use Rattle.a68_modes.specs.declared.shape.Shape.{Shape}
use Rattle.a68_modes.specs.declared.shape.Shape.TheVariants.{Ref, Rows, Struct, Union, Proc, Same, Blank}
use Rattle.a68_modes.specs.Nodes.{parts_of}

-- ---- lists

pub map_has : (f : ℕ → ℕ) (xs : List ℕ) (y : ℕ) → Contains (map f xs) y → (x : ℕ) × Contains xs x × (f x ≡ y)
map_has f [] y (k, less, e) = absurd (omega (arith, less))
map_has f (x ∷ xs) y (zero, less, e) = (x, (0, omega arith, refl), e)
map_has f (x ∷ xs) y (suc k, less, e) = let r = map_has f xs y (k, omega (arith, less), e) in (r.0, (suc r.1.0, (let l = r.1.1 in omega arith), r.1.2), r.2)

pub has_map : (f : ℕ → ℕ) (xs : List ℕ) (x : ℕ) → Contains xs x → Contains (map f xs) (f x)
has_map f [] x (k, less, e) = absurd (omega (arith, less))
has_map f (y ∷ xs) x (zero, less, e) = (0, omega arith, ap f e)
has_map f (y ∷ xs) x (suc k, less, e) = let r = has_map f xs x (k, omega (arith, less), e) in (suc r.0, (let l = r.1 in omega arith), r.2)

pub get_map : (f : ℕ → ℕ) (xs : List ℕ) (k : ℕ) → k < length xs → get_or (map f xs) k 0 ≡ f (get_or xs k 0)
get_map f [] k h = absurd (omega arith)
get_map f (x ∷ xs) zero h = refl
get_map f (x ∷ xs) (suc k) h = get_map f xs k (omega arith)

pub map_same : (f : ℕ → ℕ) (xs ys : List ℕ) → length xs ≡ length ys → ((k : ℕ) → k < length xs → f (get_or xs k 0) ≡ f (get_or ys k 0)) → map f xs ≡ map f ys
map_same f [] [] e each = refl
map_same f [] (y ∷ ys) e each = absurd (omega arith)
map_same f (x ∷ xs) [] e each = absurd (omega arith)
map_same f (x ∷ xs) (y ∷ ys) e each =
    let rest = map_same f xs ys (omega arith) (λ k h. each (suc k) (omega arith)) in
    let first : f x ≡ f y = each 0 (omega arith) in
    cc

-- ---- a shape from its constructor and its parts

abbrev zipped : List (ℕ × ℕ) → List ℕ → List (ℕ × ℕ)
zipped [] xs = []
zipped (field ∷ fields) [] = []
zipped (field ∷ fields) (x ∷ xs) = (field.0, x) ∷ zipped fields xs

abbrev taken : List ℕ → List ℕ → List ℕ
taken [] xs = []
taken (z ∷ zs) [] = []
taken (z ∷ zs) (x ∷ xs) = x ∷ taken zs xs

abbrev behind_them : List ℕ → List ℕ → ℕ
behind_them [] [] = 0
behind_them [] (x ∷ xs) = x
behind_them (z ∷ zs) [] = 0
behind_them (z ∷ zs) (x ∷ xs) = behind_them zs xs

abbrev head_or : List ℕ → ℕ
head_or [] = 0
head_or (x ∷ xs) = x

abbrev rebuilt : Shape → List ℕ → Shape
rebuilt (Ref m) xs = Ref (head_or xs)
rebuilt (Rows dims flex m) xs = Rows dims flex (head_or xs)
rebuilt (Struct fields) xs = Struct (zipped fields xs)
rebuilt (Proc zs m) xs = Proc (taken zs xs) (behind_them zs xs)
rebuilt (Same m) xs = Same (head_or xs)
rebuilt s xs = s

zip_again : (f : ℕ → ℕ) (fields : List (ℕ × ℕ)) → zipped (map {B = ℕ × ℕ} (λ (field : ℕ × ℕ). (field.0, 0)) fields) (map f (map (λ (field : ℕ × ℕ). field.1) fields)) ≡ map {B = ℕ × ℕ} (λ (field : ℕ × ℕ). (field.0, f field.1)) fields
zip_again f [] = refl
zip_again f (field ∷ fields) = ap (λ (xs : List (ℕ × ℕ)). (field.0, f field.1) ∷ xs) (zip_again f fields)

take_again : (f : ℕ → ℕ) (ps : List ℕ) (m : ℕ) → taken (map {B = ℕ} (λ (p : ℕ). 0) ps) (map f (ps ++ m ∷ [])) ≡ map f ps
take_again f [] m = refl
take_again f (p ∷ ps) m = ap (λ xs. f p ∷ xs) (take_again f ps m)

last_again : (f : ℕ → ℕ) (ps : List ℕ) (m : ℕ) → behind_them (map {B = ℕ} (λ (p : ℕ). 0) ps) (map f (ps ++ m ∷ [])) ≡ f m
last_again f [] m = refl
last_again f (p ∷ ps) m = last_again f ps m

rebuild : (f : ℕ → ℕ) (s : Shape) → is_union s ≡ false → renumbered f s ≡ rebuilt (constructor false s) (map f (parts_of s))
rebuild f (Struct fields) u = sym (ap Struct (zip_again f fields))
rebuild f (Union ms) u = absurd (cc)
rebuild f (Proc ps m) u = let a = take_again f ps m in let b = last_again f ps m in cc
rebuild f _ u = refl

both_zero : (xs ys : List ℕ) → map {B = ℕ} (λ (p : ℕ). 0) xs ≡ map {B = ℕ} (λ (p : ℕ). 0) ys → length xs ≡ length ys
both_zero xs ys e = sym (length-map {B = ℕ} xs (λ (p : ℕ). 0)) ∙ ap length e ∙ length-map {B = ℕ} ys (λ (p : ℕ). 0)

count_again : (s : Shape) → is_union s ≡ false → length (parts_of s) ≡ length (parts_of (constructor false s))
count_again (Struct fields) u = length-map fields (λ (field : ℕ × ℕ). field.1) ∙ sym (length-map (map {B = ℕ × ℕ} (λ (field : ℕ × ℕ). (field.0, 0)) fields) (λ (field : ℕ × ℕ). field.1) ∙ length-map {B = ℕ × ℕ} fields (λ (field : ℕ × ℕ). (field.0, 0)))
count_again (Union ms) u = absurd (cc)
count_again (Proc ps m) u = omega (arith, length-append {A = ℕ} ps (m ∷ []), length-append {A = ℕ} (map {B = ℕ} (λ (p : ℕ). 0) ps) (0 ∷ []), length-map {B = ℕ} ps (λ (p : ℕ). 0))
count_again _ u = refl

pub same_count : (s t : Shape) → is_union s ≡ false → is_union t ≡ false → constructor false s ≡ constructor false t → length (parts_of s) ≡ length (parts_of t)
same_count s t u v e = count_again s u ∙ ap (λ x. length (parts_of x)) e ∙ sym (count_again t v)

pub same_shape : (f : ℕ → ℕ) (s t : Shape) → is_union s ≡ false → is_union t ≡ false → constructor false s ≡ constructor false t → map f (parts_of s) ≡ map f (parts_of t) → renumbered f s ≡ renumbered f t
same_shape f s t u v e p = rebuild f s u ∙ ap (λ x. rebuilt x (map f (parts_of s))) e ∙ ap (rebuilt (constructor false t)) p ∙ sym (rebuild f t v)

-- numbers that are the same on the modes within a shape
pub renumbered_same : (f g : ℕ → ℕ) (s : Shape) → is_union s ≡ false → map f (parts_of s) ≡ map g (parts_of s) → renumbered f s ≡ renumbered g s
renumbered_same f g s u e = rebuild f s u ∙ ap (rebuilt (constructor false s)) e ∙ sym (rebuild g s u)

-- ---- images

pub parts_renumbered : (f : ℕ → ℕ) (s : Shape) → parts_of (renumbered f s) ≡ map f (parts_of s)
parts_renumbered f (Struct fields) = go fields
  where
    go : (fields : List (ℕ × ℕ)) → map (λ (field : ℕ × ℕ). field.1) (map {B = ℕ × ℕ} (λ (field : ℕ × ℕ). (field.0, f field.1)) fields) ≡ map f (map (λ (field : ℕ × ℕ). field.1) fields)
    go [] = refl
    go (field ∷ fields) = ap (λ xs. f field.1 ∷ xs) (go fields)
parts_renumbered f (Proc ps m) = sym (map-append f ps (m ∷ []))
parts_renumbered f _ = refl

pub constructor_kept : (fixed : Truth) (f : ℕ → ℕ) (s : Shape) → constructor fixed (renumbered f s) ≡ constructor fixed s
constructor_kept fixed f (Struct fields) = ap Struct (go fields)
  where
    go : (fields : List (ℕ × ℕ)) → map {B = ℕ × ℕ} (λ (field : ℕ × ℕ). (field.0, 0)) (map {B = ℕ × ℕ} (λ (field : ℕ × ℕ). (field.0, f field.1)) fields) ≡ map {B = ℕ × ℕ} (λ (field : ℕ × ℕ). (field.0, 0)) fields
    go [] = refl
    go (field ∷ fields) = ap (λ (xs : List (ℕ × ℕ)). (field.0, 0) ∷ xs) (go fields)
constructor_kept fixed f (Proc ps m) = ap (λ xs. Proc xs 0) (go ps)
  where
    go : (ps : List ℕ) → map {B = ℕ} (λ (p : ℕ). 0) (map f ps) ≡ map {B = ℕ} (λ (p : ℕ). 0) ps
    go [] = refl
    go (p ∷ ps) = ap (λ xs. 0 ∷ xs) (go ps)
constructor_kept fixed f _ = refl

pub constructor_renumbered : (f : ℕ → ℕ) (s : Shape) → constructor false (renumbered f s) ≡ constructor false s
constructor_renumbered f s = constructor_kept false f s

pub constructor_union : (fixed : Truth) (images : List ℕ) (s : Shape) → is_union s ≡ true → constructor fixed (Union images) ≡ constructor fixed s
constructor_union fixed images (Union ms) u = refl
constructor_union fixed images _ u = absurd (false≢true u)

pub passes_union : (fixed : Truth) (images : List ℕ) (s : Shape) → is_union s ≡ true → passes_on fixed (Union images) ≡ passes_on fixed s
passes_union fixed images (Union ms) u = refl
passes_union fixed images _ u = absurd (false≢true u)

pub passes_renumbered : (fixed : Truth) (f : ℕ → ℕ) (s : Shape) → passes_on fixed (renumbered f s) ≡ passes_on fixed s
passes_renumbered fixed f (Ref m) = refl
passes_renumbered fixed f (Proc ps m) = refl
passes_renumbered fixed f _ = refl

pub union_renumbered : (f : ℕ → ℕ) (s : Shape) → is_union (renumbered f s) ≡ is_union s
union_renumbered f (Union ms) = refl
union_renumbered f _ = refl

pub leads_renumbered : (f : ℕ → ℕ) (s : Shape) → leads_within (renumbered f s) ≡ leads_within s
leads_renumbered f (Union ms) = refl
leads_renumbered f (Same m) = refl
leads_renumbered f _ = refl

pub image_other : (nodes : List Shape) (f : ℕ → ℕ) (m : ℕ) (s t : Shape) → is_union s ≡ false → t ≡ renumbered f s → IsImage nodes f m s t
image_other nodes f m (Union ms) t u e = absurd (cc)
image_other nodes f m _ t u e = e

pub other_image : (nodes : List Shape) (f : ℕ → ℕ) (m : ℕ) (s t : Shape) → is_union s ≡ false → IsImage nodes f m s t → t ≡ renumbered f s
other_image nodes f m (Union ms) t u i = absurd (cc)
other_image nodes f m _ t u i = i

pub image_union : (nodes : List Shape) (f : ℕ → ℕ) (m : ℕ) (s t : Shape) → is_union s ≡ true → IsUnionImage nodes f m t → IsImage nodes f m s t
image_union nodes f m (Union ms) t u i = i
image_union nodes f m _ t u i = absurd (false≢true u)

pub union_image : (nodes : List Shape) (f : ℕ → ℕ) (m : ℕ) (s t : Shape) → is_union s ≡ true → IsImage nodes f m s t → IsUnionImage nodes f m t
union_image nodes f m (Union ms) t u i = i
union_image nodes f m _ t u i = absurd (false≢true u)

-- a union of these images
pub images_of : (nodes : List Shape) (f : ℕ → ℕ) (m : ℕ) (t : Shape) → IsUnionImage nodes f m t → (images : List ℕ) × (t ≡ Union images)
images_of nodes f m (Union images) i = (images, refl)
images_of nodes f m _ i = absurd i

-- what stands at a place of a shape that is no union
pub at_other : (nodes : List Shape) (m : ℕ) (s : Shape) (place x : ℕ) → is_union s ≡ false → IsInMode nodes m s place x → (place < length (parts_of s)) × (slice_index_or (parts_of s) place 0 ≡ x)
at_other nodes m (Union ms) place x u a = absurd (cc)
at_other nodes m _ place x u a = a

pub other_at : (nodes : List Shape) (m : ℕ) (s : Shape) (place x : ℕ) → is_union s ≡ false → (place < length (parts_of s)) × (slice_index_or (parts_of s) place 0 ≡ x) → IsInMode nodes m s place x
other_at nodes m (Union ms) place x u a = absurd (cc)
other_at nodes m _ place x u a = a

pub at_union : (nodes : List Shape) (m : ℕ) (s : Shape) (place x : ℕ) → is_union s ≡ true → IsInMode nodes m s place x → (place ≡ 0) × IsMember nodes m x
at_union nodes m (Union ms) place x u a = a
at_union nodes m _ place x u a = absurd (false≢true u)

pub union_at : (nodes : List Shape) (m : ℕ) (s : Shape) (place x : ℕ) → is_union s ≡ true → (place ≡ 0) × IsMember nodes m x → IsInMode nodes m s place x
union_at nodes m (Union ms) place x u a = a
union_at nodes m _ place x u a = absurd (false≢true u)

pub passes_none : (s : Shape) → passes_on false s ≡ false
passes_none (Ref m) = refl
passes_none (Proc ps m) = refl
passes_none _ = refl

pub leads_by : (s : Shape) → leads_within s ≡ false → is_union s ≡ false
leads_by (Union ms) e = absurd (cc)
leads_by _ e = refl

pub union_leads : (s : Shape) → is_union s ≡ false → ((t : ℕ) → s ≡ Same t → ⊥) → leads_within s ≡ false
union_leads (Union ms) u n = absurd (cc)
union_leads (Same t) u n = absurd (n t refl)
union_leads _ u n = refl

pub no_same : (s : Shape) → leads_within s ≡ false → (t : ℕ) → s ≡ Same t → ⊥
no_same s e t f = let g : leads_within s ≡ true = ap leads_within f in absurd (false≢true (sym e ∙ g))

pub bare_other : (nodes : List Shape) (f : ℕ → ℕ) (s : Shape) → is_union s ≡ false → ((t : ℕ) → s ≡ Same t → ⊥) → (s ≡ Blank → ⊥) → IsBare nodes (renumbered f s)
bare_other nodes f (Union ms) u n b = absurd (cc)
bare_other nodes f (Same t) u n b = n t refl
bare_other nodes f Blank u n b = b refl
bare_other nodes f _ u n b = tt

-- ---- steps

pub steps_renumbered : (which : Inward) (f : ℕ → ℕ) (s : Shape) → is_union s ≡ false → steps_of which (renumbered f s) ≡ map f (steps_of which s)
steps_renumbered BesidesNames f (Ref m) u = refl
steps_renumbered BesidesNames f (Proc ps m) u = refl
steps_renumbered BesidesNames f (Struct fields) u = parts_renumbered f (Struct fields)
steps_renumbered BesidesNames f _ u = refl
steps_renumbered BesidesStructures f (Struct fields) u = refl
steps_renumbered BesidesStructures f (Proc [] m) u = refl
steps_renumbered BesidesStructures f (Proc (p ∷ ps) m) u = refl
steps_renumbered BesidesStructures f _ u = refl
steps_renumbered WithinUnions f (Union ms) u = refl
steps_renumbered WithinUnions f (Same m) u = refl
steps_renumbered WithinUnions f _ u = refl

-- the steps of mode words and unions are among the others
pub wider : (which : Inward) (s : Shape) (b : ℕ) → Contains (steps_of WithinUnions s) b → Contains (steps_of which s) b
wider BesidesNames (Same m) b c = c
wider BesidesNames (Union ms) b c = c
wider BesidesNames _ b c = absurd (let l = c.1 in omega arith)
wider BesidesStructures (Same m) b c = c
wider BesidesStructures (Union ms) b c = c
wider BesidesStructures _ b c = absurd (let l = c.1 in omega arith)
wider WithinUnions s b c = c

pub steps_union : (which : Inward) (ms : List ℕ) → steps_of which (Union ms) ≡ ms
steps_union BesidesNames ms = refl
steps_union BesidesStructures ms = refl
steps_union WithinUnions ms = refl

pub dims_renumbered : (f : ℕ → ℕ) (s : Shape) → HasDimensions s → HasDimensions (renumbered f s)
dims_renumbered f (Rows dims flex m) h = h
dims_renumbered f _ h = tt

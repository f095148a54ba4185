-- One forest behind another.
use Rattle.std.proofs.Common.{◌≡◌, List, ◌∷◌, refl, ap}
use Rattle.a68_symbols.specs.declared.sym.Sym.{Sym}
use Rattle.a68_symbols.specs.declared.sym.Sym.TheVariants.{Opens, Closes, Is}
use Rattle.a68_tree.specs.Forest.{Forest, end, mark, group, part, sign, aside, shared, forget, spells, joined}

pub joined_assoc : (f g h : Forest) → joined (joined f g) h ≡ joined f (joined g h)
joined_assoc end g h = refl
joined_assoc (mark t f) g h = ap (mark t) (joined_assoc f g h)
joined_assoc (group b i f) g h = ap (group b i) (joined_assoc f g h)
joined_assoc (part k u f) g h = ap (part k u) (joined_assoc f g h)
joined_assoc (sign t f) g h = ap (sign t) (joined_assoc f g h)
joined_assoc (aside k u f) g h = ap (aside k u) (joined_assoc f g h)
joined_assoc (shared f) g h = ap shared (joined_assoc f g h)
joined_assoc (forget f) g h = ap forget (joined_assoc f g h)

pub joined_end : (f : Forest) → joined f end ≡ f
joined_end end = refl
joined_end (mark t f) = ap (mark t) (joined_end f)
joined_end (group b i f) = ap (group b i) (joined_end f)
joined_end (part k u f) = ap (part k u) (joined_end f)
joined_end (sign t f) = ap (sign t) (joined_end f)
joined_end (aside k u f) = ap (aside k u) (joined_end f)
joined_end (shared f) = ap shared (joined_end f)
joined_end (forget f) = ap forget (joined_end f)

pub spells_joined : (f g : Forest) (r : List Sym) → spells (joined f g) r ≡ spells f (spells g r)
spells_joined end g r = refl
spells_joined (mark t f) g r = ap (λ (x : List Sym). Is t ∷ x) (spells_joined f g r)
spells_joined (group b i f) g r = ap (λ (x : List Sym). Opens b ∷ spells i (Closes b ∷ x)) (spells_joined f g r)
spells_joined (part k u f) g r = ap (spells u) (spells_joined f g r)
spells_joined (sign t f) g r = ap (λ (x : List Sym). Is t ∷ x) (spells_joined f g r)
spells_joined (aside k u f) g r = ap (spells u) (spells_joined f g r)
spells_joined (shared f) g r = spells_joined f g r
spells_joined (forget f) g r = spells_joined f g r

-- Forests one after another, and what is put into a layer.
use Rattle.std.proofs.Common.{List, ◌∷◌, sym, subst}
use Rattle.a68_tree.specs.Forest.{Forest, end, joined}
use Rattle.a68_tree.proofs.Joining.{joined_assoc, joined_end}
use Rattle.a68_nodes.specs.Stack.{Layer, put}

-- what is put in pieces
pub back : (K : List Layer → Type 0) (l : Layer) (S : List Layer) (a b : Forest) → K (put l (joined a b) ∷ S) → K (put (put l a) b ∷ S)
back K l S a b h = subst (λ (f : Forest). K (record { bracket = l.bracket; forest = f } ∷ S)) (sym (joined_assoc l.forest a b)) h

pub back3 : (K : List Layer → Type 0) (l : Layer) (S : List Layer) (a b c : Forest) → K (put l (joined a (joined b c)) ∷ S) → K (put (put (put l a) b) c ∷ S)
back3 K l S a b c h = back K (put l a) S b c (back K l S a (joined b c) h)

pub back4 : (K : List Layer → Type 0) (l : Layer) (S : List Layer) (a b c d : Forest) → K (put l (joined a (joined b (joined c d))) ∷ S) → K (put (put (put (put l a) b) c) d ∷ S)
back4 K l S a b c d h = back K (put (put l a) b) S c d (back3 K l S a b (joined c d) h)

-- a layer with nothing more put in it
pub stay : (K : List Layer → Type 0) (l : Layer) (S : List Layer) → K (put l end ∷ S) → K (l ∷ S)
stay K l S h = subst (λ (f : Forest). K (record { bracket = l.bracket; forest = f } ∷ S)) (joined_end l.forest) h

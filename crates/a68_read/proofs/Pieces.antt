-- What is put in pieces, where a text is left.
use Rattle.std.proofs.Common.{List, ◌∷◌}
use Rattle.a68_symbols.specs.declared.sym.Sym.{Sym}
use Rattle.a68_tree.specs.Forest.{Forest, end, joined}
use Rattle.a68_nodes.specs.Stack.{Layer, put}
use Rattle.a68_read.specs.Awaits.{Awaited}
use Rattle.a68_read.proofs.Joins as joins

pub back : (K : Awaited) (r : List Sym) (l : Layer) (S : List Layer) (x y : Forest) → K (put l (joined x y) ∷ S) r → K (put (put l x) y ∷ S) r
back K r l S x y h = joins.back (λ (T : List Layer). K T r) l S x y h

pub back3 : (K : Awaited) (r : List Sym) (l : Layer) (S : List Layer) (x y z : Forest) → K (put l (joined x (joined y z)) ∷ S) r → K (put (put (put l x) y) z ∷ S) r
back3 K r l S x y z h = joins.back3 (λ (T : List Layer). K T r) l S x y z h

pub back4 : (K : Awaited) (r : List Sym) (l : Layer) (S : List Layer) (x y z w : Forest) → K (put l (joined x (joined y (joined z w))) ∷ S) r → K (put (put (put (put l x) y) z) w ∷ S) r
back4 K r l S x y z w h = joins.back4 (λ (T : List Layer). K T r) l S x y z w h

pub stay : (K : Awaited) (r : List Sym) (l : Layer) (S : List Layer) → K (put l end ∷ S) r → K (l ∷ S) r
stay K r l S h = joins.stay (λ (T : List Layer). K T r) l S h

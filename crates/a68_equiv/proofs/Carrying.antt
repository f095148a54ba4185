-- What holds in the graph holds of the modes, and the other way round.
use Rattle.std.proofs.Common.{◌≡◌, ◌<◌, ℕ, zero, suc, List, Bool, length, sym, ◌∙◌, arith, subst}
use Rattle.a68_modes.specs.declared.shape.Shape.{Shape}
use Rattle.a68_equiv.specs.declared.mode.Mode.{Mode}
use Rattle.a68_equiv.specs.Unfolding.{IsModePart, Alike}
use Rattle.a68_equiv.specs.Graph.{number_of, IsGraphOf}
use Rattle.a68_partition.specs.Rounds.{AlikeIn, IsRefined}
use Rattle.a68_equiv.specs.Classes.{AreExact}
use Rattle.a68_equiv.proofs.Numbers.{bit_low, number_below}

same_id : (a b : Mode) → number_of a ≡ number_of b → a.id ≡ b.id
same_id a b e = let l = bit_low a.fixed in let m = bit_low b.fixed in omega arith

module _ (nodes : List Shape) (heads : List ℕ) (rows : List (Bool × List ℕ)) (graph : IsGraphOf nodes heads rows) where
  part_below : (a : Mode) (place : ℕ) (p : Mode) → a.id < length nodes → IsModePart nodes a place p → p.id < length nodes
  part_below a place p h is =
      let r = graph.rows_are a h in
      let k = r.only place (number_of p) (r.all place p is) in
      let e = same_id p k.0 k.3 in
      let l = k.1 in
      omega arith

  pub into : (depth : ℕ) (a b : Mode) → a.id < length nodes → b.id < length nodes → Alike nodes depth a b → AlikeIn heads rows depth (number_of a) (number_of b)
  into zero a b h g al = tt
  into (suc depth) a b h g al = (
    (graph.heads_tell a b h g).1 al.0,
    (
      λ place x st.
          let p = (graph.rows_are a h).only place x st in
          let q = al.1.0 place p.0 p.2 in
          let like = into depth p.0 q.0 p.1 (part_below b place q.0 g q.1) q.2 in
          (number_of q.0, (graph.rows_are b g).all place q.0 q.1, subst (λ (w : ℕ). AlikeIn heads rows depth w (number_of q.0)) (sym p.3) like),
      λ place y st.
          let q = (graph.rows_are b g).only place y st in
          let p = al.1.1 place q.0 q.2 in
          let like = into depth p.0 q.0 (part_below a place p.0 h p.1) q.1 p.2 in
          (number_of p.0, (graph.rows_are a h).all place p.0 p.1, subst (λ (w : ℕ). AlikeIn heads rows depth (number_of p.0) w) (sym q.3) like),
    ),
  )

  pub out_of : (depth : ℕ) (a b : Mode) → a.id < length nodes → b.id < length nodes → AlikeIn heads rows depth (number_of a) (number_of b) → Alike nodes depth a b
  out_of zero a b h g al = tt
  out_of (suc depth) a b h g al = (
    (graph.heads_tell a b h g).0 al.0,
    (
      λ place p is.
          let y = al.1.0 place (number_of p) ((graph.rows_are a h).all place p is) in
          let q = (graph.rows_are b g).only place y.0 y.1 in
          (q.0, q.2, out_of depth p q.0 (part_below a place p h is) q.1 (subst (λ (w : ℕ). AlikeIn heads rows depth (number_of p) w) q.3 y.2)),
      λ place q is.
          let x = al.1.1 place (number_of q) ((graph.rows_are b g).all place q is) in
          let p = (graph.rows_are a h).only place x.0 x.1 in
          (p.0, p.2, out_of depth p.0 q p.1 (part_below b place q g is) (subst (λ (w : ℕ). AlikeIn heads rows depth w (number_of q)) p.3 x.2)),
    ),
  )

  pub exact : (classes : List ℕ) → IsRefined heads rows classes → AreExact nodes classes
  exact classes is = record {
    long = is.long ∙ graph.rows_long;
    exact = λ a b h g. (
      λ e depth. out_of depth a b h g ((is.exact (number_of a) (number_of b) (within a h) (within b g)).0 e depth),
      λ eq. (is.exact (number_of a) (number_of b) (within a h) (within b g)).1 (λ depth. into depth a b h g (eq depth)),
    );
    told_apart = (is.coarse.0, λ a b h g al. is.coarse.1 (number_of a) (number_of b) (within a h) (within b g) (into is.coarse.0 a b h g al));
  }
    where
      within : (a : Mode) → a.id < length nodes → number_of a < length rows
      within a h = let n = number_below (length nodes) a h in let l = graph.rows_long in omega arith

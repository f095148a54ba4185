-- What the keys of modes tell.
use Rattle.std.proofs.Common.{◌≡◌, ◌<◌, ◌++◌, ℕ, zero, suc, List, [], ◌∷◌, Bool, length, refl, sym, ap, ◌∙◌, subst}
use Rattle.a68_modes.specs.declared.shape.Shape.{Shape}
use Rattle.a68_equiv.specs.declared.mode.Mode.{Mode}
use Rattle.a68_equiv.specs.Unfolding.{unfolded, is_union, IsModePart, SameParts, SameConstructor, Alike, Equivalent}
use Rattle.a68_equiv.specs.Graph.{number_of, code_of, IsRowOf}
use Rattle.a68_partition.specs.Rounds.{IsRowKey}
use Rattle.a68_equiv.specs.Classes.{class_of, AreExact}
use Rattle.a68_equiv.specs.ModeKeys.{marked, IsModeKey}
use Rattle.a68_equiv.proofs.Coding.{from_code, to_code, union_made}
use Rattle.a68_partition.proofs.RowKeys.{SameIn, Covers, begins, one_key, from_key}

-- two modes have one constructor, and parts of one class
pub record LikeBy (nodes : List Shape) (classes : List ℕ) (a b : Mode) : Type 0 where
  pub made : SameConstructor nodes a b
  pub parts : SameParts nodes (λ p q. class_of classes p ≡ class_of classes q) a b

-- one number of the code more
pub marked_more : (cs : List ℕ) (c : ℕ) → marked (cs ++ c ∷ []) ≡ (marked cs ++ 1 ∷ []) ++ c ∷ []
marked_more [] c = refl
marked_more (d ∷ ds) c = ap (λ (rest : List ℕ). 1 ∷ d ∷ rest) (marked_more ds c)

split : (a b x y : List ℕ) → marked a ++ 0 ∷ x ≡ marked b ++ 0 ∷ y → (a ≡ b) × (x ≡ y)
split [] [] x y e = (refl, cc)
split [] (d ∷ ds) x y e = absurd (cc)
split (c ∷ cs) [] x y e = absurd (cc)
split (c ∷ cs) (d ∷ ds) x y e =
    let rest = split cs ds x y (cc) in
    let first : c ≡ d = cc in
    let more = rest.0 in
    (cc, rest.1)

module _ (nodes : List Shape) (classes : List ℕ) where
  same_kind : (a b : Mode) (x y : List ℕ) (p : IsModeKey nodes classes a x) (q : IsModeKey nodes classes b y) → SameConstructor nodes a b → p.row.0 ≡ q.row.0
  same_kind a b x y p q e = p.kind ∙ sym (union_made a.fixed (unfolded nodes a.id)) ∙ ap is_union e ∙ union_made b.fixed (unfolded nodes b.id) ∙ sym q.kind

  covers : (R : Mode → Mode → Type 0) (a b : Mode) (r s : Bool × List ℕ) → IsRowOf nodes a r → IsRowOf nodes b s → ((p q : Mode) → R p q → SameIn classes (number_of p) (number_of q))
      → ((place : ℕ) (p : Mode) → IsModePart nodes a place p → (q : Mode) × IsModePart nodes b place q × R p q) → Covers (SameIn classes) r.0 r.1 s.0 s.1
  covers R a b r s is os f h = λ place x st.
      let p = is.only place x st in
      let q = h place p.0 p.2 in
      (number_of q.0, os.all place q.0 q.1, subst (λ (w : ℕ). SameIn classes w (number_of q.0)) (sym p.3) (f p.0 q.0 q.2))

  half : (a b : Mode) (r s : Bool × List ℕ) → IsRowOf nodes a r → IsRowOf nodes b s → Covers (SameIn classes) r.0 r.1 s.0 s.1 → (place : ℕ) (p : Mode) → IsModePart nodes a place p → (q : Mode) × IsModePart nodes b place q × (class_of classes p ≡ class_of classes q)
  half a b r s is os h place p part =
      let y = h place (number_of p) (is.all place p part) in
      let q = os.only place y.0 y.1 in
      (q.0, q.2, subst (λ (w : ℕ). SameIn classes (number_of p) w) q.3 y.2)

  -- one key: alike
  pub key_tells : (a b : Mode) (x : List ℕ) → IsModeKey nodes classes a x → IsModeKey nodes classes b x → LikeBy nodes classes a b
  key_tells a b x p q =
      let f = begins classes 0 p.row.0 p.row.1 p.is_key.tail p.is_key.is_tail in
      let g = begins classes 0 q.row.0 q.row.1 q.is_key.tail q.is_key.is_tail in
      let ca = code_of a.fixed (unfolded nodes a.id) in
      let cb = code_of b.fixed (unfolded nodes b.id) in
      let w = split ca cb f.0 g.0 (ap (λ (t : List ℕ). marked ca ++ t) (sym f.1) ∙ sym p.is_key.whole ∙ q.is_key.whole ∙ ap (λ (t : List ℕ). marked cb ++ t) g.1) in
      let e : SameConstructor nodes a b = from_code a.fixed b.fixed (unfolded nodes a.id) (unfolded nodes b.id) w.0 in
      let kind = same_kind a b x x p q e in
      let same : q.is_key.tail ≡ p.is_key.tail = g.1 ∙ ap (λ (t : List ℕ). 0 ∷ t) (sym w.1) ∙ sym f.1 in
      let qt = subst (λ (t : List ℕ). IsRowKey classes 0 q.row.0 q.row.1 t) same q.is_key.is_tail in
      let there = from_key classes 0 0 p.row.0 q.row.0 p.row.1 q.row.1 p.is_key.tail kind p.is_key.is_tail qt in
      let back = from_key classes 0 0 q.row.0 p.row.0 q.row.1 p.row.1 p.is_key.tail (sym kind) qt p.is_key.is_tail in
      record {
        made = e;
        parts = (half a b p.row q.row p.is_row q.is_row there, λ place r part. let w = half b a q.row p.row q.is_row p.is_row back place r part in (w.0, w.1, sym w.2));
      }

  -- alike: one key
  pub key_made : (a b : Mode) (x y : List ℕ) → LikeBy nodes classes a b → IsModeKey nodes classes a x → IsModeKey nodes classes b y → x ≡ y
  key_made a b x y like p q =
      let code = to_code a.fixed b.fixed (unfolded nodes a.id) (unfolded nodes b.id) like.made in
      let there = covers (λ p q. class_of classes p ≡ class_of classes q) a b p.row q.row p.is_row q.is_row (λ p q e. e) like.parts.0 in
      let back = covers (λ p q. class_of classes q ≡ class_of classes p) b a q.row p.row q.is_row p.is_row (λ p q e. sym e) like.parts.1 in
      let tails = one_key classes 0 0 p.row.0 q.row.0 p.row.1 q.row.1 p.is_key.tail q.is_key.tail (same_kind a b x y p q like.made) refl there back p.is_key.is_tail q.is_key.is_tail in
      p.is_key.whole ∙ ap (λ (t : List ℕ). marked t ++ p.is_key.tail) code ∙ ap (λ (t : List ℕ). marked (code_of b.fixed (unfolded nodes b.id)) ++ t) tails ∙ sym q.is_key.whole

  pub one_mode_key : (a : Mode) (x y : List ℕ) → IsModeKey nodes classes a x → IsModeKey nodes classes a y → x ≡ y
  one_mode_key a x y p q = key_made a a x y (record { made = refl; parts = (λ place r part. (r, part, refl), λ place r part. (r, part, refl)) }) p q

-- where the parts of n nodes are among those of an exact list, they are alike exactly where they are equivalent
module _ (nodes others : List Shape) (n : ℕ) (classes : List ℕ) (is : AreExact nodes classes)
    (inside : (a p : Mode) (place : ℕ) → a.id < n → IsModePart others a place p → p.id < length nodes)
    (into : (depth : ℕ) (a b : Mode) → a.id < length nodes → b.id < length nodes → Alike nodes depth a b → Alike others depth a b)
    (out_of : (depth : ℕ) (a b : Mode) → a.id < length nodes → b.id < length nodes → Alike others depth a b → Alike nodes depth a b) where
  pub like_equivalent : (a b : Mode) → a.id < n → b.id < n → LikeBy others classes a b → Equivalent others a b
  like_equivalent a b h g like zero = tt
  like_equivalent a b h g like (suc depth) = (
    like.made,
    (
      λ place p part. let q = like.parts.0 place p part in (q.0, q.1, same p q.0 (inside a p place h part) (inside b q.0 place g q.1) q.2),
      λ place q part. let p = like.parts.1 place q part in (p.0, p.1, same p.0 q (inside a p.0 place h p.1) (inside b q place g part) p.2),
    ),
  )
    where
      same : (p q : Mode) → p.id < length nodes → q.id < length nodes → class_of classes p ≡ class_of classes q → Alike others depth p q
      same p q k l e = into depth p q k l ((is.exact p q k l).0 e depth)

  pub alike_like : (a b : Mode) → a.id < n → b.id < n → Alike others (suc is.told_apart.0) a b → LikeBy others classes a b
  alike_like a b h g al = record {
    made = al.0;
    parts = (
      λ place p part. let q = al.1.0 place p part in (q.0, q.1, same p q.0 (inside a p place h part) (inside b q.0 place g q.1) q.2),
      λ place q part. let p = al.1.1 place q part in (p.0, p.1, same p.0 q (inside a p.0 place h p.1) (inside b q place g part) p.2),
    );
  }
    where
      same : (p q : Mode) → p.id < length nodes → q.id < length nodes → Alike others is.told_apart.0 p q → class_of classes p ≡ class_of classes q
      same p q k l al = is.told_apart.1 p q k l (out_of is.told_apart.0 p q k l al)

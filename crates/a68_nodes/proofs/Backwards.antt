-- Pieces from the last to the first.
use Rattle.std.proofs.Common.{◌≡◌, ℕ, ◌+◌, ◌<◌, ◌≤◌, List, [], ◌∷◌, ◌++◌, length, take, drop, reverse, refl, sym, ap, ◌∙◌, append_assoc, length-append, arith}
use Rattle.std.proofs.lemmas.List.{reverse-append, append-nil, map_push, length-map, take-append-le, drop-append-le, take_all, drop_all}
use Rattle.a68_tree.specs.declared.kind.NodeKind.TheVariants as k
use Rattle.a68_tree.specs.Nodes.{Entry}
use Rattle.a68_nodes.specs.declared.draft.Piece.{Piece}
use Rattle.a68_nodes.specs.declared.draft.Piece.TheVariants.{Part, Sign}
use Rattle.a68_nodes.specs.declared.draft.Draft.{Draft}
use Rattle.a68_nodes.specs.Pieces.{sign_count, signs_added, parts_from}
use Rattle.a68_nodes.specs.Views.{view, views}

-- what is done of the pieces from a place on, of which these are left
pub record Done (old : List Entry) (first : ℕ) (all left : List Piece) (now : List Entry) (ids : List ℕ) : Type 0 where
  pub past : List Piece
  pub front : take first left ≡ take first all
  pub rest : drop first left ++ past ≡ drop first all
  pub added : now ≡ signs_added old past
  pub numbers : ids ≡ reverse (parts_from (length old) past)

length_added : (old : List Entry) (ps : List Piece) → length (signs_added old ps) ≡ length old + sign_count ps
length_added old [] = omega arith
length_added old (Part id ∷ ps) = length_added old ps
length_added old (Sign before after ∷ ps) =
    let e : Entry = record { kind = k.Sign; before = before; after = after; named = before; parts = [] } in
    omega (arith, length_added old ps, length-append (signs_added old ps) (e ∷ []))

last_first : (x : ℕ) (xs : List ℕ) → reverse xs ++ x ∷ [] ≡ reverse (x ∷ xs)
last_first x xs = sym (reverse-append (x ∷ []) xs)

pub none_done : (old : List Entry) (first : ℕ) (all : List Piece) (ids : List ℕ) → ids ≡ [] → Done old first all all old ids
none_done old first all ids e = record { past = []; front = refl; rest = append-nil (drop first all); added = refl; numbers = e }

module _ (old : List Entry) (first : ℕ) (all left : List Piece) (now : List Entry) (ids : List ℕ) (d : Done old first all left now ids) where
  module _ (left' : List Piece) (p : Piece) (e : left ≡ left' ++ p ∷ []) (h : first < length left) where
    room : first ≤ length left'
    room = let n = length-append left' (p ∷ []) in omega (arith, n, h, ap length e)

    front_again : take first left' ≡ take first all
    front_again = sym (take-append-le first left' (p ∷ []) room) ∙ ap (take first) (sym e) ∙ d.front

    rest_again : drop first left' ++ p ∷ d.past ≡ drop first all
    rest_again = sym (append_assoc (drop first left') (p ∷ []) d.past) ∙ ap (λ (x : List Piece). x ++ d.past) (sym (drop-append-le first left' (p ∷ []) room) ∙ ap (drop first) (sym e)) ∙ d.rest

  pub part_done : (left' : List Piece) (ids' : List ℕ) (id : ℕ) → left ≡ left' ++ Part id ∷ [] → first < length left → ids' ≡ ids ++ id ∷ [] → Done old first all left' now ids'
  part_done left' ids' id e h f = record {
    past = Part id ∷ d.past;
    front = front_again left' (Part id) e h;
    rest = rest_again left' (Part id) e h;
    added = d.added;
    numbers = f ∙ ap (λ (x : List ℕ). x ++ id ∷ []) d.numbers ∙ last_first id (parts_from (length old) d.past);
  }

  pub sign_done : (left' : List Piece) (ids' : List ℕ) (before after : ℕ) (now' : List Entry) (parts : List ℕ) → left ≡ left' ++ Sign before after ∷ [] → first < length left → parts ≡ []
      → now' ≡ now ++ record { kind = k.Sign; before = before; after = after; named = before; parts = parts } ∷ [] → ids' ≡ ids ++ length now ∷ [] → Done old first all left' now' ids'
  sign_done left' ids' before after now' parts e h q g f = record {
    past = Sign before after ∷ d.past;
    front = front_again left' (Sign before after) e h;
    rest = rest_again left' (Sign before after) e h;
    added = let a = d.added in cc;
    numbers =
        let n : length now ≡ length old + sign_count d.past = ap length d.added ∙ length_added old d.past in
        f ∙ ap (λ (x : List ℕ). x ++ length now ∷ []) d.numbers ∙ ap (λ (x : ℕ). reverse (parts_from (length old) d.past) ++ x ∷ []) n
        ∙ last_first (length old + sign_count d.past) (parts_from (length old) d.past);
  }

  -- all is done
  module _ (h : length left ≤ first) where
    past_is : d.past ≡ drop first all
    past_is = ap (λ (x : List Piece). x ++ d.past) (sym (drop_all first left h)) ∙ d.rest

    pub all_added : now ≡ signs_added old (drop first all)
    all_added = d.added ∙ ap (signs_added old) past_is

    pub all_left : left ≡ take first all
    all_left = sym (take_all first left h) ∙ d.front

    pub all_numbers : ids ≡ reverse (parts_from (length old) (drop first all))
    all_numbers = d.numbers ∙ ap (λ (x : List Piece). reverse (parts_from (length old) x)) past_is

-- one draft more, as an entry
pub one_draft : (old new : List Draft) (d : Draft) → new ≡ old ++ d ∷ [] → views new ≡ views old ++ view d ∷ []
one_draft old new d e = ap views e ∙ map_push view old d

pub draft_count : (ds : List Draft) → length (views ds) ≡ length ds
draft_count ds = length-map ds view

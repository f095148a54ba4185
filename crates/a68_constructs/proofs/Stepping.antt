-- Serial clauses with labels, step by step.
use Rattle.std.proofs.Common.{◌≡◌, ◌⊎◌, inr, ◌<◌, ◌≤◌, ℕ, zero, suc, ◌+◌, Bool, true, false, List, [], ◌∷◌, ◌++◌, length, drop, take, get_or, refl, sym, ◌∙◌, ap, subst, arith, add-one, append_assoc, append-nil, drop-cons, length-append, None}
use Rattle.std.proofs.lemmas.Bool.{false≢true}
use Rattle.std.proofs.lemmas.List.{drop_all, map-append}
use Rattle.std.specs.Prelude.{map, if◌then◌else◌}
use Rattle.std.specs.declared.option.Option.{Option}
use Rattle.a68_annot.specs.declared.annotated.Annotated.{Annotated}
use Rattle.a68_base.specs.declared.refusal.Stop.{Stop}
use Rattle.a68_builder.specs.Aiming.{aimed_at}
use Rattle.a68_builder.specs.Labels.{settled}
use Rattle.a68_code.specs.declared.code.Instr.{Instr}
use Rattle.a68_code.specs.declared.does.Does.TheVariants as does
use Rattle.a68_elab.specs.Made.{is_exit, is_label, kind_at, steps_of}
use Rattle.a68_elab.specs.Programs.{Seat, behind, in_clause, steps_seated, tree_in}
use Rattle.a68_elab.specs.Trees.{Tree, Steps, labels_of, labelled, last_step, step, exit}
use Rattle.a68_constructs.proofs.Lying.{steps_lie}
use Rattle.a68_constructs.specs.Steps.{IsStep, exit_jumps, jumps_kept, labels_kept, step_list, step_width}
use Rattle.a68_emit.proofs.Chaining.{kept_writes, never_none, was_none}
use Rattle.a68_emit.proofs.Sizes.{size_steps, size_stretch}
use Rattle.a68_emit.proofs.Writing.{aim-middle, and_behind, had_not, is_written, nothing-written, patched, places-append, writes-as}
use Rattle.a68_emit.specs.Listing.{instr, label_places, size, step_sizes, step_stretches, stretch}
use Rattle.a68_emit.specs.Seats.{labels_among}
use Rattle.a68_emit.specs.Views.{laid_of, lying, seat_of, tree_of}
use Rattle.a68_emit.specs.Writing.{aim_all, places, ran_out, Writes}
use Rattle.a68_emit.specs.declared.view.View.{View}
use Rattle.a68_tree.specs.declared.kind.NodeKind.{NodeKind}
use Rattle.a68_tree.specs.declared.kind.NodeKind.TheVariants as kind

exit_no_label : (k : NodeKind) → is_exit k ≡ true → is_label k ≡ false
exit_no_label kind.Label e = absurd (false≢true e)
exit_no_label _ e = refl

two_on : (i : ℕ) → i + 2 ≡ suc (i + 1)
two_on i = omega arith

-- ---- a run of labels before a step

module _ (a : Annotated) (f : ℕ → Tree) where
  -- what is written does not depend on them
  stretches_alike : (place e : ℕ) (labels ids : List ℕ) (at : ℕ) → step_stretches place e (steps_of a f labels ids) at ≡ step_stretches place e (steps_of a f [] ids) at
  stretches_alike place e labels [] at = refl
  stretches_alike place e labels (id ∷ []) at = refl
  stretches_alike place e labels (id ∷ (i ∷ ids)) at =
      go (is_label (kind_at a id)) (is_exit (kind_at a i)) (stretches_alike place e (labels ++ id ∷ []) (i ∷ ids) at) (stretches_alike place e (id ∷ []) (i ∷ ids) at)
    where
      go : (l x : Bool) → step_stretches place e (steps_of a f (labels ++ id ∷ []) (i ∷ ids)) at ≡ step_stretches place e (steps_of a f [] (i ∷ ids)) at
          → step_stretches place e (steps_of a f (id ∷ []) (i ∷ ids)) at ≡ step_stretches place e (steps_of a f [] (i ∷ ids)) at
          → step_stretches place e (if l then steps_of a f (labels ++ id ∷ []) (i ∷ ids) else (if x then exit labels (f id) (steps_of a f [] ids) else step labels (f id) (steps_of a f [] (i ∷ ids)))) at
          ≡ step_stretches place e (if l then steps_of a f (id ∷ []) (i ∷ ids) else (if x then exit [] (f id) (steps_of a f [] ids) else step [] (f id) (steps_of a f [] (i ∷ ids)))) at
      go true x p q = p ∙ sym q
      go false true p q = refl
      go false false p q = refl

  jumps_alike : (labels ids : List ℕ) (at : ℕ) → exit_jumps (steps_of a f labels ids) at ≡ exit_jumps (steps_of a f [] ids) at
  jumps_alike labels [] at = refl
  jumps_alike labels (id ∷ []) at = refl
  jumps_alike labels (id ∷ (i ∷ ids)) at =
      go (is_label (kind_at a id)) (is_exit (kind_at a i)) (jumps_alike (labels ++ id ∷ []) (i ∷ ids) at) (jumps_alike (id ∷ []) (i ∷ ids) at)
    where
      go : (l x : Bool) → exit_jumps (steps_of a f (labels ++ id ∷ []) (i ∷ ids)) at ≡ exit_jumps (steps_of a f [] (i ∷ ids)) at
          → exit_jumps (steps_of a f (id ∷ []) (i ∷ ids)) at ≡ exit_jumps (steps_of a f [] (i ∷ ids)) at
          → exit_jumps (if l then steps_of a f (labels ++ id ∷ []) (i ∷ ids) else (if x then exit labels (f id) (steps_of a f [] ids) else step labels (f id) (steps_of a f [] (i ∷ ids)))) at
          ≡ exit_jumps (if l then steps_of a f (id ∷ []) (i ∷ ids) else (if x then exit [] (f id) (steps_of a f [] ids) else step [] (f id) (steps_of a f [] (i ∷ ids)))) at
      go true x p q = p ∙ sym q
      go false true p q = refl
      go false false p q = refl

  -- they are the first that are kept
  labels_first : (labels ids : List ℕ) (at : ℕ) → label_places (steps_of a f labels ids) at ≡ map (λ label. (label, at)) labels ++ label_places (steps_of a f [] ids) at
  labels_first labels [] at = sym (append-nil (map (λ label. (label, at)) labels))
  labels_first labels (id ∷ []) at = sym (append-nil (map (λ label. (label, at)) labels))
  labels_first labels (id ∷ (i ∷ ids)) at =
      go (is_label (kind_at a id)) (is_exit (kind_at a i)) (labels_first (labels ++ id ∷ []) (i ∷ ids) at) (labels_first (id ∷ []) (i ∷ ids) at)
    where
      rest : List (ℕ × ℕ)
      rest = label_places (steps_of a f [] (i ∷ ids)) at

      go : (l x : Bool)
          → label_places (steps_of a f (labels ++ id ∷ []) (i ∷ ids)) at ≡ map (λ label. (label, at)) (labels ++ id ∷ []) ++ rest
          → label_places (steps_of a f (id ∷ []) (i ∷ ids)) at ≡ (id, at) ∷ rest
          → label_places (if l then steps_of a f (labels ++ id ∷ []) (i ∷ ids) else (if x then exit labels (f id) (steps_of a f [] ids) else step labels (f id) (steps_of a f [] (i ∷ ids)))) at
          ≡ map (λ label. (label, at)) labels
          ++ label_places (if l then steps_of a f (id ∷ []) (i ∷ ids) else (if x then exit [] (f id) (steps_of a f [] ids) else step [] (f id) (steps_of a f [] (i ∷ ids)))) at
      go true x p q =
          p ∙ ap (λ (z : List (ℕ × ℕ)). z ++ rest) (map-append (λ label. (label, at)) labels (id ∷ []))
          ∙ append_assoc (map (λ label. (label, at)) labels) ((id, at) ∷ []) rest ∙ ap (λ (z : List (ℕ × ℕ)). map (λ label. (label, at)) labels ++ z) (sym q)
      go false true p q = refl
      go false false p q = refl

  past_exit : (i : ℕ) (ids : List ℕ) → is_exit (kind_at a i) ≡ true → labels_among a ids ≡ labels_among a (i ∷ ids)
  past_exit i [] e = refl
  past_exit i (j ∷ js) e = ap (λ (b : Bool). if b then i ∷ labels_among a (j ∷ js) else labels_among a (j ∷ js)) (sym (exit_no_label (kind_at a i) e))

  -- the labels of the steps are those among the nodes
  pub labels_are : (labels ids : List ℕ) → labels_of (steps_of a f labels ids) ≡ labels ++ labels_among a ids
  labels_are labels [] = sym (append-nil labels)
  labels_are labels (id ∷ []) = sym (append-nil labels)
  labels_are labels (id ∷ (i ∷ ids)) =
      go (is_label (kind_at a id)) (is_exit (kind_at a i)) (past_exit i ids) (labels_are (labels ++ id ∷ []) (i ∷ ids)) (labels_are [] ids) (labels_are [] (i ∷ ids))
    where
      go : (l x : Bool) → (x ≡ true → labels_among a ids ≡ labels_among a (i ∷ ids)) → labels_of (steps_of a f (labels ++ id ∷ []) (i ∷ ids)) ≡ (labels ++ id ∷ []) ++ labels_among a (i ∷ ids)
          → labels_of (steps_of a f [] ids) ≡ labels_among a ids → labels_of (steps_of a f [] (i ∷ ids)) ≡ labels_among a (i ∷ ids)
          → labels_of (if l then steps_of a f (labels ++ id ∷ []) (i ∷ ids) else (if x then exit labels (f id) (steps_of a f [] ids) else step labels (f id) (steps_of a f [] (i ∷ ids))))
          ≡ labels ++ (if l then id ∷ labels_among a (i ∷ ids) else labels_among a (i ∷ ids))
      go true x p q r s = q ∙ append_assoc labels (id ∷ []) (labels_among a (i ∷ ids))
      go false true p q r s = ap (λ (z : List ℕ). labels ++ z) (r ∙ p refl)
      go false false p q r s = ap (λ (z : List ℕ). labels ++ z) s

-- ---- one label or step, and those behind it

-- the nodes that are left behind it
abbrev pub left_behind : Annotated → (part next : ℕ) → (more : List ℕ) → List ℕ
left_behind a part next more = if is_label (kind_at a part) then next ∷ more else (if is_exit (kind_at a next) then more else next ∷ more)

abbrev of_all : View → (id : ℕ) → List ℕ → Steps
of_all v id ids = steps_of v.of.now (behind id (laid_of v)) [] ids

one_long : (t : Tree) (at place : ℕ) → length (stretch t at ++ instr place (does.Jump 0) ∷ []) ≡ size t + 1
one_long t at place = length-append (stretch t at) (instr place (does.Jump 0) ∷ []) ∙ ap (λ n. n + 1) (size_stretch t at)

split_list : (v : View) (id place part next : ℕ) (more : List ℕ) (at : ℕ)
    → step_stretches place 0 (of_all v id (part ∷ (next ∷ more))) at
    ≡ step_list v id place part next at ++ step_stretches place 0 (of_all v id (left_behind v.of.now part next more)) (at + length (step_list v id place part next at))
split_list v id place part next more at = go (is_label (kind_at v.of.now part)) (is_exit (kind_at v.of.now next))
  where
    f : ℕ → Tree
    f = behind id (laid_of v)

    t : Tree
    t = behind id (laid_of v) part

    S : List ℕ → List ℕ → Steps
    S = steps_of v.of.now (behind id (laid_of v))

    go : (l x : Bool) → step_stretches place 0 (if l then S (part ∷ []) (next ∷ more) else (if x then exit [] t (S [] more) else step [] t (S [] (next ∷ more)))) at
        ≡ (if l then [] else (if x then stretch t at ++ instr place (does.Jump 0) ∷ [] else stretch t at))
        ++ step_stretches place 0 (S [] (if l then next ∷ more else (if x then more else next ∷ more)))
        (at + length (if l then [] else (if x then stretch t at ++ instr place (does.Jump 0) ∷ [] else stretch t at)))
    go true x =
        let z : at + 0 ≡ at = omega arith in
        stretches_alike v.of.now (behind id (laid_of v)) place 0 (part ∷ []) (next ∷ more) at ∙ ap (λ n. step_stretches place 0 (S [] (next ∷ more)) n) (sym z)
    go false true =
        let rest = S [] more in
        let long : at + length (stretch t at ++ instr place (does.Jump 0) ∷ []) ≡ at + size t + 1 = omega (arith, one_long t at place) in
        sym (append_assoc (stretch t at) (instr place (does.Jump 0) ∷ []) (step_stretches place 0 rest (at + size t + 1)))
        ∙ ap (λ n. (stretch t at ++ instr place (does.Jump 0) ∷ []) ++ step_stretches place 0 rest n) (sym long)
    go false false = ap (λ n. stretch t at ++ step_stretches place 0 (S [] (next ∷ more)) (at + n)) (sym (size_stretch t at))

split_labels : (v : View) (id place part next : ℕ) (more : List ℕ) (at : ℕ)
    → label_places (of_all v id (part ∷ (next ∷ more))) at
    ≡ labels_kept v part at ++ label_places (of_all v id (left_behind v.of.now part next more)) (at + length (step_list v id place part next at))
split_labels v id place part next more at = go (is_label (kind_at v.of.now part)) (is_exit (kind_at v.of.now next))
  where
    t : Tree
    t = behind id (laid_of v) part

    S : List ℕ → List ℕ → Steps
    S = steps_of v.of.now (behind id (laid_of v))

    go : (l x : Bool) → label_places (if l then S (part ∷ []) (next ∷ more) else (if x then exit [] t (S [] more) else step [] t (S [] (next ∷ more)))) at
        ≡ (if l then (part, at) ∷ [] else [])
        ++ label_places (S [] (if l then next ∷ more else (if x then more else next ∷ more)))
        (at + length (if l then [] else (if x then stretch t at ++ instr place (does.Jump 0) ∷ [] else stretch t at)))
    go true x =
        let z : at + 0 ≡ at = omega arith in
        labels_first v.of.now (behind id (laid_of v)) (part ∷ []) (next ∷ more) at ∙ ap (λ n. (part, at) ∷ label_places (S [] (next ∷ more)) n) (sym z)
    go false true =
        let long : at + length (stretch t at ++ instr place (does.Jump 0) ∷ []) ≡ at + size t + 1 = omega (arith, one_long t at place) in
        ap (λ n. label_places (S [] more) n) (sym long)
    go false false = ap (λ n. label_places (S [] (next ∷ more)) (at + n)) (sym (size_stretch t at))

split_jumps : (v : View) (id place part next : ℕ) (more : List ℕ) (at : ℕ)
    → exit_jumps (of_all v id (part ∷ (next ∷ more))) at
    ≡ jumps_kept v id part next at ++ exit_jumps (of_all v id (left_behind v.of.now part next more)) (at + length (step_list v id place part next at))
split_jumps v id place part next more at = go (is_label (kind_at v.of.now part)) (is_exit (kind_at v.of.now next))
  where
    t : Tree
    t = behind id (laid_of v) part

    S : List ℕ → List ℕ → Steps
    S = steps_of v.of.now (behind id (laid_of v))

    go : (l x : Bool) → exit_jumps (if l then S (part ∷ []) (next ∷ more) else (if x then exit [] t (S [] more) else step [] t (S [] (next ∷ more)))) at
        ≡ (if l then [] else (if x then (at + size t) ∷ [] else []))
        ++ exit_jumps (S [] (if l then next ∷ more else (if x then more else next ∷ more)))
        (at + length (if l then [] else (if x then stretch t at ++ instr place (does.Jump 0) ∷ [] else stretch t at)))
    go true x =
        let z : at + 0 ≡ at = omega arith in
        jumps_alike v.of.now (behind id (laid_of v)) (part ∷ []) (next ∷ more) at ∙ ap (λ n. exit_jumps (S [] (next ∷ more)) n) (sym z)
    go false true =
        let long : at + length (stretch t at ++ instr place (does.Jump 0) ∷ []) ≡ at + size t + 1 = omega (arith, one_long t at place) in
        ap (λ n. (at + size t) ∷ exit_jumps (S [] more) n) (sym long)
    go false false = ap (λ n. exit_jumps (S [] (next ∷ more)) (at + n)) (sym (size_stretch t at))

-- ---- one label or step is written

pub label_step : (v : View) (id place part next start : ℕ) (placed placed' : List (ℕ × ℕ)) (jumps : List ℕ) (s0 s1 : Option Stop) (l0 l1 : List Instr) → is_label (kind_at v.of.now part) ≡ true → start ≡ length l0
    → l1 ≡ l0 → (s1 ≡ s0) ⊎ (s1 ≡ ran_out s0) → (s1 ≡ None → placed' ≡ placed ++ (part, start) ∷ []) → IsStep v id place part next s0 l0 placed jumps s1 l1 placed' jumps
label_step v id place part next start placed placed' jumps s0 s1 l0 l1 is es el stop kept =
    let t = behind id (laid_of v) part in
    let none : Writes s0 s1 l0 l1 [] = subst (λ (l : List Instr). Writes s0 s1 l0 l []) (sym el) (kept_writes s0 s0 s1 l0 l0 [] stop (nothing-written s0 l0)) in
    record {
      writes =
          subst (λ (b : Bool). Writes s0 s1 l0 l1
          (if b then [] else (if is_exit (kind_at v.of.now next) then stretch t (length l0) ++ instr place (does.Jump 0) ∷ [] else stretch t (length l0)))) (sym is) none;
      labels = λ n. kept n ∙ ap (λ (k : ℕ). placed ++ (part, k) ∷ []) es ∙ ap (λ (b : Bool). placed ++ (if b then (part, length l0) ∷ [] else [])) (sym is);
      leaps = λ n. sym (append-nil jumps) ∙ ap (λ (b : Bool). jumps ++ (if b then [] else (if is_exit (kind_at v.of.now next) then (length l0 + size t) ∷ [] else []))) (sym is);
    }

pub unit_step : (v : View) (id place part next : ℕ) (placed : List (ℕ × ℕ)) (jumps : List ℕ) (s0 s1 : Option Stop) (l0 l1 : List Instr) → is_label (kind_at v.of.now part) ≡ false
    → is_exit (kind_at v.of.now next) ≡ false → Writes s0 s1 l0 l1 (stretch (behind id (laid_of v) part) (length l0)) → IsStep v id place part next s0 l0 placed jumps s1 l1 placed jumps
unit_step v id place part next placed jumps s0 s1 l0 l1 label exits w =
    let t = behind id (laid_of v) part in
    let x = stretch t (length l0) in
    let jump = x ++ instr place (does.Jump 0) ∷ [] in
    record {
      writes =
          subst (λ (b : Bool). Writes s0 s1 l0 l1 (if b then [] else (if is_exit (kind_at v.of.now next) then jump else x))) (sym label)
          (subst (λ (b : Bool). Writes s0 s1 l0 l1 (if b then jump else x)) (sym exits) w);
      labels = λ n. sym (append-nil placed) ∙ ap (λ (b : Bool). placed ++ (if b then (part, length l0) ∷ [] else [])) (sym label);
      leaps =
          λ n. sym (append-nil jumps) ∙ ap (λ (b : Bool). jumps ++ (if b then (length l0 + size t) ∷ [] else [])) (sym exits)
          ∙ ap (λ (b : Bool). jumps ++ (if b then [] else (if is_exit (kind_at v.of.now next) then (length l0 + size t) ∷ [] else []))) (sym label);
    }

pub exit_step : (v : View) (id place part next at : ℕ) (placed : List (ℕ × ℕ)) (jumps jumps' : List ℕ) (s0 s1 s2 s3 : Option Stop) (l0 l1 l2 l3 : List Instr) → is_label (kind_at v.of.now part) ≡ false
    → is_exit (kind_at v.of.now next) ≡ true → Writes s0 s1 l0 l1 (stretch (behind id (laid_of v) part) (length l0)) → at ≡ length l1 → l2 ≡ l1 → (s2 ≡ s1) ⊎ (s2 ≡ ran_out s1)
    → (s2 ≡ None → jumps' ≡ jumps ++ at ∷ []) → Writes s2 s3 l2 l3 (instr place (does.Jump 0) ∷ []) → IsStep v id place part next s0 l0 placed jumps s3 l3 placed jumps'
exit_step v id place part next at placed jumps jumps' s0 s1 s2 s3 l0 l1 l2 l3 label exits w ea el stop kept w3 =
    let t = behind id (laid_of v) part in
    let x = stretch t (length l0) in
    let jump = x ++ instr place (does.Jump 0) ∷ [] in
    let last : Writes s2 s3 l1 l3 (instr place (does.Jump 0) ∷ []) = subst (λ (l : List Instr). Writes s2 s3 l l3 (instr place (does.Jump 0) ∷ [])) el w3 in
    let whole : Writes s0 s3 l0 l3 jump = and_behind s0 s2 s3 l0 l1 l3 x (λ n. instr place (does.Jump 0) ∷ []) (kept_writes s0 s1 s2 l0 l1 x stop w) last in
    let none : s3 ≡ None → s2 ≡ None = λ n. had_not s2 s3 l1 l3 _ last n in
    let here : s3 ≡ None → at ≡ length l0 + size t =
    λ n. ea ∙ ap (λ (l : List Instr). length l) (is_written s0 s1 l0 l1 x w (was_none s1 s2 stop (none n))) ∙ length-append l0 x ∙ ap (λ k. length l0 + k) (size_stretch t (length l0)) in
    record {
      writes =
          subst (λ (b : Bool). Writes s0 s3 l0 l3 (if b then [] else (if is_exit (kind_at v.of.now next) then jump else x))) (sym label)
          (subst (λ (b : Bool). Writes s0 s3 l0 l3 (if b then jump else x)) (sym exits) whole);
      labels = λ n. sym (append-nil placed) ∙ ap (λ (b : Bool). placed ++ (if b then (part, length l0) ∷ [] else [])) (sym label);
      leaps =
          λ n. kept (none n) ∙ ap (λ (k : ℕ). jumps ++ k ∷ []) (here n) ∙ ap (λ (b : Bool). jumps ++ (if b then (length l0 + size t) ∷ [] else [])) (sym exits)
          ∙ ap (λ (b : Bool). jumps ++ (if b then [] else (if is_exit (kind_at v.of.now next) then (length l0 + size t) ∷ [] else []))) (sym label);
    }

pub one_wide : (a : Annotated) (part next : ℕ) → is_label (kind_at a part) ≡ true → 1 ≡ step_width a part next
one_wide a part next is = ap (λ (b : Bool). if b then 1 else (if is_exit (kind_at a next) then 2 else 1)) (sym is)

pub unit_wide : (a : Annotated) (part next n : ℕ) (x : Bool) → is_label (kind_at a part) ≡ false → is_exit (kind_at a next) ≡ x → n ≡ (if x then 2 else 1) → n ≡ step_width a part next
unit_wide a part next n x label exits e =
    e ∙ ap (λ (b : Bool). if b then 2 else 1) (sym exits) ∙ ap (λ (b : Bool). if b then 1 else (if is_exit (kind_at a next) then 2 else 1)) (sym label)

-- ---- the loop

-- With the steps of the nodes that are left all are written, and with what is kept of them all is kept. Labels that stand before
-- the first node that is left are kept already, so these steps begin with none.
pub record StepsAhead (v : View) (id place : ℕ) (all left : List ℕ) (placed : List (ℕ × ℕ)) (jumps : List ℕ) (stop stop' : Option Stop) (list list' : List Instr) : Type 0 where
  pub writes : (s : Option Stop) (end : List Instr) → Writes stop' s list' end (step_stretches place 0 (steps_of v.of.now (behind id (laid_of v)) [] left) (length list'))
      → Writes stop s list end (step_stretches place 0 (steps_of v.of.now (behind id (laid_of v)) [] all) (length list))
  pub labels : stop' ≡ None → placed ++ label_places (steps_of v.of.now (behind id (laid_of v)) [] left) (length list') ≡ label_places (steps_of v.of.now (behind id (laid_of v)) [] all) (length list)
  pub leaps : stop' ≡ None → jumps ++ exit_jumps (steps_of v.of.now (behind id (laid_of v)) [] left) (length list') ≡ exit_jumps (steps_of v.of.now (behind id (laid_of v)) [] all) (length list)

pub steps_first : (v : View) (id place : ℕ) (all : List ℕ) (placed : List (ℕ × ℕ)) (jumps : List ℕ) (s : Option Stop) (l : List Instr) → placed ≡ [] → jumps ≡ []
    → StepsAhead v id place all all placed jumps s s l l
steps_first v id place all placed jumps s l ep ej = record {
  writes = λ s1 l1 w. w;
  labels = λ n. ap (λ (z : List (ℕ × ℕ)). z ++ label_places (of_all v id all) (length l)) ep;
  leaps = λ n. ap (λ (z : List ℕ). z ++ exit_jumps (of_all v id all) (length l)) ej;
}

two_left : (a : Annotated) (ids : List ℕ) (i : ℕ) → i + 1 < length ids → drop i ids ≡ get_or ids i 0 ∷ (get_or ids (i + 1) 0 ∷ drop (i + 2) ids)
two_left a ids i less =
    let one : i + 1 ≡ suc i = add-one i in
    let two : i + 2 ≡ suc (suc i) = omega arith in
    drop-cons ids i 0 (omega arith) ∙ ap (λ (z : List ℕ). get_or ids i 0 ∷ z) (drop-cons ids (suc i) 0 (omega arith))
    ∙ ap (λ (n : ℕ). get_or ids i 0 ∷ (get_or ids n 0 ∷ drop (suc (suc i)) ids)) (sym one) ∙ ap (λ (n : ℕ). get_or ids i 0 ∷ (get_or ids (i + 1) 0 ∷ drop n ids)) (sym two)

next_left : (a : Annotated) (ids : List ℕ) (i : ℕ) → i + 1 < length ids
    → drop (i + step_width a (get_or ids i 0) (get_or ids (i + 1) 0)) ids ≡ left_behind a (get_or ids i 0) (get_or ids (i + 1) 0) (drop (i + 2) ids)
next_left a ids i less = go (is_label (kind_at a (get_or ids i 0))) (is_exit (kind_at a (get_or ids (i + 1) 0)))
  where
    go : (l x : Bool) → drop (i + (if l then 1 else (if x then 2 else 1))) ids
        ≡ (if l then get_or ids (i + 1) 0 ∷ drop (i + 2) ids else (if x then drop (i + 2) ids else get_or ids (i + 1) 0 ∷ drop (i + 2) ids))
    go true x = drop-cons ids (i + 1) 0 less ∙ ap (λ (n : ℕ). get_or ids (i + 1) 0 ∷ drop n ids) (sym (two_on i))
    go false true = refl
    go false false = drop-cons ids (i + 1) 0 less ∙ ap (λ (n : ℕ). get_or ids (i + 1) 0 ∷ drop n ids) (sym (two_on i))

-- one label or step more
pub steps_on : (v : View) (id place : ℕ) (ids : List ℕ) (i width : ℕ) (placed placed' : List (ℕ × ℕ)) (jumps jumps' : List ℕ) (s0 s1 s2 : Option Stop) (l0 l1 l2 : List Instr) → i + 1 < length ids
    → StepsAhead v id place ids (drop i ids) placed jumps s0 s1 l0 l1 → IsStep v id place (get_or ids i 0) (get_or ids (i + 1) 0) s1 l1 placed jumps s2 l2 placed' jumps'
    → width ≡ step_width v.of.now (get_or ids i 0) (get_or ids (i + 1) 0) → StepsAhead v id place ids (drop (i + width) ids) placed' jumps' s0 s2 l0 l2
steps_on v id place ids i width placed placed' jumps jumps' s0 s1 s2 l0 l1 l2 less before one wide =
    let part = get_or ids i 0 in
    let next = get_or ids (i + 1) 0 in
    let more = drop (i + 2) ids in
    let a = v.of.now in
    let list = step_list v id place part next (length l1) in
    let here : drop i ids ≡ part ∷ (next ∷ more) = two_left a ids i less in
    let left : drop (i + width) ids ≡ left_behind a part next more = ap (λ (n : ℕ). drop (i + n) ids) wide ∙ next_left a ids i less in
    let none : s2 ≡ None → s1 ≡ None = λ n. had_not s1 s2 l1 l2 list one.writes n in
    let long : s2 ≡ None → length l2 ≡ length l1 + length list = λ n. ap (λ (l : List Instr). length l) (is_written s1 s2 l1 l2 list one.writes n) ∙ length-append l1 list in
    subst (λ (z : List ℕ). StepsAhead v id place ids z placed' jumps' s0 s2 l0 l2) (sym left)
    (record {
      writes =
          λ s l w. before.writes s l (writes-as s1 s l1 l _ _ (sym (split_list v id place part next more (length l1)) ∙ ap (λ (z : List ℕ). step_stretches place 0 (of_all v id z) (length l1)) (sym here))
          (and_behind s1 s2 s l1 l2 l list (λ n. step_stretches place 0 (of_all v id (left_behind a part next more)) n) one.writes w));
      labels =
          λ n. ap (λ (z : List (ℕ × ℕ)). z ++ label_places (of_all v id (left_behind a part next more)) (length l2)) (one.labels n)
          ∙ ap (λ (k : ℕ). (placed ++ labels_kept v part (length l1)) ++ label_places (of_all v id (left_behind a part next more)) k) (long n)
          ∙ append_assoc placed (labels_kept v part (length l1)) (label_places (of_all v id (left_behind a part next more)) (length l1 + length list))
          ∙ ap (λ (z : List (ℕ × ℕ)). placed ++ z) (sym (split_labels v id place part next more (length l1)) ∙ ap (λ (z : List ℕ). label_places (of_all v id z) (length l1)) (sym here)) ∙ before.labels (none n);
      leaps =
          λ n. ap (λ (z : List ℕ). z ++ exit_jumps (of_all v id (left_behind a part next more)) (length l2)) (one.leaps n)
          ∙ ap (λ (k : ℕ). (jumps ++ jumps_kept v id part next (length l1)) ++ exit_jumps (of_all v id (left_behind a part next more)) k) (long n)
          ∙ append_assoc jumps (jumps_kept v id part next (length l1)) (exit_jumps (of_all v id (left_behind a part next more)) (length l1 + length list))
          ∙ ap (λ (z : List ℕ). jumps ++ z) (sym (split_jumps v id place part next more (length l1)) ∙ ap (λ (z : List ℕ). exit_jumps (of_all v id z) (length l1)) (sym here)) ∙ before.leaps (none n);
    })

one_left : (ids : List ℕ) (i : ℕ) → i < length ids → length ids ≤ i + 1 → drop i ids ≡ get_or ids i 0 ∷ []
one_left [] i less past = absurd (omega arith)
one_left (x ∷ []) zero less past = refl
one_left (x ∷ (y ∷ ids)) zero less past = absurd (omega arith)
one_left (x ∷ ids) (suc i) less past = one_left ids i (omega arith) (omega arith)

-- the last step is written
pub steps_end : (v : View) (id place : ℕ) (ids : List ℕ) (i : ℕ) (placed : List (ℕ × ℕ)) (jumps : List ℕ) (s0 s1 s2 : Option Stop) (l0 l1 l2 : List Instr) → i < length ids → length ids ≤ i + 1
    → StepsAhead v id place ids (drop i ids) placed jumps s0 s1 l0 l1 → Writes s1 s2 l1 l2 (stretch (behind id (laid_of v) (get_or ids i 0)) (length l1))
    → Writes s0 s2 l0 l2 (step_stretches place 0 (steps_of v.of.now (behind id (laid_of v)) [] ids) (length l0))
steps_end v id place ids i placed jumps s0 s1 s2 l0 l1 l2 less past before w =
    before.writes s2 l2 (writes-as s1 s2 l1 l2 _ _ (ap (λ (z : List ℕ). step_stretches place 0 (of_all v id z) (length l1)) (sym (one_left ids i less past))) w)

pub labels_end : (v : View) (id place : ℕ) (ids : List ℕ) (i : ℕ) (placed : List (ℕ × ℕ)) (jumps : List ℕ) (s0 s1 : Option Stop) (l0 l1 : List Instr) → i < length ids → length ids ≤ i + 1
    → StepsAhead v id place ids (drop i ids) placed jumps s0 s1 l0 l1 → s1 ≡ None → placed ≡ label_places (steps_of v.of.now (behind id (laid_of v)) [] ids) (length l0)
labels_end v id place ids i placed jumps s0 s1 l0 l1 less past before none =
    sym (append-nil placed) ∙ ap (λ (z : List ℕ). placed ++ label_places (of_all v id z) (length l1)) (sym (one_left ids i less past)) ∙ before.labels none

pub jumps_end : (v : View) (id place : ℕ) (ids : List ℕ) (i : ℕ) (placed : List (ℕ × ℕ)) (jumps : List ℕ) (s0 s1 : Option Stop) (l0 l1 : List Instr) → i < length ids → length ids ≤ i + 1
    → StepsAhead v id place ids (drop i ids) placed jumps s0 s1 l0 l1 → s1 ≡ None → jumps ≡ exit_jumps (steps_of v.of.now (behind id (laid_of v)) [] ids) (length l0)
jumps_end v id place ids i placed jumps s0 s1 l0 l1 less past before none =
    sym (append-nil jumps) ∙ ap (λ (z : List ℕ). jumps ++ exit_jumps (of_all v id z) (length l1)) (sym (one_left ids i less past)) ∙ before.leaps none

none_left : (ids : List ℕ) (i : ℕ) → length ids ≤ i → drop i ids ≡ []
none_left ids i past = drop_all i ids past

-- or there is none
pub steps_none : (v : View) (id place : ℕ) (ids : List ℕ) (i : ℕ) (placed : List (ℕ × ℕ)) (jumps : List ℕ) (s0 s1 : Option Stop) (l0 l1 : List Instr) → length ids ≤ i
    → StepsAhead v id place ids (drop i ids) placed jumps s0 s1 l0 l1 → Writes s0 s1 l0 l1 (step_stretches place 0 (steps_of v.of.now (behind id (laid_of v)) [] ids) (length l0))
steps_none v id place ids i placed jumps s0 s1 l0 l1 past before =
    before.writes s1 l1 (writes-as s1 s1 l1 l1 _ _ (ap (λ (z : List ℕ). step_stretches place 0 (of_all v id z) (length l1)) (sym (none_left ids i past))) (nothing-written s1 l1))

pub labels_none : (v : View) (id place : ℕ) (ids : List ℕ) (i : ℕ) (placed : List (ℕ × ℕ)) (jumps : List ℕ) (s0 s1 : Option Stop) (l0 l1 : List Instr) → length ids ≤ i
    → StepsAhead v id place ids (drop i ids) placed jumps s0 s1 l0 l1 → s1 ≡ None → placed ≡ label_places (steps_of v.of.now (behind id (laid_of v)) [] ids) (length l0)
labels_none v id place ids i placed jumps s0 s1 l0 l1 past before none =
    sym (append-nil placed) ∙ ap (λ (z : List ℕ). placed ++ label_places (of_all v id z) (length l1)) (sym (none_left ids i past)) ∙ before.labels none

pub jumps_none : (v : View) (id place : ℕ) (ids : List ℕ) (i : ℕ) (placed : List (ℕ × ℕ)) (jumps : List ℕ) (s0 s1 : Option Stop) (l0 l1 : List Instr) → length ids ≤ i
    → StepsAhead v id place ids (drop i ids) placed jumps s0 s1 l0 l1 → s1 ≡ None → jumps ≡ exit_jumps (steps_of v.of.now (behind id (laid_of v)) [] ids) (length l0)
jumps_none v id place ids i placed jumps s0 s1 l0 l1 past before none =
    sym (append-nil jumps) ∙ ap (λ (z : List ℕ). jumps ++ exit_jumps (of_all v id z) (length l1)) (sym (none_left ids i past)) ∙ before.leaps none

-- ---- the jumps to the end, and those to the labels

aim_steps : (place end : ℕ) (steps : Steps) (front rest : List Instr) (at : ℕ) → at ≡ length front
    → aim_all (front ++ (step_stretches place 0 steps at ++ rest)) (exit_jumps steps at) end ≡ front ++ (step_stretches place end steps at ++ rest)
aim_steps place end (last_step labels t) front rest at e = refl
aim_steps place end (step labels t more) front rest at e =
    let q = stretch t at in
    let long = size_stretch t at in
    let apart : (k : ℕ) → front ++ ((q ++ step_stretches place k more (at + size t)) ++ rest) ≡ (front ++ q) ++ (step_stretches place k more (at + size t) ++ rest) =
    λ k. ap (λ (z : List Instr). front ++ z) (append_assoc q (step_stretches place k more (at + size t)) rest) ∙ sym (append_assoc front q (step_stretches place k more (at + size t) ++ rest)) in
    ap (λ (l : List Instr). aim_all l (exit_jumps more (at + size t)) end) (apart 0)
    ∙ aim_steps place end more (front ++ q) rest (at + size t) (omega (arith, length-append front q, long, e)) ∙ sym (apart end)
aim_steps place end (exit labels t more) front rest at e =
    let q = stretch t at in
    let next = at + size t + 1 in
    let j : ℕ → Instr = λ k. instr place (does.Jump k) in
    let front2 = (front ++ q) ++ (j end ∷ []) in
    let long = size_stretch t at in
    let apart : (k : ℕ) → front ++ ((q ++ (j k ∷ step_stretches place k more next)) ++ rest) ≡ (front ++ q) ++ (j k ∷ (step_stretches place k more next ++ rest)) =
    λ k. ap (λ (z : List Instr). front ++ z) (append_assoc q (j k ∷ step_stretches place k more next) rest) ∙ sym (append_assoc front q (j k ∷ (step_stretches place k more next ++ rest))) in
    let here : at + size t ≡ length (front ++ q) = omega (arith, length-append front q, long, e) in
    ap (λ (l : List Instr). aim_all (aimed_at l (at + size t) 0 end) (exit_jumps more next) end) (apart 0)
    ∙ ap (λ (l : List Instr). aim_all l (exit_jumps more next) end)
    (aim-middle (front ++ q) (step_stretches place 0 more next ++ rest) (j 0) (at + size t) 0 end here ∙ sym (append_assoc (front ++ q) (j end ∷ []) (step_stretches place 0 more next ++ rest)))
    ∙ aim_steps place end more front2 rest next (omega (arith, length-append (front ++ q) (j end ∷ []), here))
    ∙ append_assoc (front ++ q) (j end ∷ []) (step_stretches place end more next ++ rest) ∙ sym (apart end)

places_steps : (place e e' : ℕ) (steps : Steps) (at : ℕ) → places (step_stretches place e steps at) ≡ places (step_stretches place e' steps at)
places_steps place e e' (last_step labels t) at = refl
places_steps place e e' (step labels t more) at =
    let q = stretch t at in
    places-append q (step_stretches place e more (at + size t)) ∙ ap (λ (l : List ℕ). places q ++ l) (places_steps place e e' more (at + size t))
    ∙ sym (places-append q (step_stretches place e' more (at + size t)))
places_steps place e e' (exit labels t more) at =
    let q = stretch t at in
    let next = at + size t + 1 in
    places-append q (instr place (does.Jump e) ∷ step_stretches place e more next) ∙ ap (λ (l : List ℕ). places q ++ (place ∷ l)) (places_steps place e e' more next)
    ∙ sym (places-append q (instr place (does.Jump e') ∷ step_stretches place e' more next))

places_settled : (labels : List (ℕ × ℕ)) (xs : List Instr) → places xs ≡ places (map (settled labels) xs)
places_settled labels [] = refl
places_settled labels (x ∷ xs) = ap (λ (l : List ℕ). x.place ∷ l) (places_settled labels xs)

take_front : (xs ys : List Instr) → take (length xs) (xs ++ ys) ≡ xs
take_front [] ys = refl
take_front (x ∷ xs) ys = ap (λ (l : List Instr). x ∷ l) (take_front xs ys)

drop_front : (xs ys : List Instr) → drop (length xs) (xs ++ ys) ≡ ys
drop_front [] ys = refl
drop_front (x ∷ xs) ys = drop_front xs ys

pub steps_settled : (s0 s1 s3 : Option Stop) (l0 l1 l2 l3 : List Instr) (place from end : ℕ) (jumps : List ℕ) (labels : List (ℕ × ℕ)) (steps : Steps)
    → Writes s0 s1 l0 l1 (step_stretches place 0 steps (length l0)) → from ≡ length l0 → end ≡ length l1 → (s1 ≡ None → labels ≡ label_places steps (length l0))
    → (s1 ≡ None → jumps ≡ exit_jumps steps (length l0)) → l2 ≡ aim_all l1 jumps end → l3 ≡ take from l2 ++ map (settled labels) (drop from l2) → s3 ≡ s1
    → Writes s0 s3 l0 l3 (stretch (labelled place steps) (length l0))
steps_settled s0 s1 s3 l0 l1 l2 l3 place from end jumps labels steps w ef ee el ej e2 e3 es =
    let at = length l0 in
    let last = at + step_sizes steps in
    let raw = step_stretches place 0 steps at in
    let aimed = step_stretches place last steps at in
    let many = size_steps place 0 steps at in
    let done : s1 ≡ None → l1 ≡ l0 ++ raw → l3 ≡ l0 ++ map (settled (label_places steps at)) aimed =
    λ n is.
    let stop : end ≡ last = ee ∙ ap (λ (l : List Instr). length l) is ∙ length-append l0 raw ∙ ap (λ k. at + k) many in
    let two : l2 ≡ l0 ++ aimed =
    e2 ∙ ap (λ (l : List Instr). aim_all l jumps end) (is ∙ ap (λ (l : List Instr). l0 ++ l) (sym (append-nil raw)))
    ∙ ap (λ (js : List ℕ). aim_all (l0 ++ (raw ++ [])) js end) (ej n) ∙ ap (λ (k : ℕ). aim_all (l0 ++ (raw ++ [])) (exit_jumps steps at) k) stop
    ∙ aim_steps place last steps l0 [] at refl ∙ ap (λ (l : List Instr). l0 ++ l) (append-nil aimed) in
    e3 ∙ ap (λ (k : ℕ). take k l2 ++ map (settled labels) (drop k l2)) ef ∙ ap (λ (l : List Instr). take at l ++ map (settled labels) (drop at l)) two
    ∙ ap (λ (l : List Instr). l ++ map (settled labels) (drop at (l0 ++ aimed))) (take_front l0 aimed) ∙ ap (λ (l : List Instr). l0 ++ map (settled labels) l) (drop_front l0 aimed)
    ∙ ap (λ (ls : List (ℕ × ℕ)). l0 ++ map (settled ls) aimed) (el n) in
    subst (λ (z : Option Stop). Writes s0 z l0 l3 (map (settled (label_places steps at)) aimed)) (sym es)
    (patched s0 s1 l0 l1 l3 raw (map (settled (label_places steps at)) aimed) w (places_steps place 0 last steps at ∙ places_settled (label_places steps at) aimed) done)

-- without memory for the labels writing stops
pub steps_stopped : (s0 s1 s3 : Option Stop) (l0 l1 l3 : List Instr) (place : ℕ) (steps : Steps) → Writes s0 s1 l0 l1 (step_stretches place 0 steps (length l0)) → s3 ≡ ran_out s1
    → Writes s0 s3 l0 l3 (stretch (labelled place steps) (length l0))
steps_stopped s0 s1 s3 l0 l1 l3 place steps w es =
    let at = length l0 in
    let last = at + step_sizes steps in
    let aimed = step_stretches place last steps at in
    patched s0 s3 l0 l1 l3 _ (map (settled (label_places steps at)) aimed) (kept_writes s0 s1 s3 l0 l1 _ (inr es) w)
    (places_steps place 0 last steps at ∙ places_settled (label_places steps at) aimed) (λ n is. absurd (never_none s1 s3 es n))

-- ---- the clause

-- the steps are seen from within the clause, which has the labels among its nodes
pub labelled_lies : (v w : View) (id place : ℕ) (ids : List ℕ) → w.of.now ≡ v.of.now → w.sight ≡ v.sight → seat_of w ≡ in_clause (labels_among v.of.now ids) (seat_of v)
    → lying v (labelled place (steps_of v.of.now (behind id (tree_of v)) [] ids)) ≡ labelled place (steps_of w.of.now (behind id (laid_of w)) [] ids)
labelled_lies v w id place ids same sight seat =
    let a = v.of.now in
    let f = behind id (tree_of v) in
    ap (λ (ls : List ℕ). labelled place (steps_seated (in_clause ls (seat_of v)) (steps_of a f [] ids))) (labels_are a f [] ids)
    ∙ ap (λ (z : Seat). labelled place (steps_seated z (steps_of a f [] ids))) (sym seat)
    ∙ ap (λ (g : ℕ → Tree). labelled place (steps_seated (seat_of w) (steps_of a (behind id g) [] ids))) (ap (λ (x : Annotated). tree_in x v.sight) (sym same) ∙ ap (tree_in w.of.now) (sym sight))
    ∙ ap (λ (x : Annotated). labelled place (steps_seated (seat_of w) (steps_of x (behind id (tree_of w)) [] ids))) (sym same)
    ∙ ap (λ (z : Steps). labelled place z) (steps_lie w w.of.now id [] ids)

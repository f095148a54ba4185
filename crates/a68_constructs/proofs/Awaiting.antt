-- Choices by a number or by a mode, link by link, and their ends.
use Rattle.std.proofs.Common.{◌≡◌, ◌⊎◌, inl, inr, ◌<◌, ℕ, ◌+◌, Bool, List, [], ◌∷◌, ◌++◌, length, drop, get_or, true, refl, sym, ◌∙◌, ap, subst, arith, append_assoc, length-append, None, Some, slice_get}
use Rattle.std.proofs.lemmas.Option.{same_Some}
use Rattle.std.specs.Option.{option_map}
use Rattle.std.specs.Prelude.{IfSome, false, if◌then◌else◌}
use Rattle.std.specs.declared.option.Option.{Option}
use Rattle.a68_annot.specs.declared.annotated.Annotated.{Annotated}
use Rattle.a68_annot.specs.declared.note.Note.{Note}
use Rattle.a68_base.specs.declared.refusal.Stop.{Stop}
use Rattle.a68_base.specs.declared.refusal.Stop.TheVariants.{NoMemory}
use Rattle.a68_code.specs.declared.code.Instr.{Instr}
use Rattle.a68_code.specs.declared.does.Does.TheVariants as does
use Rattle.a68_constructs.proofs.Numbering.{aim_arms, case_framed, case_names, count_places, last_behind, places_arms, put_places}
use Rattle.a68_constructs.specs.Endings.{AllEnd, Ends, GoesOn, IsAwaited, IsBareChoice, IsChoice, IsFront, by_mode, case_front, choice_tree}
use Rattle.a68_constructs.specs.Loops.{asked}
use Rattle.a68_constructs.specs.declared.endings.Ending.{Ending}
use Rattle.a68_elab.proofs.Nodes.{behind_is}
use Rattle.a68_elab.specs.Made.{coerced, framed, is_out, kind_at, made, only_of, out_of, seen, trees_at}
use Rattle.a68_elab.specs.Programs.{behind, defined_bound, tree_in}
use Rattle.a68_elab.specs.Runs.{runs}
use Rattle.a68_elab.specs.Trees.{Tree, Trees, cases, count, while_in}
use Rattle.a68_elab.specs.declared.sight.Sight.{Sight}
use Rattle.a68_emit.proofs.Chaining.{kept_writes, never_none}
use Rattle.a68_emit.proofs.Linking.{tree_run}
use Rattle.a68_emit.proofs.Sizes.{size_arms, size_stretch}
use Rattle.a68_emit.proofs.Writing.{and_behind, had_not, is_written, patched, places-append}
use Rattle.a68_emit.specs.Chains.{TreeIsWritten, shuts}
use Rattle.a68_emit.specs.Listing.{arm_places, arm_stretches, instr, size, sizes, stretch}
use Rattle.a68_emit.specs.Numbers.{arm_jumps, case_list, put_all}
use Rattle.a68_emit.specs.Stretches.{with_last}
use Rattle.a68_emit.specs.Writing.{aim_all, places, ran_out, Writes}
use Rattle.a68_modes.specs.declared.coercion.Coercion.{Coercion}
use Rattle.a68_tree.specs.Trees.{AllBetween}
use Rattle.a68_tree.specs.declared.kind.NodeKind.{NodeKind}
use Rattle.a68_tree.specs.declared.kind.NodeKind.TheVariants as kind
use Rattle.a68_tree.specs.declared.node.Node.{Node}

-- ---- several ends

-- one choice more is ended
all_end_more : (Wanted : Option Stop → List Instr → Type 0) (es : List Ending) (e : Ending) (s : Option Stop) (l : List Instr)
    → ((s' : Option Stop) (l' : List Instr) → Ends e s l s' l' → AllEnd es Wanted s' l') → AllEnd (es ++ e ∷ []) Wanted s l
all_end_more Wanted [] e s l h = h
all_end_more Wanted (x ∷ es) e s l h = all_end_more (λ s l. (s' : Option Stop) (l' : List Instr) → Ends x s l s' l' → Wanted s' l') es e s l h

pub all_end_last : (Wanted : Option Stop → List Instr → Type 0) (es : List Ending) (e : Ending) (s s' : Option Stop) (l l' : List Instr) → AllEnd (es ++ e ∷ []) Wanted s l
    → Ends e s l s' l' → AllEnd es Wanted s' l'
all_end_last Wanted [] e s s' l l' h c = h s' l' c
all_end_last Wanted (x ∷ es) e s s' l l' h c = all_end_last (λ s l. (s' : Option Stop) (l' : List Instr) → Ends x s l s' l' → Wanted s' l') es e s s' l l' h c

-- ---- a writer that finds no memory for one

ran_writes : (s2 s3 s : Option Stop) (l2 l a : List Instr) → s3 ≡ ran_out s2 → Writes s3 s l2 l a → Writes s2 s l2 l a
ran_writes None s3 s l2 l a e w =
    let stopped : Writes (Some NoMemory) s l2 l a = subst (λ (z : Option Stop). Writes z s l2 l a) e w in
    subst (λ (z : Option Stop). Writes None z l2 l a) (sym stopped) tt
ran_writes (Some x) s3 s l2 l a e w = subst (λ (z : Option Stop). Writes z s l2 l a) e w

stays : (s s' : Option Stop) (l l' m m' a b : List Instr) → (s ≡ None → ⊥) → Writes s s' l l' a → Writes s' s' m m' b
stays None s' l l' m m' a b some w = absurd (some refl)
stays (Some x) s' l l' m m' a b some w = subst (λ (z : Option Stop). Writes z z m m' b) (sym w) refl

-- one link more is written
pub await_more : (Wanted : Option Stop → List Instr → Type 0) (es es' : List Ending) (e : Ending) (whole tree : Tree) (s1 s2 s3 : Option Stop) (l1 l2 : List Instr)
    → IsAwaited Wanted es whole s1 l1 → IsFront whole tree e s1 l1 s2 l2 → ((es' ≡ es ++ e ∷ []) × (s3 ≡ s2)) ⊎ ((es' ≡ es) × (s3 ≡ ran_out s2)) → IsAwaited Wanted es' tree s3 l2
await_more Wanted es es' e whole tree s1 s2 s3 l1 l2 before front (inl k) =
    λ s l v.
    let part = subst (λ (z : Option Stop). Writes z s l2 l (stretch tree (length l2))) k.1 v in
    subst (λ (z : List Ending). AllEnd z Wanted s l) (sym k.0) (all_end_more Wanted es e s l (λ s' l' c. before s' l' (front.all s l part s' l' c)))
await_more Wanted es es' e whole tree s1 s2 s3 l1 l2 before front (inr k) =
    λ s l v.
    let part = ran_writes s2 s3 s l2 l (stretch tree (length l2)) k.1 v in
    let end : Ends e s l s l = stays s3 s l2 l (aim_all l e.jumps.items (length l)) l (stretch tree (length l2)) (shuts e.slots e.yields e.place) (never_none s2 s3 k.1) v in
    subst (λ (z : List Ending). AllEnd z Wanted s l) (sym k.0) (before s l (front.all s l part s l end))

-- ---- one choice

-- Case with its places, and the parts
pub front_writes : (s0 s1 s2 s3 : Option Stop) (l0 l1 l2 l3 : List Instr) (place case : ℕ) (zs starts : List ℕ) (ts : Trees)
    → case ≡ length l0 → length zs ≡ count ts + 1 → Writes s0 s1 l0 l1 (instr place (does.Case zs) ∷ []) → Writes s1 s2 l1 l2 (arm_stretches place 0 ts (length l1))
    → (s2 ≡ None → starts ≡ arm_places ts (length l1) ++ length l2 ∷ []) → ((l3 ≡ put_all l2 case 0 starts) × (s3 ≡ s2)) ⊎ (s3 ≡ ran_out s2)
    → Writes s0 s3 l0 l3 (case_front place ts (length l0))
front_writes s0 s1 s2 s3 l0 l1 l2 l3 place case zs starts ts ec nz w1 w2 es e3 =
    let m = length l0 + 1 in
    let x = m + sizes ts + count ts in
    let cz = instr place (does.Case zs) in
    let arms = arm_stretches place 0 ts m in
    let long_arms : length arms ≡ sizes ts + count ts = size_arms place 0 ts m in
    let w02 : Writes s0 s2 l0 l2 (cz ∷ arms) = and_behind s0 s1 s2 l0 l1 l2 (cz ∷ []) (λ n. arm_stretches place 0 ts n) w1 w2 in
    let none1 : s2 ≡ None → s1 ≡ None = λ n. had_not s1 s2 l1 l2 _ w2 n in
    let first : s2 ≡ None → length l1 ≡ m = λ n. ap (λ (l : List Instr). length l) (is_written s0 s1 l0 l1 (cz ∷ []) w1 (none1 n)) ∙ length-append l0 (cz ∷ []) in
    let same : length l0 + length (cz ∷ arms) ≡ x = omega (arith, long_arms) in
    let second : s2 ≡ None → length l2 ≡ x = λ n. ap (λ (l : List Instr). length l) (is_written s0 s2 l0 l2 (cz ∷ arms) w02 n) ∙ length-append l0 (cz ∷ arms) ∙ same in
    let starts_are : s2 ≡ None → starts ≡ with_last (arm_places ts m) x =
    λ n. es n ∙ ap (λ (k : ℕ). arm_places ts k ++ length l2 ∷ []) (first n) ∙ ap (λ (k : ℕ). arm_places ts m ++ k ∷ []) (second n) ∙ last_behind (arm_places ts m) x in
    done e3 w02 starts_are
  where
    put : (l : List ℕ) → length zs ≡ length l → put_all (l0 ++ (instr place (does.Case zs) ∷ arm_stretches place 0 ts (length l0 + 1))) (length l0) 0 l
        ≡ l0 ++ (instr place (does.Case l) ∷ arm_stretches place 0 ts (length l0 + 1))
    put l many = put_places (λ l. does.Case l) case_names l0 (arm_stretches place 0 ts (length l0 + 1)) place (length l0) l [] zs refl many

    many_of : (ps : List ℕ) (x n : ℕ) → length zs ≡ n + 1 → length ps ≡ n → length zs ≡ length (with_last ps x)
    many_of ps x n e f = omega (arith, e, f, ap (λ (l : List ℕ). length l) (last_behind ps x), length-append ps (x ∷ []))

    done : ((l3 ≡ put_all l2 case 0 starts) × (s3 ≡ s2)) ⊎ (s3 ≡ ran_out s2) → Writes s0 s2 l0 l2 (instr place (does.Case zs) ∷ arm_stretches place 0 ts (length l0 + 1))
        → (s2 ≡ None → starts ≡ with_last (arm_places ts (length l0 + 1)) (length l0 + 1 + sizes ts + count ts)) → Writes s0 s3 l0 l3 (case_front place ts (length l0))
    done (inl k) v st =
        subst (λ (z : Option Stop). Writes s0 z l0 l3 (case_front place ts (length l0))) (sym k.1)
        (patched s0 s2 l0 l2 l3 _ _ v refl
        (λ n is. k.0 ∙ ap (λ (l : List Instr). put_all l case 0 starts) is ∙ ap (λ (c : ℕ). put_all (l0 ++ (instr place (does.Case zs) ∷ arm_stretches place 0 ts (length l0 + 1))) c 0 starts) ec
        ∙ ap (λ (ps : List ℕ). put_all (l0 ++ (instr place (does.Case zs) ∷ arm_stretches place 0 ts (length l0 + 1))) (length l0) 0 ps) (st n)
        ∙ put (with_last (arm_places ts (length l0 + 1)) (length l0 + 1 + sizes ts + count ts))
        (many_of (arm_places ts (length l0 + 1)) (length l0 + 1 + sizes ts + count ts) (count ts) nz (count_places ts (length l0 + 1)))))
    done (inr k) v st =
        patched s0 s3 l0 l2 l3 _ _ (kept_writes s0 s2 s3 l0 l2 _ (inr k) v) refl (λ n is. absurd (never_none s2 s3 k n))

-- the other part behind it, and the jumps to the end
aimed_writes : (s0 s1 s2 : Option Stop) (l0 l1 l2 : List Instr) (place : ℕ) (jumps : List ℕ) (ts : Trees) (o : Tree) → Writes s0 s1 l0 l1 (case_front place ts (length l0))
    → (s1 ≡ None → jumps ≡ arm_jumps ts (length l0 + 1)) → Writes s1 s2 l1 l2 (stretch o (length l1)) → Writes s0 s2 l0 (aim_all l2 jumps (length l2)) (case_list place ts o (length l0))
aimed_writes s0 s1 s2 l0 l1 l2 place jumps ts o w1 ej w2 =
    let m = length l0 + 1 in
    let x = m + sizes ts + count ts in
    let c = instr place (does.Case (with_last (arm_places ts m) x)) in
    let arms = arm_stretches place 0 ts m in
    let rest = stretch o x in
    let front = l0 ++ (c ∷ []) in
    let long_arms : length arms ≡ sizes ts + count ts = size_arms place 0 ts m in
    let same : length l0 + length (c ∷ arms) ≡ x = omega (arith, long_arms) in
    let w02 : Writes s0 s2 l0 l2 ((c ∷ arms) ++ rest) =
    subst (λ (n : ℕ). Writes s0 s2 l0 l2 ((c ∷ arms) ++ stretch o n)) same (and_behind s0 s1 s2 l0 l1 l2 (c ∷ arms) (λ n. stretch o n) w1 w2) in
    let none1 : s2 ≡ None → s1 ≡ None = λ n. had_not s1 s2 l1 l2 _ w2 n in
    let so = size_stretch o x in
    let end : s2 ≡ None → length l2 ≡ x + size o =
    λ n. omega (arith, ap (λ (l : List Instr). length l) (is_written s0 s2 l0 l2 ((c ∷ arms) ++ rest) w02 n), length-append l0 ((c ∷ arms) ++ rest), length-append (c ∷ arms) rest, so, long_arms) in
    let apart : (l : List Instr) → l0 ++ (c ∷ l) ≡ front ++ l = λ l. sym (append_assoc l0 (c ∷ []) l) in
    let long : m ≡ length front = sym (length-append l0 (c ∷ [])) in
    let same_places : places ((c ∷ arms) ++ rest) ≡ places (case_list place ts o (length l0)) =
    ap (λ (l : List ℕ). place ∷ l) (places-append arms rest ∙ ap (λ (l : List ℕ). l ++ places rest) (places_arms place 0 (x + size o) ts m) ∙ sym (places-append (arm_stretches place (x + size o) ts m) rest)) in
    patched s0 s2 l0 l2 (aim_all l2 jumps (length l2)) ((c ∷ arms) ++ rest) (case_list place ts o (length l0)) w02 same_places
    (λ n is.
    ap (λ (l : List Instr). aim_all l jumps (length l2)) (is ∙ apart (arms ++ rest)) ∙ ap (λ (js : List ℕ). aim_all (front ++ (arms ++ rest)) js (length l2)) (ej (none1 n))
    ∙ ap (λ (k : ℕ). aim_all (front ++ (arms ++ rest)) (arm_jumps ts m) k) (end n) ∙ aim_arms place (x + size o) ts front rest m long ∙ sym (apart (arm_stretches place (x + size o) ts m ++ rest)))

-- once the other part is written and the end has come, the whole choice is written
pub front_is : (s0 s1 s2 : Option Stop) (l0 l1 l2 : List Instr) (e : Ending) (begin : ℕ) (q : Tree) (ts : Trees) (o : Tree) → Writes s0 s1 l0 l1 (asked (while_in begin e.slots q) (length l0))
    → Writes s1 s2 l1 l2 (case_front e.place ts (length l1)) → (s2 ≡ None → e.jumps.items ≡ arm_jumps ts (length l1 + 1))
    → IsFront (framed begin e.place e.slots e.yields (cases e.place q ts o)) o e s0 l0 s2 l2
front_is s0 s1 s2 l0 l1 l2 e begin q ts o w1 w2 ej =
    record {
      all = λ s l v s' l' c.
          case_framed s0 s1 s s' l0 l1 (aim_all l e.jumps.items (length l)) l' begin e.slots e.place e.yields q ts o w1 (aimed_writes s1 s2 s l1 l2 l e.place e.jumps.items ts o w2 ej v) c;
    }

-- ---- the next choice

-- what stands for an other part without coercions is its unit
pub out_is : (a : Annotated) (s : Sight) (id unit : ℕ) (node : Node) (note : Note) → slice_get a.tree.nodes id ≡ Some node → slice_get a.notes id ≡ Some note → runs a id ≡ true
    → node.kind ≡ kind.Out → note.path ≡ [] → node.parts ≡ unit ∷ [] → id < unit → tree_in a s id ≡ tree_in a s unit
out_is a s id unit node note e f run is_out bare parts lt =
    let g = behind id (tree_in a s) in
    let b = defined_bound a s in
    tree_run a s id node note e f run
    ∙ ap (λ (path : List Coercion). coerced a.modes node.span.from note.goal note.mode path (made a b g node (seen a s note) node.kind)) bare
    ∙ ap (λ (k : NodeKind). made a b g node (seen a s note) k) is_out ∙ ap (λ (ids : List ℕ). only_of (trees_at g ids)) parts ∙ behind_is id unit (tree_in a s) lt

-- what stands for a choice without coercions
pub choice_is : (a : Annotated) (s : Sight) (id : ℕ) (node : Node) (note : Note) → IsBareChoice a id → slice_get a.tree.nodes id ≡ Some node → slice_get a.notes id ≡ Some note
    → tree_in a s id ≡ choice_tree a (tree_in a s) (by_mode node.kind) id node.span.from note.goal node.parts
choice_is a s id node note is e f =
    let same : is.node ≡ node = same_Some is.node node (sym is.is ∙ e) in
    let same_note : is.note ≡ note = same_Some is.note note (sym is.noted ∙ f) in
    let bare : note.path ≡ [] = ap (λ (n : Note). n.path) (sym same_note) ∙ is.bare in
    let is_choice : IsChoice node.kind = subst (λ (n : Node). IsChoice n.kind) same is.choice in
    let g = behind id (tree_in a s) in
    let b = defined_bound a s in
    tree_run a s id node note e f is.run
    ∙ ap (λ (path : List Coercion). coerced a.modes node.span.from note.goal note.mode path (made a b g node (seen a s note) node.kind)) bare ∙ of_kind is_choice
  where
    of_kind : IsChoice node.kind → made a (defined_bound a s) (behind id (tree_in a s)) node (seen a s note) node.kind ≡ choice_tree a (tree_in a s) (by_mode node.kind) id node.span.from note.goal node.parts
    of_kind (inl k) =
        ap (λ (k : NodeKind). made a (defined_bound a s) (behind id (tree_in a s)) node (seen a s note) k) k
        ∙ ap (λ (k : NodeKind). choice_tree a (tree_in a s) (by_mode k) id node.span.from note.goal node.parts) (sym k)
    of_kind (inr k) =
        ap (λ (k : NodeKind). made a (defined_bound a s) (behind id (tree_in a s)) node (seen a s note) k) k
        ∙ ap (λ (k : NodeKind). choice_tree a (tree_in a s) (by_mode k) id node.span.from note.goal node.parts) (sym k)

pub choice_some : (a : Annotated) (id : ℕ) (node : Node) → IsBareChoice a id → slice_get a.tree.nodes id ≡ Some node → 0 < length node.parts
choice_some a id node is e = subst (λ (n : Node). 0 < length n.parts) (same_Some is.node node (sym is.is ∙ e)) is.some

-- a chain goes on
pub goes_on : (es es' : List Ending) (e : Ending) (whole tree : Tree) (s1 s2 s3 : Option Stop) (l1 l2 l3 : List Instr) → IsFront whole tree e s1 l1 s2 l2
    → ((es' ≡ es ++ e ∷ []) × (s3 ≡ s2)) ⊎ ((es' ≡ es) × (s3 ≡ ran_out s2)) → l3 ≡ l2 → GoesOn whole tree es s1 l1 es' s3 l3
goes_on es es' e whole tree s1 s2 s3 l1 l2 l3 front kept same =
    record {
      on = λ t s0 l0 before.
          subst (λ (l : List Instr). IsAwaited (TreeIsWritten t s0 l0) es' tree s3 l) (sym same)
          (await_more (TreeIsWritten t s0 l0) es es' e whole tree s1 s2 s3 l1 l2 before front kept);
    }

pub goes_same : (tree : Tree) (es : List Ending) (s : Option Stop) (l : List Instr) → GoesOn tree tree es s l es s l
goes_same tree es s l = record { on = λ t s0 l0 before. before }

pub goes_further : (tree0 tree1 tree1' tree2 : Tree) (es0 es1 es2 : List Ending) (s0 s1 s2 : Option Stop) (l0 l1 l2 : List Instr) → tree1 ≡ tree1' → GoesOn tree0 tree1 es0 s0 l0 es1 s1 l1
    → GoesOn tree1' tree2 es1 s1 l1 es2 s2 l2 → GoesOn tree0 tree2 es0 s0 l0 es2 s2 l2
goes_further tree0 tree1 tree1' tree2 es0 es1 es2 s0 s1 s2 l0 l1 l2 same f g =
    record {
      on = λ t s l before.
          g.on t s l (subst (λ (u : Tree). IsAwaited (TreeIsWritten t s l) es1 u s1 l1) same (f.on t s l before));
    }

pub goes_as : (tree tree' other : Tree) (es es' : List Ending) (s s' : Option Stop) (l l' : List Instr) → tree ≡ tree' → GoesOn tree other es s l es' s' l' → GoesOn tree' other es s l es' s' l'
goes_as tree tree' other es es' s s' l l' e f = subst (λ t. GoesOn t other es s l es' s' l') e f

pub goes_to : (tree other other' : Tree) (es es' : List Ending) (s s' : Option Stop) (l l' : List Instr) → other ≡ other' → GoesOn tree other es s l es' s' l' → GoesOn tree other' es s l es' s' l'
goes_to tree other other' es es' s s' l l' e f = subst (λ t. GoesOn tree t es s l es' s' l') e f

-- its tree, told otherwise
pub front_as : (whole whole' tree tree' : Tree) (e : Ending) (s0 s2 : Option Stop) (l0 l2 : List Instr) → whole ≡ whole' → tree ≡ tree' → IsFront whole tree e s0 l0 s2 l2 → IsFront whole' tree' e s0 l0 s2 l2
front_as whole whole' tree tree' e s0 s2 l0 l2 same other f = subst (λ t. IsFront whole' t e s0 l0 s2 l2) other (subst (λ w. IsFront w tree e s0 l0 s2 l2) same f)

-- no stop behind what a writer keeps
pub put_none : (s2 s3 : Option Stop) (l2 l3 m : List Instr) → ((l3 ≡ m) × (s3 ≡ s2)) ⊎ (s3 ≡ ran_out s2) → s3 ≡ None → s2 ≡ None
put_none s2 s3 l2 l3 m (inl k) none = sym k.1 ∙ none
put_none s2 s3 l2 l3 m (inr k) none = absurd (never_none s2 s3 k none)

-- ---- parts

pub between-rest : (a b : ℕ) (ids : List ℕ) → AllBetween a b ids → AllBetween a b (drop 1 ids)
between-rest a b [] all = tt
between-rest a b (x ∷ ids) all = all.2

within-if : (b : Bool) (id n x : ℕ) → (id < x) × (x < n) → IfSome (if b then Some x else None) (λ p. (id < p) × (p < n))
within-if true id n x is = is
within-if false id n x is = tt

pub out_within : (a : Annotated) (id n : ℕ) (ids : List ℕ) → AllBetween id n ids → IfSome (out_of a ids) (λ p. (id < p) × (p < n))
out_within a id n [] all = tt
out_within a id n (x ∷ []) all = within-if (is_out (kind_at a x)) id n x (all.0, all.1)
out_within a id n (x ∷ y ∷ ids) all = out_within a id n (y ∷ ids) all.2

pub one_only : (ids : List ℕ) → length ids ≡ 1 → ids ≡ get_or ids 0 0 ∷ []
one_only [] e = absurd (omega arith)
one_only (x ∷ []) e = refl
one_only (x ∷ y ∷ ids) e = absurd (omega arith)

-- the parts of a node that is there
pub node_parts : (a : Annotated) (id : ℕ) (node : Node) (ids : List ℕ) → slice_get a.tree.nodes id ≡ Some node → option_map (λ (n : Node). n.parts) (slice_get a.tree.nodes id) ≡ Some ids → node.parts ≡ ids
node_parts a id node ids is parts = same_Some node.parts ids (sym (ap (option_map (λ (n : Node). n.parts)) is) ∙ parts)

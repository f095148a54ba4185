-- Shaping from the first node to the last.
use Rattle.std.proofs.Common.{◌≡◌, ℕ, ◌+◌, ◌<◌, ◌≤◌, ◌⊎◌, inl, inr, ⊎_elim, true, false, List, length, refl, sym, ◌∙◌, ap, subst, arith, Some, None, slice_get}
use Rattle.std.specs.declared.option.Option.{Option}
use Rattle.std.proofs.lemmas.Bool.{false≢true}
use Rattle.std.proofs.lemmas.Option.{slice_get_within}
use Rattle.a68_base.specs.declared.refusal.Rule.TheVariants.{O3}
use Rattle.a68_op_ident.specs.Formulas.{EachOf, ReadsParts, HasItsPriority, IsRanked, Placed, is_formula, is_sign, signs}
use Rattle.a68_op_ident.specs.Shapes.{IsShaped, IsLeft, IsOperatorNode, Shaped, ShapedTo}
use Rattle.a68_op_ident.specs.Lacking.{LacksPriority, IsUnshaped}
use Rattle.a68_op_ident.specs.Inner.{Going, Same, IsLatePlace, IsLateToken, IsLeastNumber, IsOrdered, lesser, late_of}
use Rattle.a68_op_ident.specs.declared.formula.Operand.{Operand}
use Rattle.a68_op_ident.specs.declared.formula.FormulaPart.{FormulaPart}
use Rattle.a68_op_ident.specs.declared.formula.FormulaPart.TheVariants as token
use Rattle.a68_op_ident.proofs.Lists.{some_same, less_or_not, eq_or_more, all_at}
use Rattle.a68_op_ident.proofs.Placing.{keeps}
use Rattle.a68_op_ident.proofs.Parts.{reads_same, sign_nodes}
use Rattle.a68_op_ident.proofs.Shaping.{sound_placed}
use Rattle.a68_op_ident.proofs.Late.{lacks_always, stands_at, late_is}
use Rattle.a68_op_ident.proofs.Least.{joined}
use Rattle.a68_ranges.specs.Nodes.{place_at}
use Rattle.a68_tree.specs.Trees.{Built, IsSound}
use Rattle.a68_tree.specs.declared.node.Node.{Node}
use Rattle.a68_tree.specs.declared.kind.NodeKind.{NodeKind}
use Rattle.a68_tree.specs.declared.kind.NodeKind.TheVariants as kind

pub start : (flat : Built) → IsSound flat.nodes (length flat.spellings) → Going flat flat.nodes 0
start flat sound = record {
  long = refl;
  shaped = λ none. record { long = refl; kept = λ id n p e. absurd (omega arith); formulas = λ id n p e f. absurd (omega arith) };
  rest = λ k p. refl;
  sound = sound;
}

pub ordered : (flat : Built) (nodes : List Node) (id : ℕ) → Going flat nodes id → IsOrdered nodes
ordered flat nodes id going = record { few = going.sound.few; behind = going.sound.behind }

wider : {flat : Built} {nodes : List Node} {a b id : ℕ} {parts : List ℕ} → a ≤ b → IsShaped flat nodes a id parts → IsShaped flat nodes b id parts
wider p s = let w = s.within in record { tokens = s.tokens; reads = s.reads; priorities = s.priorities; ranked = s.ranked; within = omega arith; top = s.top; placed = s.placed }

wider_or_left : {flat : Built} {nodes : List Node} {a b id : ℕ} {n : Node} → a ≤ b → IsShaped flat nodes a id n.parts ⊎ IsLeft flat nodes id n → IsShaped flat nodes b id n.parts ⊎ IsLeft flat nodes id n
wider_or_left p (inl s) = inl (wider p s)
wider_or_left p (inr s) = inr s

kind_no_sign : (k : NodeKind) → is_formula k ≡ true → is_sign k ≡ false
kind_no_sign kind.Formula e = refl
kind_no_sign kind.Sign e = absurd (false≢true e)
kind_no_sign _ e = refl

-- what stands before a formula that is shaped stays
grown : {flat : Built} {nodes new : List Node} {id next bound k : ℕ} {n : Node} → Same nodes new id next → k < id → id ≤ bound
    → IsShaped flat nodes id k n.parts ⊎ IsLeft flat nodes k n → IsShaped flat new bound k n.parts ⊎ IsLeft flat new k n
grown same less room (inl old) =
    let within = old.within in
    inl (record { tokens = old.tokens; reads = old.reads; priorities = old.priorities; ranked = old.ranked; within = omega arith; top = old.top; placed = keeps old.placed (λ x u v. same.before x (omega arith)) })
grown {k = k} same less room (inr old) = inr (record { unread = old.unread; same = same.before k less ∙ old.same })

-- a node that stays is kept, or it is one of a formula
kept_on : {flat : Built} {k : ℕ} {n : Node} {a b : Option Node} → b ≡ a → IsOperatorNode flat k ⊎ (a ≡ Some n) → IsOperatorNode flat k ⊎ (b ≡ Some n)
kept_on same (inl one) = inl one
kept_on same (inr old) = inr (same ∙ old)

module _ (flat : Built) (nodes : List Node) (id : ℕ) (n : Node) (going : Going flat nodes id) (at : slice_get nodes id ≡ Some n) where
  -- the node in the flat tree
  flat_at : slice_get flat.nodes id ≡ Some n
  flat_at = sym (going.rest id (omega arith)) ∙ at

  same_node : (m : Node) (k : ℕ) → k ≡ id → slice_get flat.nodes k ≡ Some m → m ≡ n
  same_node m k e there = some_same (sym there ∙ ap (slice_get flat.nodes) e ∙ flat_at)

  -- a formula reads alike in both trees
  to_flat : (ts : List FormulaPart) → ReadsParts nodes (id + 1) false n.parts ts → ReadsParts flat.nodes (id + 1) false n.parts ts
  to_flat ts reads = reads_same nodes flat.nodes id (length nodes) (id + 1) false n.parts ts reads (going.sound.behind id n at) (λ k p. sym (going.rest k (omega arith)))

  from_flat : (ts : List FormulaPart) → ReadsParts flat.nodes (id + 1) false n.parts ts → ReadsParts nodes (id + 1) false n.parts ts
  from_flat ts reads = reads_same flat.nodes nodes id (length nodes) (id + 1) false n.parts ts reads (going.sound.behind id n at) (λ k p. going.rest k (omega arith))

  -- one node more, which stays as it is
  one_more : (((sign : ℕ) → LacksPriority flat sign → ⊥) → is_formula n.kind ≡ true → IsLeft flat nodes id n) → Going flat nodes (id + 1)
  one_more left = record {
    long = going.long;
    shaped = λ none. record {
      long = going.long;
      kept = λ k m p e. elim (less_or_not k id) [
        | inl q ↦ (going.shaped none).kept k m q e
        | inr q ↦ inr (going.rest k q ∙ e)
      ];
      formulas = λ k m p e f. elim (less_or_not k id) [
        | inl q ↦ wider_or_left (omega arith) ((going.shaped none).formulas k m q e f)
        | inr q ↦ (let same : k ≡ id = omega arith in
            let eq : m ≡ n = same_node m k same e in
            let found = left none (sym (ap (λ (x : Node). is_formula x.kind) eq) ∙ f) in
            inr (subst (λ (x : Node). IsLeft flat nodes k x) (sym eq) (subst (λ (j : ℕ). IsLeft flat nodes j n) (sym same) found)))
      ];
    };
    rest = λ k p. going.rest k (omega arith);
    sound = going.sound;
  }

  -- a sign of the formula here that lacks a priority
  lacks_here : (sign : ℕ) (l : LacksPriority flat sign) → l.formula ≡ id → (l.node ≡ n) × ReadsParts flat.nodes (id + 1) false n.parts l.tokens
  lacks_here sign l same =
      let eq = same_node l.node l.formula same l.there in
      (eq, subst (λ (j : ℕ). ReadsParts flat.nodes (j + 1) false n.parts l.tokens) same (subst (λ (x : Node). ReadsParts flat.nodes (l.formula + 1) false x.parts l.tokens) eq l.reads))

  -- ---- no formula

  pub pass : is_formula n.kind ≡ false → Going flat nodes (id + 1)
  pass other = one_more (λ none f. absurd (false≢true (sym other ∙ f)))

  pub pass_late : is_formula n.kind ≡ false → IsLeastNumber (IsLatePlace flat id (id + 1)) None
  pass_late other = λ place late.
      let begin = late.begin in
      let end = late.end in
      let eq = (lacks_here late.sign late.lacks (omega arith)).0 in
      absurd (false≢true (sym other ∙ sym (ap (λ (x : Node). is_formula x.kind) eq) ∙ late.lacks.formed))

  -- ---- a formula that cannot be read

  pub left : ((ts : List FormulaPart) → ReadsParts nodes (id + 1) false n.parts ts → ⊥) → Going flat nodes (id + 1)
  left none = one_more (λ never f. record {
    unread = λ m ts there reads. none ts (from_flat ts (subst (λ (x : Node). ReadsParts flat.nodes (id + 1) false x.parts ts) (same_node m id refl there) reads));
    same = at;
  })

  pub left_late : ((ts : List FormulaPart) → ReadsParts nodes (id + 1) false n.parts ts → ⊥) → IsLeastNumber (IsLatePlace flat id (id + 1)) None
  left_late none = λ place late.
      let begin = late.begin in
      let end = late.end in
      absurd (none late.lacks.tokens (from_flat late.lacks.tokens (lacks_here late.sign late.lacks (omega arith)).1))

  module _ (ts : List FormulaPart) (formed : is_formula n.kind ≡ true) (reads : ReadsParts nodes (id + 1) false n.parts ts) (priorities : EachOf (HasItsPriority flat) ts) where
    abbrev lacks_of : (k : ℕ) (s : _) → slice_get ts k ≡ Some (token.Dyad s None) → LacksPriority flat s.id
    lacks_of k s there = record {
      formula = id;
      node = n;
      there = flat_at;
      formed = formed;
      tokens = ts;
      reads = to_flat ts reads;
      priorities = priorities;
      place = k;
      dyad = s;
      lacks = there;
      is = refl;
    }

    -- a sign of this formula lacks its priority among these tokens
    among : (sign : ℕ) (l : LacksPriority flat sign) → l.formula ≡ id → slice_get ts l.place ≡ Some (token.Dyad l.dyad None)
    among sign l same = lacks_always flat (id + 1) false n.parts l.tokens ts l.place l.dyad (lacks_here sign l same).1 (to_flat ts reads) l.priorities priorities l.lacks

    late_place : (k : ℕ) (s : _) (q : _) → slice_get ts k ≡ Some (token.Dyad s q) → place_at flat s.id ≡ s.from
    late_place k s q there = (stands_at flat (id + 1) false n.parts ts k s q (to_flat ts reads) there).place

    -- ---- a sign lacks a priority

    pub lacking : (place : ℕ) → IsLeastNumber (IsLateToken ts (length ts)) (Some place) → Going flat nodes (id + 1)
    lacking place least = one_more (λ none f.
        let l = late_is (slice_get ts least.0.0) place least.0.2 in
        absurd (none l.dyad.id (lacks_of least.0.0 l.dyad l.is)))

    pub lacking_late : (place : ℕ) → IsLeastNumber (IsLateToken ts (length ts)) (Some place) → IsLeastNumber (IsLatePlace flat id (id + 1)) (Some place)
    lacking_late place least =
        let l = late_is (slice_get ts least.0.0) place least.0.2 in (
          record {
            sign = l.dyad.id;
            lacks = lacks_of least.0.0 l.dyad l.is;
            begin = omega arith;
            end = omega arith;
            here = sym l.here ∙ sym (late_place least.0.0 l.dyad None l.is);
          },
          λ other late.
              let begin = late.begin in
              let end = late.end in
              let there = among late.sign late.lacks (omega arith) in
              let within = slice_get_within ts late.lacks.place (token.Dyad late.lacks.dyad None) there in
              let le = least.1 late.lacks.dyad.from (late.lacks.place, within, ap (λ (o : Option FormulaPart). late_in o) there) in
              let where_is : other ≡ late.lacks.dyad.from = late.here ∙ ap (place_at flat) (sym late.lacks.is) ∙ late_place late.lacks.place late.lacks.dyad None there in
              omega arith,
        )
      where
        late_in : Option FormulaPart → Option ℕ
        late_in None = None
        late_in (Some t) = late_of t

    -- ---- all have priorities

    module _ (new : List Node) (top : Operand) (ranked : EachOf IsRanked ts) (placed : Placed new ts id (id + signs ts) top) (same : Same nodes new id (id + signs ts)) where
      sign_there : (k : ℕ) → id < k → k ≤ id + signs ts → (m : Node) → slice_get flat.nodes k ≡ Some m → is_formula m.kind ≡ true → ⊥
      sign_there k low high m there f =
          let s = sign_nodes nodes (id + 1) false n.parts ts reads k (omega arith) (omega arith) in
          let eq : s.node ≡ m = some_same (sym s.there ∙ going.rest k (omega arith) ∙ there) in
          false≢true (sym (kind_no_sign m.kind f) ∙ sym (ap (λ (x : Node). is_sign x.kind) eq) ∙ s.kind_is)

      pub shaped_formula : Going flat new (id + signs ts + 1)
      shaped_formula =
          let within = slice_get_within nodes id n at in
          record {
            long = same.long ∙ going.long;
            shaped = λ none. record {
              long = same.long ∙ going.long;
              kept = λ k m p e. elim (less_or_not k id) [
                | inl q ↦ kept_on (same.before k q) ((going.shaped none).kept k m q e)
                | inr q ↦ elim (less_or_not k (id + signs ts)) [
                  | inl u ↦ inl (record { formula = id; node = n; there = flat_at; formed = formed; tokens = ts; reads = to_flat ts reads; from = q; below = u })
                  | inr u ↦ inr (same.behind k u ∙ going.rest k q ∙ e)
                ]
              ];
              formulas = λ k m p e f. elim (less_or_not k id) [
                | inl q ↦ grown same q (omega arith) ((going.shaped none).formulas k m q e f)
                | inr q ↦ elim (eq_or_more id k q) [
                  | inl z ↦ (let eq = same_node m k (sym z) e in
                      let found : IsShaped flat new (id + signs ts + 1) id n.parts = record { tokens = ts; reads = to_flat ts reads; priorities = priorities; ranked = ranked; within = omega arith; top = top; placed = placed } in
                      inl (subst (λ (x : Node). IsShaped flat new (id + signs ts + 1) k x.parts) (sym eq) (subst (λ (j : ℕ). IsShaped flat new (id + signs ts + 1) j n.parts) z found)))
                  | inr z ↦ absurd (sign_there k z (omega arith) m e f)
                ]
              ];
            };
            rest = λ k p. same.behind k (omega arith) ∙ going.rest k (omega arith);
            sound = sound_placed nodes new (length flat.spellings) id n ts top going.sound at within reads placed same;
          }

      pub shaped_late : IsLeastNumber (IsLatePlace flat id (id + signs ts + 1)) None
      shaped_late = λ place late.
          let begin = late.begin in
          let end = late.end in
          elim (eq_or_more id late.lacks.formula begin) [
            | inl z ↦ absurd (all_at IsRanked ts late.lacks.place (token.Dyad late.lacks.dyad None) ranked (among late.sign late.lacks (sym z)))
            | inr z ↦ absurd (sign_there late.lacks.formula z (omega arith) late.lacks.node late.lacks.there late.lacks.formed)
          ]

-- ---- the whole tree

pub none_yet : (flat : Built) → IsLeastNumber (IsLatePlace flat 0 0) None
none_yet flat = λ place late. let end = late.end in absurd (omega arith)

pub late_on : (flat : Built) (id next : ℕ) (late more : Option ℕ) → id < next → IsLeastNumber (IsLatePlace flat 0 id) late → IsLeastNumber (IsLatePlace flat id next) more → IsLeastNumber (IsLatePlace flat 0 next) (lesser late more)
late_on flat id next late more lt a b = joined (IsLatePlace flat 0 id) (IsLatePlace flat id next) (IsLatePlace flat 0 next) late more a b
    (λ p l. let end = l.end in record { sign = l.sign; lacks = l.lacks; begin = l.begin; end = omega arith; here = l.here })
    (λ p l. record { sign = l.sign; lacks = l.lacks; begin = omega arith; end = l.end; here = l.here })
    (λ p l. ⊎_elim
    (λ low. inl (record { sign = l.sign; lacks = l.lacks; begin = l.begin; end = low; here = l.here }))
    (λ high. inr (record { sign = l.sign; lacks = l.lacks; begin = high; end = l.end; here = l.here }))
    (less_or_not l.lacks.formula id))

late_any : (flat : Built) (sign : ℕ) → LacksPriority flat sign → IsLatePlace flat 0 (length flat.nodes) (place_at flat sign)
late_any flat sign l = record { sign = sign; lacks = l; begin = omega arith; end = slice_get_within flat.nodes l.formula l.node l.there; here = refl }

-- all formulas are shaped
pub finished : (flat : Built) (nodes : List Node) (spellings : List (List ℕ)) (starts : List ℕ) (id : ℕ) → Going flat nodes id → id ≡ length nodes → IsLeastNumber (IsLatePlace flat 0 id) None
    → spellings ≡ flat.spellings → starts ≡ flat.starts → Shaped flat (record { nodes = nodes; spellings = spellings; starts = starts })
finished flat nodes spellings starts id going all none same begin =
    let end : id ≡ length flat.nodes = all ∙ going.long in
    record {
      nodes = subst (ShapedTo flat nodes) end (going.shaped (λ sign l. none (place_at flat sign) (subst (λ (j : ℕ). IsLatePlace flat 0 j (place_at flat sign)) (sym end) (late_any flat sign l))));
      spellings = same;
      starts = begin;
      sound = rw same going.sound;
    }

-- a sign lacks a priority
pub unshaped : (flat : Built) (nodes : List Node) (id place : ℕ) → Going flat nodes id → id ≡ length nodes → IsLeastNumber (IsLatePlace flat 0 id) (Some place) → IsUnshaped flat (record { rule = O3; place = place })
unshaped flat nodes id place going all least =
    let end : id ≡ length flat.nodes = all ∙ going.long in
    let late = least.0 in
    let l = late.lacks in
    let s = stands_at flat (l.formula + 1) false l.node.parts l.tokens l.place l.dyad None l.reads l.lacks in
    let within = s.within in
    let is = l.is in
    record {
      id = late.sign;
      rule_is = refl;
      place_is = late.here;
      first = record {
        there = omega arith;
        broken = l;
        first = λ other lt broken.
            let le = least.1 (place_at flat other) (subst (λ (j : ℕ). IsLatePlace flat 0 j (place_at flat other)) (sym end) (late_any flat other broken)) in
            let here = late.here in
            omega arith;
      };
    }

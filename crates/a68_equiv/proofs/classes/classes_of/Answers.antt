use Rattle.std.proofs.Common.{◌≡◌, ◌*◌, ◌∙◌, refl, subst, ap, sym, ℕ, List, Bool, length, arith}
use Rattle.a68_modes.specs.declared.shape.Shape.{Shape}
use Rattle.a68_equiv.specs.Graph.{IsGraphOf}
use Rattle.a68_partition.specs.Rounds.{IsRefined, SoFar}
use Rattle.a68_equiv.specs.Classes.{AreExact}
use Rattle.a68_equiv.specs.ModeKeys.{IsModeKey, HasModeKey}
use Rattle.a68_equiv.specs.Related.{as_it_stands}
use Rattle.a68_equiv.proofs.Carrying.{exact}
use Rattle.a68_equiv.proofs.classes.classes_of.Goals as goal

exact_as : (nodes : List Shape) (heads h : List ℕ) (rows r : List (Bool × List ℕ)) (classes c : List ℕ) → IsGraphOf nodes heads rows → h ≡ heads → r ≡ rows → c ≡ classes → IsRefined h r classes → AreExact nodes c
exact_as nodes heads h rows r classes c graph e f g is =
    let one = subst (λ (xs : List ℕ). IsRefined xs r classes) e is in
    let two = subst (λ (xs : List (Bool × List ℕ)). IsRefined heads xs classes) f one in
    subst (λ (xs : List ℕ). AreExact nodes xs) (sym g) (exact nodes heads rows graph classes two)

pub classes_by_key-requires-clause-exact : goal.classes_by_key-requires-clause-exact
classes_by_key-requires-clause-exact c = exact_as c.args.modes.now c.args.graph.now.heads.items c.deref.result.now c.args.graph.now.rows.items c.deref-2.result.now c.in_ok-items.items.items c.deref-3.result.now
    c.requires.graph c.deref.ensures.value c.deref-2.ensures.value c.deref-3.ensures.value c.in_ok-items.ensures

pub nodes_by_key-requires-clause-long : goal.nodes_by_key-requires-clause-long
nodes_by_key-requires-clause-long c = ap length c.deref-4.ensures.value ∙ c.in_ok-items.ensures.long ∙ ap length c.deref-2.ensures.value ∙ c.requires.graph.rows_long

pub returns : goal.returns
returns c =
    let nodes = c.args.modes.now in
    let classes = c.in_ok-items.items.items in
    let found = subst (λ (xs : List ℕ). (firsts : List ℕ) × SoFar (λ m key. IsModeKey nodes xs (as_it_stands m) key) c.in_ok-nodes.nodes.entries firsts (length nodes)) c.deref-4.ensures.value c.in_ok-nodes.ensures in
    record {
      exact = exact_as nodes c.args.graph.now.heads.items c.deref.result.now c.args.graph.now.rows.items c.deref-2.result.now classes classes c.requires.graph c.deref.ensures.value c.deref-2.ensures.value refl c.in_ok-items.ensures;
      classes_found = subst (λ (xs : List ℕ). SoFar (HasModeKey nodes xs) c.in_ok-keys.keys.entries xs (2 * length nodes)) c.deref-3.ensures.value c.in_ok-keys.ensures;
      firsts = found.0;
      nodes_found = found.1;
    }

pub classes_by_key-requires-clause-low : goal.classes_by_key-requires-clause-low
classes_by_key-requires-clause-low c =
    let long : length c.deref-2.result.now ≡ 2 * length c.args.modes.now = ap length c.deref-2.ensures.value ∙ c.requires.graph.rows_long in
    λ v h. rw c.deref-3.ensures.value (c.in_ok-items.ensures.low v (omega arith))

pub classes_by_key-requires-clause-own : goal.classes_by_key-requires-clause-own
classes_by_key-requires-clause-own c =
    let long : length c.deref-2.result.now ≡ 2 * length c.args.modes.now = ap length c.deref-2.ensures.value ∙ c.requires.graph.rows_long in
    λ v h. rw c.deref-3.ensures.value (c.in_ok-items.ensures.own v (omega arith))

pub refine-requires : goal.refine-requires
refine-requires c = rw (c.deref.ensures.value, c.deref-2.ensures.value) record { few = c.requires.few; wired = c.requires.wired }

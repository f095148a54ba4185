use Rattle.std.proofs.Common.{ℕ, List, ◌≡◌, ◌∙◌, ◌++◌, ◌∷◌, [], length, refl, ap, arith, subst}
use Rattle.a68_equiv.specs.Graph.{number_of, mode_of}
use Rattle.a68_equiv.specs.ModeKeys.{IsModeKey}
use Rattle.a68_equiv.specs.Related.{as_it_stands}
use Rattle.a68_partition.specs.Rounds.{SoFar, at_key}
use Rattle.a68_equiv.specs.declared.mode.Mode.{Mode}
use Rattle.a68_partition.proofs.Numbering.{more}
use Rattle.a68_equiv.proofs.Numbers.{mode_number}
use Rattle.a68_equiv.proofs.keys.nodes_by_key.Goals as goal

none_numbered : (HasKey : ℕ → List ℕ → Type 0) → SoFar HasKey [] [] 0
none_numbered HasKey = record { built = refl; known = λ j h. absurd (omega arith); found = λ key f e. absurd (cc); first = λ j h. absurd (omega arith) }

pub loop-id-preserved : goal.loop-id-preserved
loop-id-preserved c =
    let nodes = c.args.modes.now in
    let id = c.loop-id.id in
    let key = c.in_ok-key.key in
    let so = c.loop-id.invariant in
    let at : mode_of c.number.result ≡ as_it_stands id = ap mode_of (c.number.ensures ∙ ap number_of c.as_it_stands.ensures) ∙ mode_number (as_it_stands id) in
    let has : IsModeKey nodes c.args.classes.now (as_it_stands id) key.items = subst (λ (m : Mode). IsModeKey nodes c.args.classes.now m key.items) at c.in_ok-key.ensures in (
      so.0 ++ c.in_ok-numbered.field-0 ∷ [],
      more (λ m key. IsModeKey nodes c.args.classes.now (as_it_stands m) key) c.loop-id.table.entries c.numbered.new.table.entries so.0 id c.in_ok-numbered.field-0 key so.1 has
          c.in_ok-numbered.ensures.here c.in_ok-numbered.ensures.others (at_key c.loop-id.table.entries key.items) refl c.in_ok-numbered.ensures.number,
    )

pub returns : goal.returns
returns c =
    let all : c.loop-id.id ≡ length c.args.modes.now = omega arith in
    (c.loop-id.invariant.0, subst (SoFar (λ m key. IsModeKey c.args.modes.now c.args.classes.now (as_it_stands m) key) c.loop-id.table.entries c.loop-id.invariant.0) all c.loop-id.invariant.1)

pub number-requires : goal.number-requires
number-requires c = rw c.as_it_stands.ensures (omega (arith, c.len-id-end.ensures.nodes.few))

pub mode_key-requires-clause-there : goal.mode_key-requires-clause-there
mode_key-requires-clause-there c = rw (c.number.ensures, c.as_it_stands.ensures) (omega arith)

pub loop-id-init : goal.loop-id-init
loop-id-init c = rw c.new-table.ensures.empty ([], none_numbered (λ m key. IsModeKey c.args.modes.now c.args.classes.now (as_it_stands m) key))

use Rattle.std.proofs.Common.{◌≡◌, List, ◌≤◌, suc, ◌-◌, ◌+◌, ◌*◌, drop, length}
use Rattle.std.specs.declared.option.Option.{Option}
use Rattle.a68_base.specs.declared.refusal.Stop.{Stop}
use Rattle.a68_code.specs.declared.code.Instr.{Instr}
use Rattle.a68_elab.specs.Made.{index_units, specs_of, trees_at}
use Rattle.a68_elab.specs.Programs.{behind, specs_seated}
use Rattle.a68_emit.specs.Chains.{IsOpen, TreeIsWritten, LinkIsWithin, link_tree}
use Rattle.a68_emit.specs.Listing.{stretches}
use Rattle.a68_emit.specs.Views.{behind_values, extra, laid_of, rising, rising_bounds, seat_of, tree_of, within}
use Rattle.a68_emit.specs.Writing.{Writes}
use Rattle.a68_constructs.proofs.Conforming.{SpecsAhead}
use Rattle.a68_constructs.proofs.Lying.{IsOver}
use Rattle.a68_constructs.proofs.Stepping.{StepsAhead}
use Rattle.a68_constructs.specs.Endings.{GoesOn, IsSeenAlike, TailIsWithin, out_tree}
use Rattle.a68_constructs.proofs.Numbering.{ArmsAhead}
use Rattle.a68_constructs.proofs.+units.Given as goal

abbrev pub decreases-rows::unit : goal.decreases-rows::unit
decreases-rows::unit l = 16 * (extra l.program.now + (length l.program.now.of.now.tree.nodes - l.id)) + 15

abbrev pub decreases-rows::construct : goal.decreases-rows::construct
decreases-rows::construct l = 16 * (extra l.program.now + (length l.program.now.of.now.tree.nodes - l.id)) + 14

abbrev pub decreases-names::variable : goal.decreases-names::variable
decreases-names::variable l = 16 * (extra l.program.now + (length l.program.now.of.now.tree.nodes - l.id)) + 9

abbrev pub decreases-names::variable_of : goal.decreases-names::variable_of
decreases-names::variable_of l = 16 * (extra l.program.now + (length l.program.now.of.now.tree.nodes - l.id)) + 8

abbrev pub decreases-calls::call : goal.decreases-calls::call
decreases-calls::call l = 16 * (extra l.program.now + (length l.program.now.of.now.tree.nodes - l.id)) + 5

abbrev pub decreases-rows::serial : goal.decreases-rows::serial
decreases-rows::serial l = 16 * (extra l.program.now + (length l.program.now.of.now.tree.nodes - l.id)) + 5

abbrev pub decreases-rows::only : goal.decreases-rows::only
decreases-rows::only l = 16 * (extra l.program.now + (length l.program.now.of.now.tree.nodes - l.id)) + 5

abbrev pub decreases-choices::conditional : goal.decreases-choices::conditional
decreases-choices::conditional l = 16 * (extra l.program.now + (length l.program.now.of.now.tree.nodes - l.id)) + 5

abbrev pub decreases-turns::repeat : goal.decreases-turns::repeat
decreases-turns::repeat l = 16 * (extra l.program.now + (length l.program.now.of.now.tree.nodes - l.id)) + 5

abbrev pub decreases-choices::chain : goal.decreases-choices::chain
decreases-choices::chain l = 16 * (extra l.program.now + (length l.program.now.of.now.tree.nodes - l.first.id)) + 4

abbrev pub decreases-choices::write_links : goal.decreases-choices::write_links
decreases-choices::write_links l = 16 * (extra l.program.now + (length l.program.now.of.now.tree.nodes - l.first.id)) + 3

abbrev pub decreases-choices::write_link : goal.decreases-choices::write_link
decreases-choices::write_link l = 16 * (extra l.program.now + (length l.program.now.of.now.tree.nodes - l.link.now.id)) + 2

abbrev pub decreases-calls::formula : goal.decreases-calls::formula
decreases-calls::formula l = 16 * (extra l.program.now + (length l.program.now.of.now.tree.nodes - l.id)) + 5

abbrev pub decreases-calls::standard_formula : goal.decreases-calls::standard_formula
decreases-calls::standard_formula l = 16 * (extra l.program.now + (length l.program.now.of.now.tree.nodes - l.id)) + 4

abbrev pub decreases-rows::assignation : goal.decreases-rows::assignation
decreases-rows::assignation l = 16 * (extra l.program.now + (length l.program.now.of.now.tree.nodes - l.id)) + 4

abbrev pub decreases-rows::identity : goal.decreases-rows::identity
decreases-rows::identity l = 16 * (extra l.program.now + (length l.program.now.of.now.tree.nodes - l.id)) + 4

abbrev pub decreases-calls::declared_formula : goal.decreases-calls::declared_formula
decreases-calls::declared_formula l = 16 * (extra l.program.now + (length l.program.now.of.now.tree.nodes - l.id)) + 4

abbrev pub decreases-calls::applied : goal.decreases-calls::applied
decreases-calls::applied l = 16 * (extra l.program.now + (length l.program.now.of.now.tree.nodes - l.id)) + 3

abbrev pub decreases-calls::routine : goal.decreases-calls::routine
decreases-calls::routine l = 16 * (extra l.program.now + (length l.program.now.of.now.tree.nodes - l.id)) + 3

abbrev pub decreases-names::assigned : goal.decreases-names::assigned
decreases-names::assigned l = 16 * (extra l.program.now + (length l.program.now.of.now.tree.nodes - l.id)) + 6

abbrev pub decreases-names::begun : goal.decreases-names::begun
decreases-names::begun l = 16 * (extra l.program.now + (length l.program.now.of.now.tree.nodes - l.id)) + 7

abbrev pub decreases-rows::operation : goal.decreases-rows::operation
decreases-rows::operation l = 16 * (extra l.program.now + (length l.program.now.of.now.tree.nodes - l.id)) + 2

abbrev pub decreases-rows::all : goal.decreases-rows::all
decreases-rows::all l = 16 * (extra l.program.now + (length l.program.now.of.now.tree.nodes - l.id)) + 1

abbrev pub decreases-choices::otherwise : goal.decreases-choices::otherwise
decreases-choices::otherwise l = 16 * (extra l.program.now + (length l.program.now.of.now.tree.nodes - l.id)) + 1

abbrev pub decreases-rows::write_part : goal.decreases-rows::write_part
decreases-rows::write_part l = 16 * (extra l.program.now + (length l.program.now.of.now.tree.nodes - l.id)) + 0

abbrev pub decreases-rows::last : goal.decreases-rows::last
decreases-rows::last l = 16 * (extra l.program.now + (length l.program.now.of.now.tree.nodes - l.id)) + 2

abbrev pub decreases-rows::definition : goal.decreases-rows::definition
decreases-rows::definition l = 16 * (extra l.program.now + (length l.program.now.of.now.tree.nodes - l.id)) + 3

abbrev pub decreases-names::declared : goal.decreases-names::declared
decreases-names::declared l = 16 * (extra l.program.now + (length l.program.now.of.now.tree.nodes - l.id)) + 7

abbrev pub decreases-parts::collateral : goal.decreases-parts::collateral
decreases-parts::collateral l = 16 * (extra l.program.now + (length l.program.now.of.now.tree.nodes - l.id)) + 5

abbrev pub decreases-parts::structure : goal.decreases-parts::structure
decreases-parts::structure l = 16 * (extra l.program.now + (length l.program.now.of.now.tree.nodes - l.id)) + 3

abbrev pub decreases-parts::selection : goal.decreases-parts::selection
decreases-parts::selection l = 16 * (extra l.program.now + (length l.program.now.of.now.tree.nodes - l.id)) + 3

abbrev pub decreases-calls::prints : goal.decreases-calls::prints
decreases-calls::prints l = 16 * (extra l.program.now + (length l.program.now.of.now.tree.nodes - l.id)) + 3

abbrev pub decreases-turns::control : goal.decreases-turns::control
decreases-turns::control l = 16 * (extra l.program.now + (length l.program.now.of.now.tree.nodes - l.id)) + 1

abbrev pub decreases-turns::count : goal.decreases-turns::count
decreases-turns::count l = 16 * (extra l.program.now + (length l.program.now.of.now.tree.nodes - l.id)) + 2

abbrev pub decreases-turns::enquire : goal.decreases-turns::enquire
decreases-turns::enquire l = 16 * (extra l.program.now + (length l.program.now.of.now.tree.nodes - l.id)) + 2

abbrev pub decreases-turns::ask : goal.decreases-turns::ask
decreases-turns::ask l = 16 * (extra l.program.now + (length l.program.now.of.now.tree.nodes - l.id)) + 3

abbrev pub decreases-turns::test : goal.decreases-turns::test
decreases-turns::test l = 16 * (extra l.program.now + (length l.program.now.of.now.tree.nodes - l.id)) + 4

abbrev pub decreases-turns::body : goal.decreases-turns::body
decreases-turns::body l = 16 * (extra l.program.now + (length l.program.now.of.now.tree.nodes - l.id)) + 1

abbrev pub decreases-names::write_written : goal.decreases-names::write_written
decreases-names::write_written l = 16 * (extra l.program.now + (length l.program.now.of.now.tree.nodes - l.id)) + 1

abbrev pub decreases-names::write_bound : goal.decreases-names::write_bound
decreases-names::write_bound l = 16 * (extra l.program.now + (length l.program.now.of.now.tree.nodes - l.id)) + 2

abbrev pub decreases-names::write_bounds : goal.decreases-names::write_bounds
decreases-names::write_bounds l = 16 * (extra l.program.now + (length l.program.now.of.now.tree.nodes - l.id)) + 3

abbrev pub decreases-names::bounded : goal.decreases-names::bounded
decreases-names::bounded l = 16 * (extra l.program.now + (length l.program.now.of.now.tree.nodes - l.id)) + 4

abbrev pub decreases-names::new_name : goal.decreases-names::new_name
decreases-names::new_name l = 16 * (extra l.program.now + (length l.program.now.of.now.tree.nodes - l.id)) + 5

abbrev pub decreases-names::generator : goal.decreases-names::generator
decreases-names::generator l = 16 * (extra l.program.now + (length l.program.now.of.now.tree.nodes - l.id)) + 6

abbrev pub decreases-parts::write_index : goal.decreases-parts::write_index
decreases-parts::write_index l = 16 * (extra l.program.now + (length l.program.now.of.now.tree.nodes - l.id)) + 2

abbrev pub decreases-parts::write_indexes : goal.decreases-parts::write_indexes
decreases-parts::write_indexes l = 16 * (extra l.program.now + (length l.program.now.of.now.tree.nodes - l.id)) + 3

abbrev pub decreases-parts::slice : goal.decreases-parts::slice
decreases-parts::slice l = 16 * (extra l.program.now + (length l.program.now.of.now.tree.nodes - l.id)) + 4

abbrev pub decreases-parts::row : goal.decreases-parts::row
decreases-parts::row l = 16 * (extra l.program.now + (length l.program.now.of.now.tree.nodes - l.id)) + 3

-- with the rest of the bounds, all of them are written
abbrev pub invariant-names::write_bounds-loop-bound : goal.invariant-names::write_bounds-loop-bound
invariant-names::write_bounds-loop-bound l = IsOver l.program l.over × ((s : Option Stop) (end : List Instr)
    → Writes l.out.stop s l.out.list end (stretches (rising_bounds l.over l.id l.place (drop l.bound-index l.bounds)) (length l.out.list))
    → Writes l.initial.out.stop s l.initial.out.list end (stretches (rising_bounds l.program l.id l.place l.bounds) (length l.initial.out.list)))

-- with the rest of the indexes, the units of all of them are written
abbrev pub invariant-parts::write_indexes-loop-index : goal.invariant-parts::write_indexes-loop-index
invariant-parts::write_indexes-loop-index l = IsOver l.program l.over × ((s : Option Stop) (end : List Instr)
    → Writes l.out.stop s l.out.list end (stretches (rising l.over l.id (index_units l.program.of.now (drop l.index-index l.indexes))) (length l.out.list))
    → Writes l.initial.out.stop s l.initial.out.list end (stretches (rising l.program l.id (index_units l.program.of.now l.indexes)) (length l.initial.out.list)))

-- with the rest of the parts, all of them are written
abbrev pub invariant-rows::all-loop-part : goal.invariant-rows::all-loop-part
invariant-rows::all-loop-part l = (s : Option Stop) (end : List Instr) → Writes l.out.stop s l.out.list end (stretches (trees_at (behind l.id (laid_of l.program)) (drop l.part-index l.parts)) (length l.out.list))
    → Writes l.initial.out.stop s l.initial.out.list end (stretches (trees_at (behind l.id (laid_of l.program)) l.parts) (length l.initial.out.list))

-- with the rest of the parts, each over the values before it, all of them are written
abbrev pub invariant-rows::values-loop-part : goal.invariant-rows::values-loop-part
invariant-rows::values-loop-part l = IsOver l.program l.over × (behind_values l.program l.parts ≡ behind_values l.over (drop l.part-index l.parts))
    × ((s : Option Stop) (end : List Instr) → Writes l.out.stop s l.out.list end (stretches (rising l.over l.id (drop l.part-index l.parts)) (length l.out.list))
    → Writes l.initial.out.stop s l.initial.out.list end (stretches (rising l.program l.id l.parts) (length l.initial.out.list)))

abbrev pub decreases-rows::values : goal.decreases-rows::values
decreases-rows::values l = 16 * (extra l.program.now + (length l.program.now.of.now.tree.nodes - l.id)) + 1

abbrev pub decreases-rows::clause : goal.decreases-rows::clause
decreases-rows::clause l = 16 * (extra l.program.now + (length l.program.now.of.now.tree.nodes - l.id)) + 7

abbrev pub decreases-rows::framed_steps : goal.decreases-rows::framed_steps
decreases-rows::framed_steps l = 16 * (extra l.program.now + (length l.program.now.of.now.tree.nodes - l.id)) + 6

abbrev pub decreases-steps::labelled : goal.decreases-steps::labelled
decreases-steps::labelled l = 16 * (extra l.program.now + (length l.program.now.of.now.tree.nodes - l.id)) + 5

abbrev pub decreases-steps::steps : goal.decreases-steps::steps
decreases-steps::steps l = 16 * (extra l.program.now + (length l.program.now.of.now.tree.nodes - l.id)) + 4

abbrev pub decreases-steps::write_steps : goal.decreases-steps::write_steps
decreases-steps::write_steps l = 16 * (extra l.program.now + (length l.program.now.of.now.tree.nodes - l.id)) + 3

abbrev pub decreases-steps::write_step : goal.decreases-steps::write_step
decreases-steps::write_step l = 16 * (extra l.program.now + (length l.program.now.of.now.tree.nodes - l.id)) + 2

-- the steps before this one are written, and what is kept of them
abbrev pub invariant-steps::write_steps-loop-at : goal.invariant-steps::write_steps-loop-at
invariant-steps::write_steps-loop-at l =
    (l.at ≤ length l.parts) × StepsAhead l.program l.id l.place l.parts (drop l.at l.parts) l.placed.items l.jumps.items l.initial.out.stop l.out.stop l.initial.out.list l.out.list

abbrev pub decreases-steps::write_steps-loop-at : goal.decreases-steps::write_steps-loop-at
decreases-steps::write_steps-loop-at l = length l.parts - l.at

-- the links before this one are written
abbrev pub invariant-choices::write_links-links : goal.invariant-choices::write_links-links
invariant-choices::write_links-links l =
    LinkIsWithin l.program.of.now l.link × (l.fn.first.id ≤ l.link.id) × IsSeenAlike l.program l.inner
    × IsOpen (TreeIsWritten (link_tree l.program.of.now (laid_of (within l.fn.first.slots l.program)) l.fn.first) l.initial.out.stop l.initial.out.list) l.opens.items
    (link_tree l.program.of.now (laid_of l.inner) l.link) l.out.stop l.out.list

abbrev pub decreases-choices::write_links-links : goal.decreases-choices::write_links-links
decreases-choices::write_links-links l = length l.program.of.now.tree.nodes - l.link.id

abbrev pub decreases-choices::case : goal.decreases-choices::case
decreases-choices::case l = 16 * (extra l.program.now + (length l.program.now.of.now.tree.nodes - l.id)) + 9

abbrev pub decreases-choices::choice_chain : goal.decreases-choices::choice_chain
decreases-choices::choice_chain l = 16 * (extra l.program.now + (length l.program.now.of.now.tree.nodes - l.id)) + 8

abbrev pub decreases-choices::write_choices : goal.decreases-choices::write_choices
decreases-choices::write_choices l = 16 * (extra l.program.now + (length l.program.now.of.now.tree.nodes - l.first.id)) + 7

abbrev pub decreases-choices::write_choice : goal.decreases-choices::write_choice
decreases-choices::write_choice l = 16 * (extra l.program.now + (length l.program.now.of.now.tree.nodes - l.id)) + 7

abbrev pub decreases-choices::front_of : goal.decreases-choices::front_of
decreases-choices::front_of l = 16 * (extra l.program.now + (length l.program.now.of.now.tree.nodes - l.id)) + 6

abbrev pub decreases-choices::write_front : goal.decreases-choices::write_front
decreases-choices::write_front l = 16 * (extra l.program.now + (length l.program.now.of.now.tree.nodes - l.id)) + 4

abbrev pub decreases-choices::choose : goal.decreases-choices::choose
decreases-choices::choose l = 16 * (extra l.program.now + (length l.program.now.of.now.tree.nodes - l.id)) + 3

abbrev pub decreases-choices::write_arms : goal.decreases-choices::write_arms
decreases-choices::write_arms l = 16 * (extra l.program.now + (length l.program.now.of.now.tree.nodes - l.id)) + 2

abbrev pub decreases-choices::write_arm : goal.decreases-choices::write_arm
decreases-choices::write_arm l = 16 * (extra l.program.now + (length l.program.now.of.now.tree.nodes - l.id)) + 1

-- the choices before this one are written
abbrev pub invariant-choices::write_choices-tails : goal.invariant-choices::write_choices-tails
invariant-choices::write_choices-tails l =
    TailIsWithin l.program.of.now l.tail × (l.fn.first.id ≤ l.tail.id) × IsSeenAlike l.program l.seen
    × GoesOn (out_tree (laid_of l.program) l.fn.first) (out_tree (laid_of l.seen) l.tail) l.initial.endings.items l.initial.out.stop l.initial.out.list l.endings.items l.out.stop l.out.list

abbrev pub decreases-choices::write_choices-tails : goal.decreases-choices::write_choices-tails
decreases-choices::write_choices-tails l = length l.program.of.now.tree.nodes - l.tail.id

-- the parts before this one are written
abbrev pub invariant-choices::write_arms-loop-part : goal.invariant-choices::write_arms-loop-part
invariant-choices::write_arms-loop-part l =
    ArmsAhead l.place (trees_at (behind l.id (laid_of l.program)) l.parts) (trees_at (behind l.id (laid_of l.program)) (drop l.part-index l.parts)) l.starts.items l.jumps.items
    l.initial.out.stop l.out.stop l.initial.out.list l.out.list

abbrev pub decreases-conformity::conformity : goal.decreases-conformity::conformity
decreases-conformity::conformity l = 16 * (extra l.program.now + (length l.program.now.of.now.tree.nodes - l.id)) + 9

abbrev pub decreases-conformity::conform_front : goal.decreases-conformity::conform_front
decreases-conformity::conform_front l = 16 * (extra l.program.now + (length l.program.now.of.now.tree.nodes - l.id)) + 5

abbrev pub decreases-conformity::conform : goal.decreases-conformity::conform
decreases-conformity::conform l = 16 * (extra l.program.now + (length l.program.now.of.now.tree.nodes - l.id)) + 4

abbrev pub decreases-conformity::write_specs : goal.decreases-conformity::write_specs
decreases-conformity::write_specs l = 16 * (extra l.program.now + (length l.program.now.of.now.tree.nodes - l.id)) + 3

abbrev pub decreases-conformity::write_spec : goal.decreases-conformity::write_spec
decreases-conformity::write_spec l = 16 * (extra l.program.now + (length l.program.now.of.now.tree.nodes - l.id)) + 2

abbrev pub decreases-conformity::write_specified : goal.decreases-conformity::write_specified
decreases-conformity::write_specified l = 16 * (extra l.program.now + (length l.program.now.of.now.tree.nodes - l.id)) + 1

-- the specifications before this one are written
abbrev pub invariant-conformity::write_specs-loop-at : goal.invariant-conformity::write_specs-loop-at
invariant-conformity::write_specs-loop-at l =
    (l.at ≤ length l.specs)
    × SpecsAhead l.place l.yields (specs_seated (seat_of l.program) (specs_of l.program.of.now (behind l.id (tree_of l.program)) l.specs))
    (specs_seated (seat_of l.program) (specs_of l.program.of.now (behind l.id (tree_of l.program)) (drop l.at l.specs))) l.starts.items l.jumps.items
    l.initial.out.stop l.out.stop l.initial.out.list l.out.list

abbrev pub decreases-conformity::write_specs-loop-at : goal.decreases-conformity::write_specs-loop-at
decreases-conformity::write_specs-loop-at l = length l.specs - l.at

abbrev pub decreases-names::write_defined : goal.decreases-names::write_defined
decreases-names::write_defined l = 16 * extra l.program.now + 1

abbrev pub decreases-names::write_outside : goal.decreases-names::write_outside
decreases-names::write_outside l = 16 * suc (length l.program.now.of.now.tree.nodes)

-- Programs of which no code is made.
use Rattle.std.proofs.Common.{◌≡◌, ◌≤◌, ℕ, List, length, sym, ◌∙◌, ap, subst, Some, slice_get}
use Rattle.std.proofs.lemmas.Option.{same_Some}
use Rattle.std.specs.Prelude.{Ok, Err, IfErr}
use Rattle.std.specs.declared.result.Result.{Result}
use Rattle.a68_annot.specs.declared.annotated.Annotated.{Annotated}
use Rattle.a68_base.specs.declared.refusal.Refusal.{Refusal}
use Rattle.a68_base.specs.declared.refusal.Rule.{Rule}
use Rattle.a68_base.specs.declared.refusal.Stop.{Stop}
use Rattle.a68_base.specs.declared.refusal.Stop.TheVariants.{Refused, NoMemory}
use Rattle.a68_code.specs.declared.code.Code.{Code}
use Rattle.a68_code.specs.declared.code.Instr.{Instr}
use Rattle.a68_elab.proofs.Beginning.{program_begins}
use Rattle.a68_elab.specs.Programs.{program_of}
use Rattle.a68_gen.proofs.Listed.{listed, not_short}
use Rattle.a68_gen.proofs.Places.{refused_by}
use Rattle.a68_emit.specs.Listing.{listing}
use Rattle.a68_gen.specs.Refusals.{IsNotGenerated}
use Rattle.a68_emit.specs.Stretches.{Translates}
use Rattle.a68_emit.specs.Writing.{IsTooLong, Stops, most}
use Rattle.a68_ranges.specs.Twice.{StopsBy}
use Rattle.a68_tree.specs.declared.node.Node.{Node}

-- what stops the writing of a program
stops-so : (a : Annotated) (stop : Stop) → Stops stop (listing (program_of a)) → StopsBy (IsNotGenerated a) stop
stops-so a NoMemory s = tt
stops-so a (Refused r) s = s

pub refused-so : (a : Annotated) (made : Result Code Stop) → IfErr made (λ stop. Stops stop (listing (program_of a))) → IfErr made (StopsBy (IsNotGenerated a))
refused-so a (Ok code) s = s
refused-so a (Err stop) s = stops-so a stop s

same-refusal : (r s : Refusal) → s.rule ≡ r.rule → s.place ≡ r.place → s ≡ r
same-refusal r s e f =
    ap {A = Rule} {B = Refusal} (λ x. record { rule = x; place = s.place }) e ∙ ap {A = ℕ} {B = Refusal} (λ x. record { rule = r.rule; place = x }) f

pub one-refusal : (a : Annotated) (refusal other : Refusal) → IsNotGenerated a refusal → IsNotGenerated a other → other ≡ refusal
one-refusal a r s t u = same-refusal r s (u.rule ∙ sym t.rule) (same_Some s.place r.place (sym u.place ∙ t.place))

pub no-code : (a : Annotated) (code : Code) (refusal : Refusal) → Translates (program_of a) code → length code.list ≤ most → IsNotGenerated a refusal → ⊥
no-code a code r t few long = not_short code.list r (subst (λ (l : List Instr). IsTooLong l r) (sym (listed (program_of a) code t)) long) few

pub refused-within : (a : Annotated) (end : ℕ) (refusal : Refusal) → ((id : ℕ) (n : Node) → slice_get a.tree.nodes id ≡ Some n → n.span.from ≤ end) → IsNotGenerated a refusal → refusal.place ≤ end
refused-within a end r h t = refused_by (program_of a) end r (program_begins a end h) t

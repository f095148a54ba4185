-- Forms of the grammar from their pieces.
use Rattle.std.proofs.Common.{sym, subst}
use Rattle.a68_tree.specs.declared.kind.NodeKind.{NodeKind}
use Rattle.a68_tree.specs.declared.kind.NodeKind.TheVariants as k
use Rattle.a68_symbols.specs.declared.sym.Token.TheVariants as t
use Rattle.a68_symbols.specs.declared.sym.Bracket.TheVariants as b
use Rattle.a68_tree.specs.Forest.{Forest, end, mark, group, part, joined}
use Rattle.a68_tree.specs.Grammar as gr
use Rattle.a68_tree.specs.Grammar.{IsSign, IsEnquiry, IsSerial, IsSteps, IsUnit, IsUnits, IsSpec, IsChoices, IsDeclaration, IsTags, IsSecondary, IsOperands, IsPrimary, IsIndex, IsIndexes, IsDeclarer, IsDeclarers, IsBound, IsBounds, IsYield, IsPlan}
use Rattle.a68_read.specs.Middles.{IsCommaTail, comma_end, comma_on, IsSerialTail, serial_end, serial_on, serial_out, IsStepsTail, steps_end, steps_on, steps_out, IsEnquiryTail, enquiry_end, enquiry_on, IsOperandsTail, operands_end, operands_on, IsSpecTag, no_spec_tag, a_spec_tag, IsPlanTail, plan_end, plan_on, IsTagsMore, tags_again, params_again, IsProcedurePlan, plan_none, plan_some, IsBase, base_cast, base_cast_void, base_tag, base_denotation, base_long_denotation, base_enclosed}
use Rattle.a68_tree.proofs.Joining.{joined_assoc}

-- an enquiry is a serial clause
pub as_serial : {f : Forest} → IsEnquiry f → IsSerial f
as_serial (gr.enquiry_one p) = gr.serial_one p
as_serial (gr.enquiry_unit p q) = gr.serial_unit p (as_serial q)
as_serial (gr.enquiry_declaration p q) = gr.serial_declaration p (as_serial q)

pub declared_serial : {d a : Forest} → IsDeclaration d → IsSerial a → IsSerial (joined (joined d (mark t.Semicolon end)) a)
declared_serial {d = d} {a = a} p q = subst IsSerial (sym (joined_assoc d (mark t.Semicolon end) a)) (gr.serial_declaration p q)

pub declared_enquiry : {d a : Forest} → IsDeclaration d → IsEnquiry a → IsEnquiry (joined (joined d (mark t.Semicolon end)) a)
declared_enquiry {d = d} {a = a} p q = subst IsEnquiry (sym (joined_assoc d (mark t.Semicolon end) a)) (gr.enquiry_declaration p q)

pub unit_serial : {j : NodeKind} {u x : Forest} → IsUnit j u → IsSerialTail x → IsSerial (part j u x)
unit_serial p serial_end = gr.serial_one p
unit_serial p (serial_on q) = gr.serial_unit p q
unit_serial p (serial_out q) = gr.serial_exit p q

pub unit_steps : {j : NodeKind} {u x : Forest} → IsUnit j u → IsStepsTail x → IsSteps (part j u x)
unit_steps p steps_end = gr.steps_last p
unit_steps p (steps_on q) = gr.steps_unit p q
unit_steps p (steps_out q) = gr.steps_exit p q

pub unit_enquiry : {j : NodeKind} {u x : Forest} → IsUnit j u → IsEnquiryTail x → IsEnquiry (part j u x)
unit_enquiry p enquiry_end = gr.enquiry_one p
unit_enquiry p (enquiry_on q) = gr.enquiry_unit p q

-- what holds of a list in one piece holds where it is put together from its beginning on
pub behind_one : (P : Forest → Type 0) (x y a : Forest) → P (joined x (joined y a)) → P (joined (joined x y) a)
behind_one P x y a h = subst P (sym (joined_assoc x y a)) h

pub behind_two : (P : Forest → Type 0) (x y z a : Forest) → P (joined x (joined y (joined z a))) → P (joined (joined (joined x y) z) a)
behind_two P x y z a h = behind_one P (joined x y) z a (behind_one P x y (joined z a) h)

pub units_from : {j : NodeKind} {u x : Forest} → IsUnit j u → IsCommaTail IsUnits x → IsUnits (part j u x)
units_from p comma_end = gr.unit_one p
units_from p (comma_on q) = gr.unit_more p q

pub choices_from : {j : NodeKind} {s u x : Forest} → IsSpec s → IsUnit j u → IsCommaTail IsChoices x → IsChoices (part k.Spec s (part j u x))
choices_from p q comma_end = gr.choice_one p q
choices_from p q (comma_on r) = gr.choice_more p q r

pub spec_from : {d x : Forest} → IsDeclarer d → IsSpecTag x → IsSpec (group b.Round (part k.Declarer d x) (mark t.Colon end))
spec_from p no_spec_tag = gr.spec p
spec_from p a_spec_tag = gr.spec_tag p

pub tags_from : {i : NodeKind} {x : Forest} → IsCommaTail (IsTagsMore i) x → IsTags i (part i (mark t.Tag end) x)
tags_from comma_end = gr.tags_end
tags_from (comma_on (tags_again p)) = gr.tags_more p
tags_from (comma_on (params_again p)) = gr.tags_next p

pub operands_from : {j : NodeKind} {u x : Forest} → IsSecondary j u → IsOperandsTail x → IsOperands (part j u x)
operands_from p operands_end = gr.operand_last p
operands_from p (operands_on q r) = gr.operand_next p q r

pub base_primary : {j : NodeKind} {u : Forest} → IsBase j u → IsPrimary j u
base_primary (base_cast p q) = gr.cast p q
base_primary (base_cast_void p) = gr.cast_void p
base_primary base_tag = gr.tag
base_primary (base_denotation p) = gr.denotation p
base_primary (base_long_denotation p) = gr.long_denotation p
base_primary (base_enclosed p) = gr.enclosed p

pub indexes_from : {i x : Forest} → IsIndex i → IsCommaTail IsIndexes x → IsIndexes (part k.Index i x)
indexes_from p comma_end = gr.index_one p
indexes_from p (comma_on q) = gr.index_more p q

pub proc_from : {f : Forest} → IsProcedurePlan f → IsDeclarer (mark t.Proc f)
proc_from (plan_none p) = gr.proc p
proc_from (plan_some p q) = gr.proc_params p q

pub declarers_from : {d x : Forest} → IsDeclarer d → IsCommaTail IsDeclarers x → IsDeclarers (part k.Declarer d x)
declarers_from p comma_end = gr.declarer_one p
declarers_from p (comma_on q) = gr.declarer_more p q

pub bounds_from : {i x : Forest} → IsBound i → IsCommaTail IsBounds x → IsBounds (part k.Bound i x)
bounds_from p comma_end = gr.bound_one p
bounds_from p (comma_on q) = gr.bound_more p q

pub plan_from : {d x f : Forest} → IsDeclarer d → IsPlanTail x → IsYield f → IsPlan (group b.Round (part k.Declarer d x) f)
plan_from p plan_end r = gr.plan_one p r
plan_from p (plan_on q) r = gr.plan_two p q r

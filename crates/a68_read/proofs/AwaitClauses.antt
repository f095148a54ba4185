-- Where a goal stands for what is at the front of a text, so do the goals that it is made of: closed, collateral and
-- parallel clauses, choices and loops.
use Rattle.std.proofs.Common.{◌≡◌, false, List, ◌∷◌, refl, sym, subst}
use Rattle.a68_tree.specs.declared.kind.NodeKind.TheVariants as k
use Rattle.a68_symbols.specs.declared.sym.Token.TheVariants as t
use Rattle.a68_symbols.specs.declared.sym.Bracket.TheVariants as b
use Rattle.a68_symbols.specs.declared.sym.Sym.{Sym}
use Rattle.a68_symbols.specs.declared.sym.Sym.TheVariants.{Opens, Closes, Is}
use Rattle.a68_tree.specs.declared.kind.NodeKind.{NodeKind}
use Rattle.a68_tree.specs.Forest.{Forest, end, mark, group, part, joined, spells}
use Rattle.a68_tree.specs.Grammar as gr
use Rattle.a68_nodes.specs.Stack.{Layer, node}
use Rattle.a68_lookahead.specs.Symbols.{Follows, next, starts}
use Rattle.a68_lookahead.specs.Sets as set
use Rattle.a68_lookahead.proofs.Firsts as first
use Rattle.a68_lookahead.proofs.Firsts.{no_first, no_next, no_first_pair, clause_unit, closes_clause, closes_unit, unit_tertiary, tertiary_secondary, secondary_base, definition_unit, declaration_definition}
use Rattle.a68_lookahead.proofs.Told as told
use Rattle.a68_unit_productions.specs.declared.goal.Goal.TheVariants as g
use Rattle.a68_read.specs.Middles as m
use Rattle.a68_read.specs.Fits as f
use Rattle.a68_read.specs.Fits.{Shape, fits}
use Rattle.a68_read.specs.Awaits as a
use Rattle.a68_read.specs.Awaits.{Awaited, awaits, all_await}
use Rattle.a68_productions.specs.Clauses as clauses
use Rattle.a68_tree.proofs.Joining.{joined_assoc, joined_end, spells_joined}
use Rattle.a68_read.proofs.Forms as forms
use Rattle.a68_read.proofs.Behind as behind
use Rattle.a68_read.proofs.Tests as test

-- a choice that begins with no loop word
not_loop : (s : Sym) → set.begins_from s ≡ false → {f : Forest} → gr.IsFrom f → (r : List Sym) → starts s (spells f r) ≡ false
not_loop s out p r = no_first set.begins_from s out (first.first_from p r)

pub enclosed_awaits : (K0 : Shape) (K : Awaited) (S : List Layer) (x : List Sym) → fits g.Enclosed K0 S → awaits g.Enclosed K S x → all_await (clauses.enclosed x) K S x
enclosed_awaits K0 K S x (f.fresh ends) (a.turns_free (gr.closed gr.closing_round p) h) = a.opened (a.rest_within (m.brief_serial p) h)
enclosed_awaits K0 K S x (f.fresh ends) (a.turns_free (gr.closed gr.closing_begin p) h) = a.opened (a.rest_within (m.block_serial p) h)
enclosed_awaits K0 K S x (f.fresh ends) (a.turns_free (gr.collateral gr.closing_round p) h) = a.opened (a.rest_within (m.brief_units p) h)
enclosed_awaits K0 K S x (f.fresh ends) (a.turns_free (gr.collateral gr.closing_begin p) h) = a.opened (a.rest_within (m.block_units p) h)
enclosed_awaits K0 K S x (f.fresh ends) (a.turns_free (gr.vacuum gr.closing_round) h) = a.opened (a.rest_within m.brief_vacuum h)
enclosed_awaits K0 K S x (f.fresh ends) (a.turns_free (gr.vacuum gr.closing_begin) h) = a.opened (a.rest_within m.block_vacuum h)
enclosed_awaits K0 K S x (f.fresh ends) (a.turns_free (gr.parallel c p) h) = a.takes (a.parallel_units c p h)
enclosed_awaits K0 K S x (f.fresh ends) (a.turns_free (gr.conditional p q e) h) =
    a.opened (a.reads_part p (next refl) (a.takes (a.reads_part q (behind.else_follows e (next refl)) (a.reads e (next refl) (a.closed h)))))
enclosed_awaits K0 K S x (f.fresh ends) (a.turns_free (gr.conditional_brief p q e) h) = a.opened (a.rest_within (m.brief_enquiry p (m.choice_conditional q e)) h)
enclosed_awaits K0 K S x (f.fresh ends) (a.turns_free (gr.case_ p q e) h) = a.opened (a.reads_part p (next refl) (a.takes (a.rest_within (m.in_case q e) h)))
enclosed_awaits K0 K S x (f.fresh ends) (a.turns_free (gr.case_brief p q e) h) = a.opened (a.rest_within (m.brief_enquiry p (m.choice_case q e)) h)
enclosed_awaits K0 K S x (f.fresh ends) (a.turns_free (gr.conformity p q e) h) = a.opened (a.reads_part p (next refl) (a.takes (a.rest_within (m.in_conformity q e) h)))
enclosed_awaits K0 K S x (f.fresh ends) (a.turns_free (gr.conformity_brief p q e) h) = a.opened (a.rest_within (m.brief_enquiry p (m.choice_conformity q e)) h)
enclosed_awaits K0 K S x (f.fresh ends) (a.turns_free (gr.loop (gr.for_ p)) h) = a.takes (a.takes (a.reads_free p h))
enclosed_awaits K0 K S x (f.fresh ends) (a.turns_free {r = r} (gr.loop (gr.no_for p)) h) =
    rw (not_loop (Opens b.Round) refl p r, not_loop (Opens b.Begin) refl p r, not_loop (Is t.Par) refl p r, not_loop (Opens b.If) refl p r, not_loop (Opens b.Case) refl p r, not_loop (Is t.For) refl p r)
    (a.reads_free p h)

-- a serial clause within brackets, by its first phrase
pub brief_awaits : (K0 : Shape) (K : Awaited) (S : List Layer) (x : List Sym) → fits g.Brief K0 S → awaits g.Brief K S x → all_await (clauses.brief x) K S x
brief_awaits K0 K S x (f.within ends) (a.rest_within m.brief_vacuum h) = a.closed h
brief_awaits K0 K S x (f.within ends) (a.rest_within {r = r} (m.brief_units (gr.two {f = y} p q)) h) =
    let X : List Sym = Is t.Comma ∷ spells y (Closes b.Round ∷ r) in
    rw (behind.unit_opens b.Round p X, test.unit_unlabelled p X refl, told.unit_undeclared p X refl) (a.reads_node p (next refl) (a.unit_comma q h))
brief_awaits K0 K S x (f.within ends) (a.rest_within {r = r} (m.brief_serial (gr.serial_one p)) h) =
    let X : List Sym = Closes b.Round ∷ r in
    rw (behind.unit_opens b.Round p X, test.unit_unlabelled p X refl, told.unit_undeclared p X refl) (a.reads_node p (next refl) (a.unit_serial (a.brief_ends m.serial_end h)))
brief_awaits K0 K S x (f.within ends) (a.rest_within {r = r} (m.brief_serial (gr.serial_unit {f = z} p s)) h) =
    let X : List Sym = Is t.Semicolon ∷ spells z (Closes b.Round ∷ r) in
    rw (behind.unit_opens b.Round p X, test.unit_unlabelled p X refl, told.unit_undeclared p X refl) (a.reads_node p (next refl) (a.unit_serial (a.brief_ends (m.serial_on s) h)))
brief_awaits K0 K S x (f.within ends) (a.rest_within {r = r} (m.brief_serial (gr.serial_exit {f = z} p s)) h) =
    let X : List Sym = Is t.Exit ∷ spells z (Closes b.Round ∷ r) in
    rw (behind.unit_opens b.Round p X, test.unit_unlabelled p X refl, told.unit_undeclared p X refl) (a.reads_node p (next refl) (a.unit_serial (a.brief_ends (m.serial_out s) h)))
brief_awaits K0 K S x (f.within {S = S'} ends) (a.rest_within {r = r} (m.brief_serial (gr.serial_declaration {d = d} {f = z} p s)) h) =
    let X : List Sym = Is t.Semicolon ∷ spells z (Closes b.Round ∷ r) in
    let h' = forms.behind_one (λ (w : Forest). K (node (part k.Closed (group b.Round (part k.Serial w end) end) end) ∷ S') r) d (mark t.Semicolon end) z h in
    rw (spells_joined d (mark t.Semicolon z) (Closes b.Round ∷ r), behind.declaration_opens b.Round p X, behind.declaration_unlabelled p X, behind.declaration_ahead p X)
    (a.reads p (next refl) (a.takes (a.brief_ends s h')))
brief_awaits K0 K S x (f.within ends) (a.rest_within (m.brief_serial (gr.serial_labelled (gr.label q))) h) = a.reads (gr.label q) (next refl) (a.labelled_ends h)
brief_awaits K0 K S x (f.within ends) (a.rest_within {r = r} (m.brief_enquiry {g = y} (gr.enquiry_one p) c) h) =
    let X : List Sym = Is t.Bar ∷ spells y (Closes b.Round ∷ r) in
    rw (behind.unit_opens b.Round p X, test.unit_unlabelled p X refl, told.unit_undeclared p X refl) (a.reads_node p (next refl) (a.unit_serial (a.brief_goes m.enquiry_end c h)))
brief_awaits K0 K S x (f.within ends) (a.rest_within {r = r} (m.brief_enquiry {g = y} (gr.enquiry_unit {f = z} p s) c) h) =
    let X : List Sym = Is t.Semicolon ∷ spells z (Is t.Bar ∷ spells y (Closes b.Round ∷ r)) in
    rw (behind.unit_opens b.Round p X, test.unit_unlabelled p X refl, told.unit_undeclared p X refl) (a.reads_node p (next refl) (a.unit_serial (a.brief_goes (m.enquiry_on s) c h)))
brief_awaits K0 K S x (f.within {S = S'} ends) (a.rest_within {j = j} {r = r} (m.brief_enquiry {g = y} (gr.enquiry_declaration {d = d} {f = z} p s) c) h) =
    let Y : List Sym = Is t.Bar ∷ spells y (Closes b.Round ∷ r) in
    let X : List Sym = Is t.Semicolon ∷ spells z Y in
    let h' = forms.behind_one (λ (w : Forest). K (node (part j (group b.Round (part k.Serial w (mark t.Bar y)) end) end) ∷ S') r) d (mark t.Semicolon end) z h in
    rw (spells_joined d (mark t.Semicolon z) Y, behind.declaration_opens b.Round p X, behind.declaration_unlabelled p X, behind.declaration_ahead p X)
    (a.reads p (next refl) (a.takes (a.brief_goes s c h')))

pub brief_unit_awaits : (K0 : Shape) (K : Awaited) (S : List Layer) (x : List Sym) → fits g.BriefUnit K0 S → awaits g.BriefUnit K S x → all_await (clauses.brief_unit x) K S x
brief_unit_awaits K0 K S x (f.within_unit p ends) (a.unit_comma q h) = a.takes (a.reads q (next refl) (a.closed h))
brief_unit_awaits K0 K S x (f.within_unit p ends) (a.unit_serial (a.brief_ends m.serial_end h)) = a.brief_ends m.serial_end h
brief_unit_awaits K0 K S x (f.within_unit p ends) (a.unit_serial (a.brief_ends (m.serial_on q) h)) = a.brief_ends (m.serial_on q) h
brief_unit_awaits K0 K S x (f.within_unit p ends) (a.unit_serial (a.brief_ends (m.serial_out q) h)) = a.brief_ends (m.serial_out q) h
brief_unit_awaits K0 K S x (f.within_unit p ends) (a.unit_serial (a.brief_goes m.enquiry_end c h)) = a.brief_goes m.enquiry_end c h
brief_unit_awaits K0 K S x (f.within_unit p ends) (a.unit_serial (a.brief_goes (m.enquiry_on q) c h)) = a.brief_goes (m.enquiry_on q) c h

-- where no label has come: what is read now goes behind what has been read
module _ (K : Awaited) (S : List Layer) (r : List Sym) where
  -- the serial clause is all of a closed clause, or the enquiry of a choice with that rest
  abbrev Ended : Forest → Type 0
  Ended w = K (node (part k.Closed (group b.Round (part k.Serial w end) end) end) ∷ S) r

  abbrev Gone : NodeKind → Forest → Forest → Type 0
  Gone j y w = K (node (part j (group b.Round (part k.Serial w (mark t.Bar y)) end) end) ∷ S) r

  ended_on : (v w z : Forest) → Ended (joined v (joined w z)) → Ended (joined (joined v w) z)
  ended_on v w z h = forms.behind_one Ended v w z h

  gone_on : (j : NodeKind) (y v w z : Forest) → Gone j y (joined v (joined w z)) → Gone j y (joined (joined v w) z)
  gone_on j y v w z h = forms.behind_one (Gone j y) v w z h

  ended_declared : (v d z : Forest) → Ended (joined v (joined d (mark t.Semicolon z))) → Ended (joined (joined (joined v d) (mark t.Semicolon end)) z)
  ended_declared v d z h = forms.behind_two Ended v d (mark t.Semicolon end) z h

  gone_declared : (j : NodeKind) (y v d z : Forest) → Gone j y (joined v (joined d (mark t.Semicolon z))) → Gone j y (joined (joined (joined v d) (mark t.Semicolon end)) z)
  gone_declared j y v d z h = forms.behind_two (Gone j y) v d (mark t.Semicolon end) z h

  ended_all : (v : Forest) → Ended (joined v end) → Ended v
  ended_all v h = subst Ended (joined_end v) h

  gone_all : (j : NodeKind) (y v : Forest) → Gone j y (joined v end) → Gone j y v
  gone_all j y v h = subst (Gone j y) (joined_end v) h

pub brief_tail_awaits : (K0 : Shape) (K : Awaited) (S : List Layer) (x : List Sym) → fits g.BriefTail K0 S → awaits g.BriefTail K S x → all_await (clauses.brief_tail x) K S x
brief_tail_awaits K0 K S x (f.within_steps {x = v} {S = S'} serial enquiry ends) (a.brief_ends {r = r} m.serial_end h) = a.rest_within m.serial_closes (ended_all K S' r v h)
brief_tail_awaits K0 K S x (f.within_steps {x = v} {S = S'} serial enquiry ends) (a.brief_ends {r = r} (m.serial_on {f = z} s) h) = a.takes (a.brief_ends s (ended_on K S' r v (mark t.Semicolon end) z h))
brief_tail_awaits K0 K S x (f.within_steps {x = v} {S = S'} serial enquiry ends) (a.brief_ends {r = r} (m.serial_out {f = z} s) h) =
    a.takes (a.reads s (next refl) (a.labelled_ends (ended_on K S' r v (part k.Exit (mark t.Exit end) end) z h)))
brief_tail_awaits K0 K S x (f.within_steps {x = v} {S = S'} serial enquiry ends) (a.brief_goes {j = j} {f = y} {r = r} m.enquiry_end c h) = a.rest_within (m.serial_bar c) (gone_all K S' r j y v h)
brief_tail_awaits K0 K S x (f.within_steps {x = v} {S = S'} serial enquiry ends) (a.brief_goes {j = j} {f = y} {r = r} (m.enquiry_on {f = z} s) c h) =
    a.takes (a.brief_goes s c (gone_on K S' r j y v (mark t.Semicolon end) z h))

pub brief_steps_awaits : (K0 : Shape) (K : Awaited) (S : List Layer) (x : List Sym) → fits g.BriefSteps K0 S → awaits g.BriefSteps K S x → all_await (clauses.brief_steps x) K S x
brief_steps_awaits K0 K S x (f.within_steps {x = v} {S = S'} serial enquiry ends) (a.brief_ends {r = r} (gr.serial_one {j = i} {u = u} p) h) =
    let X : List Sym = Closes b.Round ∷ r in
    rw (test.unit_unlabelled p X refl, told.unit_undeclared p X refl) (a.reads_node p (next refl) (a.brief_ends m.serial_end (ended_on K S' r v (part i u end) end h)))
brief_steps_awaits K0 K S x (f.within_steps {x = v} {S = S'} serial enquiry ends) (a.brief_ends {r = r} (gr.serial_unit {j = i} {u = u} {f = z} p s) h) =
    let X : List Sym = Is t.Semicolon ∷ spells z (Closes b.Round ∷ r) in
    rw (test.unit_unlabelled p X refl, told.unit_undeclared p X refl) (a.reads_node p (next refl) (a.brief_ends (m.serial_on s) (ended_on K S' r v (part i u end) (mark t.Semicolon z) h)))
brief_steps_awaits K0 K S x (f.within_steps {x = v} {S = S'} serial enquiry ends) (a.brief_ends {r = r} (gr.serial_exit {j = i} {u = u} {f = z} p s) h) =
    let X : List Sym = Is t.Exit ∷ spells z (Closes b.Round ∷ r) in
    rw (test.unit_unlabelled p X refl, told.unit_undeclared p X refl) (a.reads_node p (next refl) (a.brief_ends (m.serial_out s) (ended_on K S' r v (part i u end) (part k.Exit (mark t.Exit end) z) h)))
brief_steps_awaits K0 K S x (f.within_steps {x = v} {S = S'} serial enquiry ends) (a.brief_ends {r = r} (gr.serial_declaration {d = d} {f = z} p s) h) =
    let X : List Sym = Is t.Semicolon ∷ spells z (Closes b.Round ∷ r) in
    rw (spells_joined d (mark t.Semicolon z) (Closes b.Round ∷ r), behind.declaration_unlabelled p X, behind.declaration_ahead p X)
    (a.reads p (next refl) (a.takes (a.brief_ends s (ended_declared K S' r v d z h))))
brief_steps_awaits K0 K S x (f.within_steps serial enquiry ends) (a.brief_ends (gr.serial_labelled (gr.label q)) h) = a.reads (gr.label q) (next refl) (a.labelled_ends h)
brief_steps_awaits K0 K S x (f.within_steps {x = v} {S = S'} serial enquiry ends) (a.brief_goes {j = j} {f = y} {r = r} (gr.enquiry_one {j = i} {u = u} p) c h) =
    let X : List Sym = Is t.Bar ∷ spells y (Closes b.Round ∷ r) in
    rw (test.unit_unlabelled p X refl, told.unit_undeclared p X refl) (a.reads_node p (next refl) (a.brief_goes m.enquiry_end c (gone_on K S' r j y v (part i u end) end h)))
brief_steps_awaits K0 K S x (f.within_steps {x = v} {S = S'} serial enquiry ends) (a.brief_goes {j = j} {f = y} {r = r} (gr.enquiry_unit {j = i} {u = u} {f = z} p s) c h) =
    let X : List Sym = Is t.Semicolon ∷ spells z (Is t.Bar ∷ spells y (Closes b.Round ∷ r)) in
    rw (test.unit_unlabelled p X refl, told.unit_undeclared p X refl) (a.reads_node p (next refl) (a.brief_goes (m.enquiry_on s) c (gone_on K S' r j y v (part i u end) (mark t.Semicolon z) h)))
brief_steps_awaits K0 K S x (f.within_steps {x = v} {S = S'} serial enquiry ends) (a.brief_goes {j = j} {f = y} {r = r} (gr.enquiry_declaration {d = d} {f = z} p s) c h) =
    let Y : List Sym = Is t.Bar ∷ spells y (Closes b.Round ∷ r) in
    let X : List Sym = Is t.Semicolon ∷ spells z Y in
    rw (spells_joined d (mark t.Semicolon z) Y, behind.declaration_unlabelled p X, behind.declaration_ahead p X)
    (a.reads p (next refl) (a.takes (a.brief_goes s c (gone_declared K S' r j y v d z h))))

pub brief_labelled_awaits : (K0 : Shape) (K : Awaited) (S : List Layer) (x : List Sym) → fits g.BriefLabelled K0 S → awaits g.BriefLabelled K S x → all_await clauses.brief_labelled K S x
brief_labelled_awaits K0 K S x (f.within_labelled p ends) (a.labelled_ends h) = a.closed h

pub brief_end_awaits : (K0 : Shape) (K : Awaited) (S : List Layer) (x : List Sym) → fits g.BriefEnd K0 S → awaits g.BriefEnd K S x → all_await (clauses.brief_end x) K S x
brief_end_awaits K0 K S x (f.within_enquiry p ends) (a.rest_within m.serial_closes h) = a.closed h
brief_end_awaits K0 K S x (f.within_enquiry p ends) (a.rest_within (m.serial_bar c) h) = a.takes (a.rest_within c h)

pub brief_choice_awaits : (K0 : Shape) (K : Awaited) (S : List Layer) (x : List Sym) → fits g.BriefChoice K0 S → awaits g.BriefChoice K S x → all_await (clauses.brief_choice x) K S x
brief_choice_awaits K0 K S x (f.within_enquiry p ends) (a.rest_within {r = r} (m.choice_conditional {e = y} (gr.serial_one q) e) h) =
    let X : List Sym = spells y (Closes b.Round ∷ r) in
    let o = behind.else_brief_follows e (next refl) in
    rw (told.unit_unspecced q X, test.unit_unlabelled q X (no_next set.ends_clause (Is t.Colon) refl o), told.unit_undeclared q X (told.untagged (clause_unit o))) (a.reads_node q (clause_unit o) (a.chosen_serial m.serial_end e h))
brief_choice_awaits K0 K S x (f.within_enquiry p ends) (a.rest_within {r = r} (m.choice_conditional {e = y} (gr.serial_unit {f = z} q s) e) h) =
    let X : List Sym = Is t.Semicolon ∷ spells z (spells y (Closes b.Round ∷ r)) in
    rw (told.unit_unspecced q X, test.unit_unlabelled q X refl, told.unit_undeclared q X refl) (a.reads_node q (next refl) (a.chosen_serial (m.serial_on s) e h))
brief_choice_awaits K0 K S x (f.within_enquiry p ends) (a.rest_within {r = r} (m.choice_conditional {e = y} (gr.serial_exit {f = z} q s) e) h) =
    let X : List Sym = Is t.Exit ∷ spells z (spells y (Closes b.Round ∷ r)) in
    rw (told.unit_unspecced q X, test.unit_unlabelled q X refl, told.unit_undeclared q X refl) (a.reads_node q (next refl) (a.chosen_serial (m.serial_out s) e h))
brief_choice_awaits K0 K S x (f.within_enquiry p ends) (a.rest_within (m.choice_conditional (gr.serial_labelled (gr.label q)) e) h) =
    a.reads (gr.label q) (behind.else_brief_follows e (next refl)) (a.reads e (next refl) (a.closed h))
brief_choice_awaits K0 K S x (f.within_enquiry {a = w0} {S = S'} p ends) (a.rest_within {r = r} (m.choice_conditional {e = y} (gr.serial_declaration {d = d} {f = z} q s) e) h) =
    let X : List Sym = spells y (Closes b.Round ∷ r) in
    let h' = subst (λ (w : Forest). K (node (part k.Conditional (group b.Round (part k.Serial w0 (mark t.Bar (part k.Serial w y))) end) end) ∷ S') r) (sym (joined_assoc d (mark t.Semicolon end) z)) h in
    rw (spells_joined d (mark t.Semicolon z) X, behind.declaration_unspecced q (Is t.Semicolon ∷ spells z X), behind.declaration_unlabelled q (Is t.Semicolon ∷ spells z X), behind.declaration_ahead q (Is t.Semicolon ∷ spells z X))
    (a.reads q (next refl) (a.takes (a.reads s (behind.else_brief_follows e (next refl)) (a.reads e (next refl) (a.closed h')))))
brief_choice_awaits K0 K S x (f.within_enquiry p ends) (a.rest_within {r = r} (m.choice_case {e = y} (gr.two {j = j} {u = u} {f = z} q s) e) h) =
    let X : List Sym = Is t.Comma ∷ spells z (spells y (Closes b.Round ∷ r)) in
    rw (spells_joined (part j u (mark t.Comma z)) y (Closes b.Round ∷ r), told.unit_unspecced q X, test.unit_unlabelled q X refl, told.unit_undeclared q X refl) (a.reads_node q (next refl) (a.chosen_comma s e h))
brief_choice_awaits K0 K S x (f.within_enquiry p ends) (a.rest_within {r = r} (m.choice_conformity {f = z} {e = y} q e) h) =
    let X : List Sym = spells y (Closes b.Round ∷ r) in
    rw (spells_joined z y (Closes b.Round ∷ r), told.choices_seen q X) (a.reads q (behind.outc_brief_follows e (next refl)) (a.reads e (next refl) (a.closed h)))

pub brief_chosen_awaits : (K0 : Shape) (K : Awaited) (S : List Layer) (x : List Sym) → fits g.BriefChosen K0 S → awaits g.BriefChosen K S x → all_await (clauses.brief_chosen x) K S x
brief_chosen_awaits K0 K S x (f.within_chosen p q ends) (a.chosen_comma s e h) = a.takes (a.reads s (behind.out_brief_follows e (next refl)) (a.reads e (next refl) (a.closed h)))
brief_chosen_awaits K0 K S x (f.within_chosen p q ends) (a.chosen_serial {e = y} {r = r} m.serial_end e h) =
    let o : Follows set.ends_clause (spells y (Closes b.Round ∷ r)) = behind.else_brief_follows e (next refl) in
    rw (no_next set.ends_clause (Is t.Comma) refl o) (a.reads m.serial_end o (a.reads e (next refl) (a.closed h)))
brief_chosen_awaits K0 K S x (f.within_chosen p q ends) (a.chosen_serial (m.serial_on s) e h) =
    a.reads (m.serial_on s) (behind.else_brief_follows e (next refl)) (a.reads e (next refl) (a.closed h))
brief_chosen_awaits K0 K S x (f.within_chosen p q ends) (a.chosen_serial (m.serial_out s) e h) =
    a.reads (m.serial_out s) (behind.else_brief_follows e (next refl)) (a.reads e (next refl) (a.closed h))

pub block_awaits : (K0 : Shape) (K : Awaited) (S : List Layer) (x : List Sym) → fits g.Block K0 S → awaits g.Block K S x → all_await (clauses.block x) K S x
block_awaits K0 K S x (f.within ends) (a.rest_within m.block_vacuum h) = a.closed h
block_awaits K0 K S x (f.within ends) (a.rest_within {r = r} (m.block_units (gr.two {f = y} p q)) h) =
    let X : List Sym = Is t.Comma ∷ spells y (Closes b.Begin ∷ r) in
    rw (behind.unit_opens b.Begin p X, test.unit_unlabelled p X refl, told.unit_undeclared p X refl) (a.reads_node p (next refl) (a.unit_comma q h))
block_awaits K0 K S x (f.within ends) (a.rest_within {r = r} (m.block_serial (gr.serial_one p)) h) =
    let X : List Sym = Closes b.Begin ∷ r in
    rw (behind.unit_opens b.Begin p X, test.unit_unlabelled p X refl, told.unit_undeclared p X refl) (a.reads_node p (next refl) (a.unit_serial (a.block_ends m.serial_end h)))
block_awaits K0 K S x (f.within ends) (a.rest_within {r = r} (m.block_serial (gr.serial_unit {f = z} p s)) h) =
    let X : List Sym = Is t.Semicolon ∷ spells z (Closes b.Begin ∷ r) in
    rw (behind.unit_opens b.Begin p X, test.unit_unlabelled p X refl, told.unit_undeclared p X refl) (a.reads_node p (next refl) (a.unit_serial (a.block_ends (m.serial_on s) h)))
block_awaits K0 K S x (f.within ends) (a.rest_within {r = r} (m.block_serial (gr.serial_exit {f = z} p s)) h) =
    let X : List Sym = Is t.Exit ∷ spells z (Closes b.Begin ∷ r) in
    rw (behind.unit_opens b.Begin p X, test.unit_unlabelled p X refl, told.unit_undeclared p X refl) (a.reads_node p (next refl) (a.unit_serial (a.block_ends (m.serial_out s) h)))
block_awaits K0 K S x (f.within {S = S'} ends) (a.rest_within {r = r} (m.block_serial (gr.serial_declaration {d = d} {f = z} p s)) h) =
    let X : List Sym = Is t.Semicolon ∷ spells z (Closes b.Begin ∷ r) in
    let h' = forms.behind_one (λ (w : Forest). K (node (part k.Closed (group b.Begin (part k.Serial w end) end) end) ∷ S') r) d (mark t.Semicolon end) z h in
    rw (spells_joined d (mark t.Semicolon z) (Closes b.Begin ∷ r), behind.declaration_opens b.Begin p X, behind.declaration_unlabelled p X, behind.declaration_ahead p X)
    (a.reads p (next refl) (a.takes (a.reads s (next refl) (a.closed h'))))
block_awaits K0 K S x (f.within ends) (a.rest_within (m.block_serial (gr.serial_labelled (gr.label q))) h) = a.reads (gr.label q) (next refl) (a.closed h)

pub block_unit_awaits : (K0 : Shape) (K : Awaited) (S : List Layer) (x : List Sym) → fits g.BlockUnit K0 S → awaits g.BlockUnit K S x → all_await (clauses.block_unit x) K S x
block_unit_awaits K0 K S x (f.within_unit p ends) (a.unit_comma q h) = a.takes (a.reads q (next refl) (a.closed h))
block_unit_awaits K0 K S x (f.within_unit p ends) (a.unit_serial (a.block_ends m.serial_end h)) = a.reads m.serial_end (next refl) (a.closed h)
block_unit_awaits K0 K S x (f.within_unit p ends) (a.unit_serial (a.block_ends (m.serial_on s) h)) = a.reads (m.serial_on s) (next refl) (a.closed h)
block_unit_awaits K0 K S x (f.within_unit p ends) (a.unit_serial (a.block_ends (m.serial_out s) h)) = a.reads (m.serial_out s) (next refl) (a.closed h)

pub parallel_awaits : (K0 : Shape) (K : Awaited) (S : List Layer) (x : List Sym) → fits g.Parallel K0 S → awaits g.Parallel K S x → all_await (clauses.parallel x) K S x
parallel_awaits K0 K S x (f.within_parallel ends) (a.parallel_units gr.closing_round p h) = a.opened (a.reads p (next refl) (a.closed h))
parallel_awaits K0 K S x (f.within_parallel ends) (a.parallel_units gr.closing_begin p h) = a.opened (a.reads p (next refl) (a.closed h))

pub case_choice_awaits : (K0 : Shape) (K : Awaited) (S : List Layer) (x : List Sym) → fits g.CaseChoice K0 S → awaits g.CaseChoice K S x → all_await (clauses.case_choice x) K S x
case_choice_awaits K0 K S x (f.within_enquiry p ends) (a.rest_within {r = r} (m.in_case {e = y} (gr.two {j = j} {u = u} {f = z} q s) e) h) =
    let X : List Sym = Is t.Comma ∷ spells z (spells y (Closes b.Case ∷ r)) in
    rw (spells_joined (part j u (mark t.Comma z)) y (Closes b.Case ∷ r), told.unit_unspecced q X) (a.reads_node q (next refl) (a.takes (a.reads s (behind.out_follows e (next refl)) (a.reads e (next refl) (a.closed h)))))
case_choice_awaits K0 K S x (f.within_enquiry p ends) (a.rest_within {r = r} (m.in_conformity {f = z} {e = y} q e) h) =
    rw (spells_joined z y (Closes b.Case ∷ r), told.choices_seen q (spells y (Closes b.Case ∷ r))) (a.reads q (behind.outc_follows e (next refl)) (a.reads e (next refl) (a.closed h)))

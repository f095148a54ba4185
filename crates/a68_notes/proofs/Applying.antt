-- Mode words that are applied: their definitions, and how far further in they stand.
use Rattle.std.proofs.Common.{◌≡◌, ◌<◌, ◌-◌, ◌∙◌, ℕ, List, length, refl, sym, ap, Option, Some, None}
use Rattle.std.specs.Prelude.{slice_index_or}
use Rattle.a68_declare.proofs.One.{word_one}
use Rattle.a68_declarers.proofs.There.{definition_there}
use Rattle.a68_declarers.specs.Declarers.{form_at}
use Rattle.a68_declarers.specs.declared.form.DeclarerForm.{DeclarerForm}
use Rattle.a68_declarers.specs.declared.form.DeclarerForm.TheVariants as forms
use Rattle.a68_frames.specs.Frames.{frames_of, has_slot}
use Rattle.a68_frames.specs.Tables.{AreFrames, FrameTables}
use Rattle.a68_notes.specs.Notes.{definition_of, target_of, HasFrames, IsDefinitionOf, IsDistance, IsStep, IsStepOf, IsWordOf}
use Rattle.a68_ranges.proofs.Looking.{lies_one}
use Rattle.a68_ranges.proofs.Taking.{read}
use Rattle.a68_ranges.specs.Links.{IsBelow}
use Rattle.a68_ranges.specs.Nodes.{name_at}
use Rattle.a68_ranges.specs.Standard.{IsModeWordOf}
use Rattle.a68_ranges.specs.Surroundings.{Lies}
use Rattle.a68_ranges.specs.Twice.{IsTwice}
use Rattle.a68_ranges.specs.declared.sort.IndicatorKind.TheVariants as sorts
use Rattle.a68_tree.specs.Trees.{Built}
use Rattle.a68_tree.specs.declared.kind.NodeKind.{NodeKind}
use Rattle.a68_tree.specs.declared.kind.NodeKind.TheVariants as kind
use Rattle.a68_tree.specs.declared.node.FrameStep.{FrameStep}
use Rattle.a68_yields.specs.declared.yielding.Finding.{Finding}

-- ---- as they are found

-- the definition of a mode word is a node
pub word_below : (tree : Built) (at name : ℕ) (found : Option ℕ) → IsModeWordOf tree at name found → IsBelow (length tree.nodes) found
word_below tree at name None is = tt
word_below tree at name (Some d) is = definition_there tree at sorts.ModeWord name d is

-- the frames about a node, as they are counted
pub has_frames : (tree : Built) (t : FrameTables) (at count : ℕ) → AreFrames tree t → at < length t.chain.about
    → ((ranges : List ℕ) → Lies tree at ranges → count ≡ frames_of tree ranges) → HasFrames tree at count
has_frames tree t at count are low all =
    let tells = are.chain.tells at (slice_index_or t.chain.about at None) (read t.chain.about at None low) in
    (tells.ranges, tells.lies, all tells.ranges tells.lies)

-- what is no declarer applies a value
pub is_value : (tree : Built) (tags : List (Option ℕ)) (n : ℕ) (found : Finding) (form : NodeKind) (d : Option ℕ) → (form ≡ kind.Declarer → ⊥)
    → d ≡ definition_of tree tags n found form → IsDefinitionOf tree tags n found form d
is_value tree tags n found kind.Declarer d other is = absurd (other refl)
is_value tree tags n found _ d other is = is

pub is_way : (tree : Built) (n : ℕ) (form : NodeKind) (d : Option ℕ) (step : FrameStep) → (form ≡ kind.Declarer → ⊥)
    → IsStep tree n (target_of n d (has_slot form)) step → IsStepOf tree n form d step
is_way tree n kind.Declarer d step other is = absurd (other refl)
is_way tree n _ d step other is = is

-- ---- they are one

one_count : (tree : Built) (n here there : ℕ) → HasFrames tree n here → HasFrames tree n there → here ≡ there
one_count tree n here there p q = p.2 ∙ ap (frames_of tree) (lies_one p.1 q.1 refl) ∙ sym q.2

distance : ℕ → ℕ → FrameStep
distance here there = record { hops = here - there; slot = 0 }

pub one_distance : (tree : Built) (n : ℕ) (d : Option ℕ) (s t : FrameStep) → IsDistance tree n d s → IsDistance tree n d t → s ≡ t
unfolding distance
one_distance tree n None s t p q = p ∙ sym q
one_distance tree n (Some d) s t p q =
    p.4 ∙ ap (λ k. distance k p.1) (one_count tree n p.0 q.0 p.2 q.2) ∙ ap (λ k. distance q.0 k) (one_count tree d p.1 q.1 p.3 q.3) ∙ sym q.4

module _ (tree : Built) (once : (id : ℕ) → IsTwice tree id → ⊥) where
  one_word : (n : ℕ) (form : DeclarerForm) (x y : Option ℕ) → IsWordOf tree n form x → IsWordOf tree n form y → x ≡ y
  one_word n forms.Word x y p q = word_one tree once n (name_at tree n) x y p q
  one_word n _ x y p q = p ∙ sym q

  pub one_definition : (tags : List (Option ℕ)) (n : ℕ) (found : Finding) (form : NodeKind) (x y : Option ℕ) → IsDefinitionOf tree tags n found form x
      → IsDefinitionOf tree tags n found form y → x ≡ y
  one_definition tags n found kind.Declarer x y p q = one_word n (form_at tree n) x y p q
  one_definition tags n found _ x y p q = p ∙ sym q

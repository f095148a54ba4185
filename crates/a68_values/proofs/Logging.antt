-- Entries written behind others.
use Rattle.std.proofs.Common.{◌≡◌, ◌++◌, [], ◌∷◌, ◌-◌, ℕ, zero, suc, List, length, ap, sym, refl, subst, arith, ◌∙◌, slice_index_or}
use Rattle.std.proofs.lemmas.List.Elements.{All-append}
use Rattle.std.proofs.lemmas.List.{get_or-append_right, get_or_append_left, map-append}
use Rattle.std.specs.List.{All}
use Rattle.a68_values.specs.Logs.{act_of, entries_of, entry_of, IsAmong}
use Rattle.a68_values.specs.declared.act.Act.{Act}
use Rattle.a68_values.specs.declared.log.ActKind.{ActKind}
use Rattle.a68_values.specs.declared.log.Brief.{Brief}
use Rattle.a68_values.specs.declared.log.Brief.TheVariants as brief
use Rattle.a68_values.specs.declared.log.Numbers.{Numbers}

abbrev nothing : Numbers
nothing = record { first = 0; second = 0 }

-- one more
pub all_among : (n : ℕ) (briefs : List Brief) (b : Brief) → All (IsAmong n) briefs → IsAmong n b → All (IsAmong n) (briefs ++ b ∷ [])
all_among n briefs b all among =
    let one : All (IsAmong n) (b ∷ []) = λ k d low. let first : zero ≡ k = omega (arith, low) in subst (λ (j : ℕ). IsAmong n (slice_index_or (b ∷ []) j d)) first among in
    All-append (IsAmong n) briefs (b ∷ []) all one

-- numbers more that stand apart change no entry
entry_kept : (apart : List Numbers) (e : Numbers) (b : Brief) → IsAmong (length apart) b → entry_of (apart ++ e ∷ []) b ≡ entry_of apart b
entry_kept apart e (brief.Enter frame) low = refl
entry_kept apart e (brief.Bind slot frame) low = refl
entry_kept apart e (brief.Look slot frame) low = refl
entry_kept apart e (brief.Make count base) low = refl
entry_kept apart e (brief.Fetch cell) low = refl
entry_kept apart e (brief.Assign cell) low = refl
entry_kept apart e brief.Turn low = refl
entry_kept apart e (brief.Wide k strand at) low = ap (λ (n : Numbers). record { strand = strand; act = act_of k n }) (get_or_append_left apart (e ∷ []) nothing at low)

entries_kept : (apart : List Numbers) (e : Numbers) (briefs : List Brief) → All (IsAmong (length apart)) briefs → entries_of (apart ++ e ∷ []) briefs ≡ entries_of apart briefs
entries_kept apart e [] all = refl
entries_kept apart e (b ∷ bs) all =
    let head = entry_kept apart e b (all zero b (omega arith)) in
    let tail = entries_kept apart e bs (λ k d low. all (suc k) d (omega (arith, low))) in
    rw (head, tail) refl

-- the entry that was written stands behind the others
pub written_wide : (apart : List Numbers) (n : Numbers) (briefs : List Brief) (k : ActKind) (strand at : ℕ) (a : Act) → All (IsAmong (length apart)) briefs → at ≡ length apart → act_of k n ≡ a
    → entries_of (apart ++ n ∷ []) (briefs ++ brief.Wide k strand at ∷ []) ≡ entries_of apart briefs ++ record { strand = strand; act = a } ∷ []
written_wide apart n briefs k strand at a all is same =
    let none : at - at ≡ zero = omega arith in
    let there : slice_index_or (apart ++ n ∷ []) at nothing ≡ n = get_or-append_right apart (n ∷ []) at at nothing (sym is) (omega arith) ∙ ap (λ (j : ℕ). slice_index_or (n ∷ []) j nothing) none in
    map-append (entry_of (apart ++ n ∷ [])) briefs (brief.Wide k strand at ∷ []) ∙ rw (entries_kept apart n briefs all, there, same) refl

-- The texts of a second file, of which no more was read than its limit allows.
use Rattle.std.proofs.Common.{◌≡◌, ◌≤◌, ◌<◌, ◌+◌, ◌⊎◌, ◌∙◌, inl, inr, ℕ, List, [], ◌∷◌, length, take, length-take, take-take, min, sym, subst, refl, arith, IfSome}
use Rattle.std.specs.Prelude.{None, Some}
use Rattle.std.proofs.lemmas.Bool.{cases_lt}
use Rattle.std.specs.declared.option.Option.{Option}
use Rattle.a68_base.proofs.Slices.{take_past}
use Rattle.a68_base.specs.declared.refusal.Refusal.{Refusal}
use Rattle.a68_command.specs.Words.{replay, run_on}
use Rattle.a68_elab.specs.Permitted.{Permitted}
use Rattle.a68_elab.specs.Programs.{program_of}
use Rattle.a68_emit.specs.Stretches.{Translates}
use Rattle.a68_input.specs.Lines.{BeginsLine, FirstBeyond, IsBeyond}
use Rattle.a68_replay.specs.Schedules.{IsBad, IsSchedule}
use Rattle.a68_strand.specs.RunOf.{RunOf}
use Rattle.a68_top.proofs.Told.{read_is, whole, whole_is}
use Rattle.a68_top.specs.Answer.{IsRefusal, IsReplayOf, IsRunOn, read_of, ran_on, refused_alone, refused_joined, replayed, short, stuck, too_long, unplayed, unread}
use Rattle.a68_top.specs.Commands.{HasReplayed, HasRunOn, bad, beyond_input, followed, joined_ran, joined_refused, no_end, no_turn, on_lines, picked}
use Rattle.a68_top.specs.Compiles.{Compiles, IsTreeOf, RefusedAs, RefusedBefore}
use Rattle.a68_top.specs.Ended.{HoldsOf}
use Rattle.a68_top.specs.Outcome.{Owes}
use Rattle.a68_top.specs.declared.finish.Finish.{Finish}
use Rattle.a68_top.specs.declared.finish.Made.{Made}
use Rattle.a68_tree.specs.Trees.{Built}
use Rattle.a68_values.specs.declared.kept.Kept.{Kept}

-- what holds of what was read holds of the bytes told, where it holds of all where it holds of so many
pub holds_of : (told : Option (List ℕ)) (n : ℕ) (read : List ℕ) (P : List ℕ → Type 0) → IfSome told (λ all. read ≡ take n all) → ((all : List ℕ) → P (take n all) → P all) → P read → HoldsOf told P
holds_of None n read P is grows p = record { bytes = read; are = tt; holds = p }
holds_of (Some all) n read P is grows p = record { bytes = all; are = refl; holds = grows all (subst P is p) }

-- ---- schedules

module _ (n : ℕ) (enough : 8388608 < n) where
  schedule_whole : (bytes picks : List ℕ) → IsSchedule (take n bytes) picks → IsSchedule bytes picks
  schedule_whole bytes picks s =
      let size : length (take n bytes) ≡ min n (length bytes) = length-take n bytes in
      let few : length bytes ≤ n = omega (arith, size, s.short) in
      subst (λ l. IsSchedule l picks) (take_past n bytes few) s

  bad_whole : (bytes : List ℕ) (place : ℕ) → IsBad (take n bytes) place → IsBad bytes place
  bad_whole bytes place b =
      let size : length (take n bytes) ≡ min n (length bytes) = length-take n bytes in
      let front : take place (take n bytes) ≡ take place bytes = take-take place n bytes (omega (arith, size, b.within)) in
      let next : take (place + 1) (take n bytes) ≡ take (place + 1) bytes = take-take (place + 1) n bytes (omega (arith, size, b.within)) in
      record {
        within = omega (arith, size, b.within);
        before = (b.before.0, subst (λ l. IsSchedule l b.before.0) front b.before.1);
        none = λ picks s. b.none picks (subst (λ l. IsSchedule l picks) (sym next) s);
      }

  pub replayed_whole : (made : Made) (finish : Finish) (out notes bytes : List ℕ) → HasReplayed made (take n bytes) finish out notes → HasReplayed made bytes finish out notes
  replayed_whole made finish out notes bytes (bad place b says) = bad place (bad_whole bytes place b) says
  replayed_whole made finish out notes bytes (picked picks s has) = picked picks (schedule_whole bytes picks s) has

module _ (text bytes : List ℕ) (finish : Finish) (out notes : List ℕ) where
  pub replay_of : (made : Made) → Compiles text made
      → ((fuel : ℕ) (kept : Kept) → Translates (program_of made.program) made.code → RunOf made.code fuel kept → Permitted (program_of made.program) fuel kept)
      → HasReplayed made bytes finish out notes → IsReplayOf text bytes finish out notes
  replay_of made c law (bad place b says) = unread made place c b says
  replay_of made c law (picked picks s (no_turn place is says)) = stuck made picks place c s is says
  replay_of made c law (picked picks s (no_end is says)) = short made picks c s is says
  replay_of made c law (picked picks s (followed has)) = replayed made picks c s has (law 16000000 has.kept c.translated has.machine)

-- ---- inputs

module _ (n : ℕ) (enough : 65536 < n) where
  begins_of_cut : (input : List ℕ) (count k : ℕ) → BeginsLine (take n input) count k → BeginsLine input count k
  begins_of_cut input count k b =
      let size : length (take n input) ≡ min n (length input) = length-take n input in
      record {
        within = omega (arith, size, b.within);
        whole = b.whole;
        before = sym (take-take k n input (omega (arith, size, b.within))) ∙ b.before;
        feeds = b.feeds;
        many = b.many;
      }

  cut_begins : (input : List ℕ) (count k : ℕ) → k < n → BeginsLine input count k → BeginsLine (take n input) count k
  cut_begins input count k low b =
      let size : length (take n input) ≡ min n (length input) = length-take n input in
      record {
        within = omega (arith, size, b.within);
        whole = b.whole;
        before = take-take k n input (omega arith) ∙ b.before;
        feeds = b.feeds;
        many = b.many;
      }

  beyond_of_cut : (input : List ℕ) (k : ℕ) → IsBeyond (take n input) k → IsBeyond input k
  beyond_of_cut input k (inl b) = let size : length (take n input) ≡ min n (length input) = length-take n input in inl (omega (arith, size, b.0), b.1)
  beyond_of_cut input k (inr b) = inr (begins_of_cut input 4096 k b)

  cut_beyond : (input : List ℕ) (k : ℕ) → k < n → IsBeyond input k → IsBeyond (take n input) k
  cut_beyond input k low (inl b) = let size : length (take n input) ≡ min n (length input) = length-take n input in inl (omega (arith, size, b.0), b.1)
  cut_beyond input k low (inr b) = inr (cut_begins input 4096 k low b)

  within_cut : (input : List ℕ) (k : ℕ) → IsBeyond (take n input) k → k < n
  within_cut input k (inl b) = omega (arith, b.1)
  within_cut input k (inr b) = let size : length (take n input) ≡ min n (length input) = length-take n input in omega (arith, size, b.within)

  first_whole : (input : List ℕ) (place : ℕ) → FirstBeyond (take n input) place → FirstBeyond input place
  first_whole input place f =
      record {
        beyond = beyond_of_cut input place f.beyond;
        first = λ k is. earlier k is (nat_cases k);
      }
    where
      nat_cases : (k : ℕ) → (k < n) ⊎ (n ≤ k)
      nat_cases k = cases_lt k n

      earlier : (k : ℕ) → IsBeyond input k → (k < n) ⊎ (n ≤ k) → place ≤ k
      earlier k is (inl low) = f.first k (cut_beyond input k low is)
      earlier k is (inr high) = let low = within_cut input place f.beyond in omega arith

  -- an input that is not too long was read whole
  whole_input : (input : List ℕ) → ((k : ℕ) → IsBeyond (take n input) k → ⊥) → take n input ≡ input
  whole_input input none = go (cases_lt (length input) n)
    where
      go : (length input < n) ⊎ (n ≤ length input) → take n input ≡ input
      go (inl low) = take_past n input (omega arith)
      go (inr high) =
          let size : length (take n input) ≡ min n (length input) = length-take n input in
          absurd (none 65536 (inl (omega (arith, size), refl)))

  pub run_on_whole : (text : List ℕ) (workers fuel : ℕ) (finish : Finish) (out notes : List ℕ) (input : List ℕ) → HasRunOn text (take n input) workers fuel finish out notes → HasRunOn text input workers fuel finish out notes
  run_on_whole text workers fuel finish out notes input (beyond_input place f says) = beyond_input place (first_whole input place f) says
  run_on_whole text workers fuel finish out notes input (on_lines lines are none has) =
      subst (λ l. HasRunOn text l workers fuel finish out notes) (whole_input input none) (on_lines lines are none has)

module _ (text input : List ℕ) (tree : Built) (is : IsTreeOf text tree) (workers fuel : ℕ) (finish : Finish) (out notes : List ℕ) where
  pub run_on_of : HasRunOn text input workers fuel finish out notes → IsRunOn text input workers fuel finish out notes
  run_on_of (beyond_input place f says) = too_long tree place is f says
  run_on_of (on_lines lines are none (joined_refused refusal why says)) = refused_joined tree lines refusal is are none why says
  run_on_of (on_lines lines are none (joined_ran made c has permitted)) = ran_on tree lines made is are none c has permitted

-- ---- both files

module _ (under : List ℕ → Option (List ℕ)) (file other text : List ℕ) (read : IfSome (under file) (λ all. text ≡ read_of all)) (fits : length text ≤ 1048577) (finish : Finish) (out notes : List ℕ) where
  pub owes_replay : (bytes : List ℕ) → IfSome (under other) (λ all. bytes ≡ all) → IsReplayOf text bytes finish out notes → Owes (Some (replay file other)) under finish out notes
  owes_replay bytes are a =
      record {
        texts = whole (under file) text ∷ bytes ∷ [];
        texts_are = (whole_is (under file) text, (are, tt));
        answer = subst (λ t. IsReplayOf t bytes finish out notes) (read_is (under file) text read fits) a;
      }

  pub owes_run_on : (workers fuel : ℕ) (bytes : List ℕ) → IfSome (under other) (λ all. bytes ≡ all) → IsRunOn text bytes workers fuel finish out notes → Owes (Some (run_on file other workers fuel)) under finish out notes
  owes_run_on workers fuel bytes are a =
      record {
        texts = whole (under file) text ∷ bytes ∷ [];
        texts_are = (whole_is (under file) text, (are, tt));
        answer = subst (λ t. IsRunOn t bytes workers fuel finish out notes) (read_is (under file) text read fits) a;
      }

  -- what a program owes for the bytes that the shelf tells of the other file, where it has told all names as it does now
  pub replayed_by : (later : List ℕ → Option (List ℕ)) → later ≡ under → (made : Made) → Compiles text made
      → ((fuel : ℕ) (kept : Kept) → Translates (program_of made.program) made.code → RunOf made.code fuel kept → Permitted (program_of made.program) fuel kept)
      → HoldsOf (later other) (λ bytes. HasReplayed made bytes finish out notes) → Owes (Some (replay file other)) under finish out notes
  replayed_by later same made c law h =
      let are : IfSome (under other) (λ all. h.bytes ≡ all) = subst (λ (u : List ℕ → Option (List ℕ)). IfSome (u other) (λ all. h.bytes ≡ all)) same h.are in
      owes_replay h.bytes are (replay_of text h.bytes finish out notes made c law h.holds)

  pub run_on_by : (later : List ℕ → Option (List ℕ)) → later ≡ under → (tree : Built) → IsTreeOf text tree → (workers fuel : ℕ)
      → HoldsOf (later other) (λ bytes. HasRunOn text bytes workers fuel finish out notes) → Owes (Some (run_on file other workers fuel)) under finish out notes
  run_on_by later same tree is workers fuel h =
      let are : IfSome (under other) (λ all. h.bytes ≡ all) = subst (λ (u : List ℕ → Option (List ℕ)). IfSome (u other) (λ all. h.bytes ≡ all)) same h.are in
      owes_run_on workers fuel h.bytes are (run_on_of text h.bytes tree is workers fuel finish out notes h.holds)

  -- where the first text is refused the second was not read, and is what the shelf tells
  pub refused_replay : (refusal : Refusal) → RefusedAs text refusal → IsRefusal refusal finish out notes → Owes (Some (replay file other)) under finish out notes
  refused_replay refusal why says = owes_replay (whole (under other) []) (whole_is (under other) []) (unplayed refusal why says)

  pub refused_run_on : (workers fuel : ℕ) (refusal : Refusal) → RefusedBefore text refusal → IsRefusal refusal finish out notes → Owes (Some (run_on file other workers fuel)) under finish out notes
  refused_run_on workers fuel refusal why says = owes_run_on workers fuel (whole (under other) []) (whole_is (under other) []) (refused_alone refusal why says)

-- How many frames stand about nodes.
use Rattle.std.proofs.Common.{◌≡◌, ◌<◌, ℕ, ◌+◌, ◌-◌, Bool, true, false, List, [], ◌∷◌, ◌++◌, length, refl, arith, subst, None}
use Rattle.std.specs.Prelude.{slice_index_or, if◌then◌else◌}
use Rattle.a68_ranges.proofs.Taking.{read}
use Rattle.a68_ranges.proofs.Looking.{lies_one}
use Rattle.a68_ranges.specs.Surroundings.{Lies}
use Rattle.a68_frames.specs.Frames.{makes_frame, frames_of}
use Rattle.a68_frames.specs.Tables.{Framed, AreFrames, FrameTables}
use Rattle.a68_tree.specs.Trees.{Built}

pub frames_are : (tree : Built) (t : FrameTables) (at result : ℕ) (ranges : List ℕ) → AreFrames tree t → at < length t.chain.about → Lies tree at ranges
    → ((rs : List ℕ) → Framed tree t.chain.frames (slice_index_or t.chain.about at None) rs → result ≡ frames_of tree rs) → result ≡ frames_of tree ranges
frames_are tree t at result ranges are low lies all =
    let tells = are.chain.tells at (slice_index_or t.chain.about at None) (read t.chain.about at None low) in
    subst (λ rs. result ≡ frames_of tree rs) (lies_one tells.lies lies refl) (all tells.ranges tells.framed)

frames_append : (tree : Built) (inner outer : List ℕ) → frames_of tree (inner ++ outer) ≡ frames_of tree inner + frames_of tree outer
frames_append tree [] outer = omega arith
frames_append tree (r ∷ rs) outer = go (makes_frame tree r) (frames_append tree rs outer)
  where
    go : (b : Bool) → frames_of tree (rs ++ outer) ≡ frames_of tree rs + frames_of tree outer
        → (if b then frames_of tree (rs ++ outer) + 1 else frames_of tree (rs ++ outer)) ≡ (if b then frames_of tree rs + 1 else frames_of tree rs) + frames_of tree outer
    go true e = omega arith
    go false e = e

pub hops_are : (tree : Built) (inner outer : List ℕ) (all out result : ℕ) → all ≡ frames_of tree (inner ++ outer) → out ≡ frames_of tree outer → result ≡ all - out → result ≡ frames_of tree inner
hops_are tree inner outer all out result a b r = let sum = frames_append tree inner outer in omega arith

-- Inner: the headline does not rest on this file.
-- States of a store.
use Rattle.std.specs.Prelude.{[], ◌∷◌, None, Some, pos}
use Rattle.a68_acts.specs.Store.{Store, standard_frame}
use Rattle.a68_values.specs.Content.{plain}
use Rattle.a68_values.specs.declared.plain.Plain.TheVariants.{Int}

-- a frame of two slots within the standard one
abbrev pub entered : Store
entered = record { cells = []; frames = standard_frame ∷ (record { outer = 0; scope = 1; slots = None ∷ None ∷ [] }) ∷ []; text = []; strands = 1 }

-- its first slot is bound to 5
abbrev pub bound : Store
bound = record { cells = []; frames = standard_frame ∷ (record { outer = 0; scope = 1; slots = Some (plain (Int (pos 5))) ∷ None ∷ [] }) ∷ []; text = []; strands = 1 }

-- the two units of a parallel clause are strands 1 and 2
abbrev pub forked : Store
forked = record { cells = []; frames = standard_frame ∷ []; text = []; strands = 3 }

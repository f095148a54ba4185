-- Inner: the headline does not rest on this file.
-- The instructions of conformity clauses, piece by piece.
use Rattle.std.specs.Prelude.{◌≡◌, ◌+◌, ℕ, Bool, true, false, List, [], ◌∷◌, ◌++◌, length, if◌then◌else◌}
use Rattle.a68_code.specs.declared.code.Instr.{Instr}
use Rattle.a68_code.specs.declared.does.Does.{Does}
use Rattle.a68_code.specs.declared.does.Does.TheVariants as does
use Rattle.a68_elab.specs.Trees.{Tree, Specs, no_specs, spec}
use Rattle.a68_emit.specs.Listing.{instr, size, spec_places, spec_sizes, spec_stretches, stretch}
use Rattle.a68_emit.specs.Stretches.{leave, member_places, wholes_of}
use Rattle.a68_modes.specs.declared.shape.Shape.{Shape}
use Rattle.a68_modes.specs.declared.shape.Shape.TheVariants as shape

-- the members that a specification of this mode takes
abbrev pub takes_of : Shape → (mode : ℕ) → List ℕ
takes_of (shape.Union members) m = members
takes_of s m = m ∷ []

-- a specification up to its jump to the end: with a tag Enter 1, Bind 0, the part, Leave, without one Drop and the part
abbrev pub spec_body : (place : ℕ) (yields tagged : Bool) → Tree → (at : ℕ) → List Instr
spec_body place yields true t at = instr place (does.Enter 1) ∷ instr place (does.Bind 0) ∷ (stretch t (at + 2) ++ instr place (leave yields) ∷ [])
spec_body place yields false t at = instr place does.Drop ∷ stretch t (at + 1)

-- how long that is
abbrev pub spec_size : (tagged : Bool) → Tree → ℕ
spec_size tagged t = (if tagged then 3 else 1) + size t

-- where the jumps to the end stand
abbrev pub spec_jumps : Specs → (at : ℕ) → List ℕ
spec_jumps no_specs at = []
spec_jumps (spec takes tagged united t behind) at = (at + spec_size tagged t) ∷ spec_jumps behind (at + (spec_size tagged t + 1))

-- behind the enquiry: Member, each part with its frame and Jump e, x: the part for none, e:
abbrev pub conform_list : (place union : ℕ) (members : List ℕ) (yields : Bool) (specs : Specs) (out : Tree) (at : ℕ) → List Instr
conform_list place union members yields specs out at =
    let m = at + 1 in
    let x = m + spec_sizes specs in
    instr place (does.Member union (member_places members specs (spec_places specs m) x) (wholes_of members specs))
    ∷ (spec_stretches place (x + size out) yields specs m ++ stretch out x)

-- a Member whose places, of which there are so many, are yet to come
pub record IsUnaimed (union count : ℕ) (wholes : List ℕ) (d : Does) : Type 0 where
  pub zeros : List ℕ
  pub many : length zeros ≡ count
  pub is : d ≡ does.Member union zeros wholes

-- How the law is proved, from below. Relation: a strand's state stands for a term, whose translation is what the strand has left to do.
-- Landings: the clauses with labels about the strand's place, each with the stack and the frames to which a jump to it comes back.
-- Asking, Operating, Jobs, Calling, Conforming, Forking: what the machine asks for next is what the rules say comes next, construct by construct.
-- Quiet, Follow, Settling: so silent instructions are followed by silent steps, up to the next act, fault or end.
-- Routines, Finishing: the work of one strand, from where it is entered to its end.
-- Family, Locating, Beginning, Rousing: the strands of a world are parts of one term, and each goes on at its own place in it.
-- Forks, Worlds: an entry of any strand is an act of the elaboration, and both go on.
-- Halting, Ending: where the run ends the elaboration has that end. Faulting: a fault lies where a construct of the program begins.
-- Whole: by induction on the journal, the law.
-- Texts, Examples, Counting, Declared, Looped, Called, Casing, Jumping, Turning, Paralleled: journals that were computed by hand.
pub mod Asking
pub mod Beginning
pub mod Called
pub mod Calling
pub mod Casing
pub mod Conforming
pub mod Counting
pub mod Declared
pub mod Ending
pub mod Examples
pub mod Family
pub mod Faulting
pub mod Finishing
pub mod Follow
pub mod Forking
pub mod Forks
pub mod Halting
pub mod Jobs
pub mod Jumping
pub mod Landings
pub mod Lists
pub mod Locating
pub mod Looped
pub mod Operating
pub mod Paralleled
pub mod Quiet
pub mod Relation
pub mod Rousing
pub mod Routines
pub mod Settling
pub mod Texts
pub mod Turning
pub mod Whole
pub mod Worlds

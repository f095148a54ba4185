pub mod Pieces
pub mod FilesLemmas

-- What the reader of a line answers, piece by piece.
pub mod Draft
pub mod Pieces
pub mod Reading

pub mod Law
pub mod Told
pub mod Steps
pub mod Joined
pub mod Passing
pub mod Texts
pub mod Pieces
pub mod PlacesLeft

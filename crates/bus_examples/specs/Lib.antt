pub mod Frames
pub mod Live
pub mod Pairing
pub mod Watching

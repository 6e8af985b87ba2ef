pub mod Check
pub mod Division
pub mod FrameCheck
pub mod Folded
pub mod Laws
pub mod Internal

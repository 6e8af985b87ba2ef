pub mod Listing
pub mod Gather
pub mod Run
pub mod Known

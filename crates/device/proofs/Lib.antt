pub mod Same
pub mod Checks
pub mod Stamps
pub mod Parts
pub mod Own

pub mod Makes
pub mod Keys
pub mod Groups
pub mod Pairs

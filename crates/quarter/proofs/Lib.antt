pub mod Splitting
pub mod Requests

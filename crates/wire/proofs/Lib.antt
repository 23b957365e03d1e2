pub mod Numbers
pub mod Sizes
pub mod Accepted
pub mod Reading
pub mod Writing
pub mod Requests
pub mod Digests
pub mod Parts

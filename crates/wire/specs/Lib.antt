pub mod Groups
pub mod Refusals
pub mod Messages
pub mod Forms
pub mod Laws
pub mod Texts

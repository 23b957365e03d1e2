pub mod Sets
pub mod Seats
pub mod Orders
pub mod Trails
pub mod Laws

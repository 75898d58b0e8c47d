-- The language: what the laws cite, all the way down.
pub mod System
pub mod Pairs
pub mod Databases
pub mod Laws
pub mod Examples

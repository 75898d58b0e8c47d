-- The language: what the contracts of public calls cite, all the way down.
pub mod Item
pub mod Statement
pub mod Database
pub mod Locating
pub mod Laws
pub mod Examples

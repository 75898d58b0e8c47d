-- Lists, whatever they are of.

pub mod Members
pub mod Zips

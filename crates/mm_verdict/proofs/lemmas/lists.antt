-- Lists, whatever they are of.

pub mod Every
pub mod Members

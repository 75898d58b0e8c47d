-- Lists and rising numbers, whatever they are of.

pub mod Growing
pub mod ItemLists
pub mod Members
pub mod Rising
pub mod SharedValues

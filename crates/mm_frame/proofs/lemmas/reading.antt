-- What an item says, from what an older base knows of it.

pub mod KnownItems

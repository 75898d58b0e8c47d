pub use Rattle.mm_machine.specs as mm_machine
pub use Rattle.mm_statement.specs as mm_statement
pub use Rattle.mm_store.specs as mm_store
pub use Rattle.mm_store.specs.mm_text
pub mod Language
pub mod Code

pub use Rattle.mm_machine.specs as mm_machine
pub use Rattle.mm_frame.specs as mm_frame
pub use Rattle.mm_frame.specs.mm_statement
pub use Rattle.mm_frame.specs.mm_store
pub use Rattle.mm_frame.specs.mm_text
pub mod Language
pub mod Code

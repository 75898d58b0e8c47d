pub use Rattle.mm_frame.specs as mm_frame
pub use Rattle.mm_keep.specs as mm_keep
pub use Rattle.mm_keep.specs.mm_verdict
pub use Rattle.mm_keep.specs.mm_statement
pub use Rattle.mm_keep.specs.mm_machine
pub use Rattle.mm_keep.specs.mm_store
pub mod Language

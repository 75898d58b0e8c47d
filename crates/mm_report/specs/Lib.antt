pub use Rattle.mm_script.specs as mm_script
pub use Rattle.mm_keep.specs as mm_keep
pub use Rattle.mm_keep.specs.mm_proof
pub use Rattle.mm_keep.specs.mm_verdict
pub use Rattle.mm_keep.specs.mm_frame
pub use Rattle.mm_keep.specs.mm_statement
pub use Rattle.mm_keep.specs.mm_machine
pub use Rattle.mm_keep.specs.mm_store
pub use Rattle.mm_keep.specs.mm_text
pub mod Language
pub mod Code

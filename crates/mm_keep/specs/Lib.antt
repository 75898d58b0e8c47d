pub use Rattle.mm_proof.specs as mm_proof
pub use Rattle.mm_proof.specs.mm_verdict
pub use Rattle.mm_proof.specs.mm_frame
pub use Rattle.mm_proof.specs.mm_statement
pub use Rattle.mm_proof.specs.mm_machine
pub use Rattle.mm_proof.specs.mm_store
pub use Rattle.mm_proof.specs.mm_text
pub mod Language
pub mod Code

pub use Rattle.mm_store.specs as mm_store
pub use Rattle.mm_store.specs.mm_text
pub mod Language
pub mod Code

pub use Rattle.mm_text.specs as mm_text
pub mod Language
pub mod Code

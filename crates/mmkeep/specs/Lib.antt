pub use Rattle.mm_report.specs as mm_report
pub use Rattle.mm_report.specs.mm_script
pub use Rattle.mm_report.specs.mm_keep
pub use Rattle.mm_report.specs.mm_proof
pub use Rattle.mm_report.specs.mm_verdict
pub use Rattle.mm_report.specs.mm_frame
pub use Rattle.mm_report.specs.mm_statement
pub use Rattle.mm_report.specs.mm_machine
pub use Rattle.mm_report.specs.mm_store
pub use Rattle.mm_report.specs.mm_text
pub mod Language
pub mod Code

pub mod Systems
pub mod Written
pub mod Cases
pub mod Translate
pub mod Readable

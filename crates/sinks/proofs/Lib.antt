pub mod Folds
pub mod Ends

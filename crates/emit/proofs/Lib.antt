pub mod Sent
pub mod Expressions
pub mod OwnRows
pub mod Turns
pub mod CaseTexts
pub mod ByIndex
pub mod GroupsWhole
pub mod Values

pub mod Digits
pub mod Expecting
pub mod Forms
pub mod Readings
pub mod Wholes
pub mod Parts

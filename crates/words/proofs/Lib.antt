pub mod Decimal
pub mod Signs
pub mod Stopping
pub mod Lettered
pub mod Choosing
